-- what public contracts rest on
pub mod Timeouts
