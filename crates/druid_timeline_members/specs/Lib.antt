-- what public contracts rest on
pub mod Holders
pub mod Members
pub mod Slots
