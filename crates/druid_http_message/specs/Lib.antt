-- what public contracts rest on
pub mod Requests
