pub mod Levels
pub mod Events
pub mod Outages
pub mod Codes
pub mod Refusals
