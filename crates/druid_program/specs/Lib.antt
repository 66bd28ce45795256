-- what public contracts rest on
pub mod Exits
pub mod Words
pub mod Reasons
pub mod Ends
pub mod Asked
