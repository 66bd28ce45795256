-- what public contracts rest on
pub mod Values
pub mod Filters
pub mod FilterCode
