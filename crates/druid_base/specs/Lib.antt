-- what public contracts rest on
pub mod Json
pub mod Fields
pub mod Options
pub mod Each
pub mod Distinct
pub mod Numbers
