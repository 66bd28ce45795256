-- what public contracts rest on
pub mod Parts
pub mod Lines
pub mod Fronts
pub mod Taken
