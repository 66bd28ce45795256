-- what public contracts rest on
pub mod Pages
pub mod Assembly
-- words of private contracts
pub mod PageSizes
