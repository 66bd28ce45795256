-- what public contracts rest on
pub mod Incarnation
-- words of private contracts
pub mod KeptFile
