-- what public contracts rest on
pub mod World
pub mod Run
-- words of private contracts
pub mod Node
