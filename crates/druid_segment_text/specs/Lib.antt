-- what public contracts rest on
pub mod Json
-- words of private contracts
pub mod Tokens
