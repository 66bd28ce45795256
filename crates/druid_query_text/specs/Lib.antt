-- words of private contracts
pub mod Found
pub mod Levels
pub mod Members
pub mod Names
pub mod Parts
