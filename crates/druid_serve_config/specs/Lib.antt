-- what public contracts rest on
pub mod Limits
pub mod Addresses
pub mod Configs
pub mod Read
pub mod BadFields
-- words of private contracts
pub mod Borrowed
pub mod Parts
