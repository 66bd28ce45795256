-- what public contracts rest on
pub mod Written
pub mod Read
pub mod Asks
pub mod Back
-- words of private contracts
pub mod Borrowed
pub mod Given
pub mod FirstFault
