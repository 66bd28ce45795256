-- what public contracts rest on
pub mod Queries
pub mod Routes
pub mod Borrowed
pub mod Views
-- words of private contracts
pub mod Rows
pub mod Questions
