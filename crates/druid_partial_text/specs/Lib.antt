-- what public contracts rest on
-- words of private contracts
pub mod Answers
pub mod Borrowed
pub mod Missed
pub mod Named
pub mod Read
pub mod Spelt
pub mod Tokens
pub mod Written
