-- what public contracts rest on
pub mod Served
-- words of private contracts
pub mod Links
pub mod Answers
