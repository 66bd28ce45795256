-- what public contracts rest on
pub mod State
pub mod Answers
pub mod Routes
pub mod Files
pub mod Seen
-- words of private contracts
pub mod Held
pub mod Questions
pub mod Placed
