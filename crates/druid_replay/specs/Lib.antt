-- what public contracts rest on
pub mod Commands
pub mod Reasons
pub mod Answers
pub mod Execution
pub mod Lines
pub mod Runs
pub mod Faults
-- words of private contracts
pub mod Seen
pub mod Nodes
