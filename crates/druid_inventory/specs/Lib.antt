-- what public contracts rest on
pub mod Entry
pub mod Join
pub mod Equality
pub mod Step
pub mod Assembly
pub mod Sources
pub mod Timelines
-- words of private contracts
pub mod Judged
pub mod Kept
pub mod Ways
pub mod Transactions
pub mod Merged
pub mod Moves
pub mod Plan
