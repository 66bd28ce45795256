-- what public contracts rest on
pub mod Plan
pub mod Gathered
pub mod Rounds
pub mod Order
pub mod Exact
-- words of private contracts
pub mod Planned
pub mod Pending
pub mod Slices
pub mod Exchanges
