-- what public contracts rest on
pub mod Limits
pub mod Monitored
pub mod Snapshots
-- words of private contracts
pub mod Ceilings
pub mod Marks
pub mod Faults
pub mod Spans
