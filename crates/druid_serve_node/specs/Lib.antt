-- what public contracts rest on
pub mod Faults
pub mod Files
pub mod Looks
pub mod Totals
-- words of private contracts
pub mod Layout
pub mod SegmentFiles
