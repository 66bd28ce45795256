-- what public contracts rest on
pub mod Metrics
pub mod Names
pub mod Rows
pub mod Segment
pub mod Columns
pub mod Texts
-- words of private contracts
pub mod Numbering
pub mod Table
