-- what public contracts rest on
pub mod Kept
pub mod Answer
-- words of private contracts
pub mod Segments
