-- what public contracts rest on
pub mod Instant
pub mod Extent
pub mod Civil
pub mod Texts
pub mod Granularity
-- words of private contracts
pub mod Results
