pub mod Files
pub mod ReadPart
