-- what public contracts rest on
pub mod Chunks
pub mod Edits
pub mod Places
