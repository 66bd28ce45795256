-- what public contracts rest on
pub mod Fold
pub mod Rules
pub mod Places
pub mod Floor
pub mod Faults
