-- what public contracts rest on
pub mod Rows
pub mod Once
pub mod SliceGroups
-- words of private contracts
pub mod Places
pub mod Entries
pub mod CodeFilters
pub mod Scans
pub mod Cells
pub mod Slices
