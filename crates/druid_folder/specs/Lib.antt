-- what public contracts rest on
pub mod FileName
pub mod Folder
