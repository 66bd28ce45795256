-- what public contracts rest on
pub mod Names
pub mod Identifier
pub mod Parsed
pub mod Group
pub mod IdentifierLaws
