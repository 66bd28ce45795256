-- what public contracts rest on
pub mod Headline
