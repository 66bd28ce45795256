-- what public contracts rest on
pub mod Turns
pub mod Rests
-- words of private contracts
pub mod Refused
pub mod Pages
pub mod Shown
