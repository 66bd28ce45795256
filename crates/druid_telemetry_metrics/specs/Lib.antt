pub mod Text
pub mod Pieces
pub mod Routes
pub mod Families
pub mod Response
pub mod Counted
