-- what public contracts rest on
pub mod Limits
pub mod Query
pub mod Refusal
pub mod Filters
pub mod Fields
pub mod Asked
pub mod Read
pub mod Written
pub mod AskedOrder
pub mod PieceOrder
pub mod SubQuery
pub mod Refused
