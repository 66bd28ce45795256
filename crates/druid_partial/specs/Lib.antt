-- what public contracts rest on
pub mod Groups
pub mod Joined
pub mod Partials
pub mod Answer
-- words of private contracts
pub mod Orders
pub mod First
