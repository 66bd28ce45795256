-- what public contracts rest on
pub mod Nodes
pub mod Exchanges
pub mod FollowedNodes
pub mod Answers
