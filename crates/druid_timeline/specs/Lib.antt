-- what public contracts rest on
pub mod Holding
pub mod Visible
pub mod Pieces
pub mod Chunks
pub mod Overshadowed
pub mod Candidates
pub mod Edited
pub mod Transactions
pub mod Exchanges
-- words of private contracts
pub mod Stretches
pub mod Skyline
pub mod Known
