-- what public contracts rest on
pub mod Limits
pub mod Links
pub mod Exchanged
pub mod MemoryLinks
pub mod TcpLinks
-- words of private contracts
pub mod Noted
pub mod Times
