-- what public contracts rest on
pub mod Disk
pub mod Event
pub mod Fuse
pub mod Honest
pub mod HonestLaws
pub mod Noted
pub mod Record
pub mod RecordLaws
pub mod System
-- words of private contracts
pub mod Model
pub mod Unknown
