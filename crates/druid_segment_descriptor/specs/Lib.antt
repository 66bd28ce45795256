-- what public contracts rest on
pub mod Described
pub mod Mark
pub mod Reply
pub mod ReplyBody
pub mod Replay
pub mod Orders
