-- what public contracts rest on
pub mod Limits
pub mod Frame
pub mod Heads
pub mod Messages
pub mod Grammar
pub mod Written
pub mod Response
pub mod Served
pub mod Missing
-- words of private contracts
pub mod Parts
pub mod Bodies
pub mod HeadParts
