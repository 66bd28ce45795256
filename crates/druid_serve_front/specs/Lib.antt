-- what public contracts rest on
pub mod Seats
pub mod Answers
-- words of private contracts
pub mod ConnectionEnds
pub mod Requests
