pub mod SeatLemmas
pub mod ReadLemmas
pub mod AnswerLemmas
