pub mod HeldLemmas
pub mod TombstoneLemmas
pub mod StateLemmas
pub mod AnswerLemmas
pub mod FileLemmas
pub mod SeenLemmas
pub mod RowLemmas
pub mod PlaceLemmas
