pub mod TurnLemmas
pub mod PageLemmas
