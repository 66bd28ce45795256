pub mod TakenLemmas
pub mod PartLemmas
pub mod LineLemmas
pub mod WriteLemmas
