pub mod CutLemmas
pub mod OrderLemmas
pub mod PartLemmas
pub mod SameLemmas
pub mod SetLemmas
pub mod TakeLemmas
pub mod WholeLemmas
