pub mod LinkLemmas
pub mod PartLemmas
