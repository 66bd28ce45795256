pub mod AmongLemmas
pub mod BackLemmas
pub mod PieceLemmas
