mod CompleteLemmas
pub mod CountLemmas
mod OneLemmas
mod PairLemmas
pub mod SlotLemmas
