pub mod AskLemmas
pub mod BackLemmas
pub mod FormLemmas
pub mod TextLemmas
mod WrittenLemmas
mod AskBackLemmas
