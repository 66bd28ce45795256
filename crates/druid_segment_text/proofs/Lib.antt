pub mod JsonLemmas
pub mod TokenLemmas
pub mod WrittenLemmas
