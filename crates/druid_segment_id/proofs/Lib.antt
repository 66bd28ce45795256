pub mod OrderLemmas
pub mod GroupLemmas
pub mod IdentifierLemmas
pub mod NameLemmas
pub mod EqualLemmas
pub mod ParsedLemmas
pub mod SpelledLemmas
