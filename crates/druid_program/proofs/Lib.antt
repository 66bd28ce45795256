pub mod WordLemmas
pub mod ReasonLemmas
