pub mod PlainLemmas
pub mod RefusalLemmas
