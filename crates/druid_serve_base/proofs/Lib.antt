pub mod FoldLemmas
mod PrintLemmas
