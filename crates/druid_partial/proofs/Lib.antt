pub mod OrderLemmas
pub mod NumberLemmas
pub mod GroupLemmas
pub mod MergedLemmas
pub mod JoinLemmas
pub mod BucketLemmas
pub mod MovedLemmas
