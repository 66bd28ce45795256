pub mod CivilLemmas
pub mod TextLemmas
pub mod PrintedLemmas
mod ReadLemmas
pub mod ExtentLemmas
mod MergeLemmas
mod BucketLemmas
