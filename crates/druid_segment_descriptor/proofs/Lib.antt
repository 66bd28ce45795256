pub mod SortedLemmas
pub mod DescribedLemmas
pub mod ReplayLemmas
pub mod PlaceLemmas
