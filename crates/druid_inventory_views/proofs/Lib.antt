pub mod FoldLemmas
pub mod RisesLemmas
pub mod FaultLemmas
pub mod Beginnings
pub mod AddLemmas
pub mod PlaceLemmas
