pub mod StepLemmas
pub mod ChainLemmas
pub mod AskedLemmas
pub mod PartLemmas
pub mod BackLemmas
pub mod ExtentLemmas
pub mod SoundLemmas
