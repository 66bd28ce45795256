pub mod AddressLemmas
pub mod DepthLemmas
pub mod FormLemmas
pub mod LimitLemmas
pub mod PartLemmas
pub mod BadLemmas
pub mod WordLemmas
