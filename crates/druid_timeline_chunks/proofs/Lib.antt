pub mod ChunkLemmas
pub mod EditLemmas
pub mod OrderLemmas
pub mod OverlapLemmas
pub mod PlaceLemmas
pub mod UndoLemmas
