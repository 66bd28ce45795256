pub mod FolderLemmas
pub mod KnownLemmas
pub mod SegmentFileLemmas
pub mod WatchLemmas
