pub mod SetLemmas
pub mod HistoryLemmas
pub mod FollowLemmas
