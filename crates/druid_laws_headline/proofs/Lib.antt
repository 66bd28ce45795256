pub mod HeadlineLemmas
pub mod FoldLemmas
pub mod TextLemmas
pub mod WordLemmas
pub mod HonestLemmas
pub mod AskLemmas
pub mod FetchLemmas
mod SocketLemmas
