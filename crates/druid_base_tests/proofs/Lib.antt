pub mod OthersLemmas
mod ReplicaLemmas
