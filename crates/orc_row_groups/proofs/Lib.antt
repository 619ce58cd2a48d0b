pub mod Counted
pub mod OwnLemmas
pub mod Groups
pub mod SubtreeLemmas
pub mod GroupLemmas
pub mod BoundLemmas
pub mod OctetLemmas
