pub mod Bounds
pub mod Groups
pub mod Counts
pub mod OwnCells
pub mod Subtrees
