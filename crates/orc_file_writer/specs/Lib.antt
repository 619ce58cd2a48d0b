pub mod RowLimits
pub mod Counts
pub mod Counting
pub mod Writing
pub mod Progress
pub mod Pushing
pub mod laws
