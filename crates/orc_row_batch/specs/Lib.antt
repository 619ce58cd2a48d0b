pub mod Kept
pub mod Keeping
pub mod RowsFrom
pub mod Batch
