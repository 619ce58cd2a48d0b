pub mod FileRows
pub mod StripeCaps
pub mod RowFaults
pub mod Honest
pub mod Loading
