pub mod Refilled
pub mod RowsBack
pub mod KeptLemmas
pub mod KeepSteps
pub mod BatchLemmas
