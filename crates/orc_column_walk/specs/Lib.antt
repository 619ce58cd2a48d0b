pub mod OwnColumns
pub mod OwnLeft
pub mod OwnFaults
pub mod ColumnFound
pub mod Passed
