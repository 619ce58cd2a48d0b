pub mod RunStreams
pub mod Positions
pub mod RowIndex
pub mod Walking
pub mod OwnCells
pub mod EntryText
