mod SoughtRuns
mod SoughtBits
mod StreamsEntered
mod ValuesTurned
mod SomeValues
mod OwnLemmas
mod ColumnTurned
mod ByColumn
pub mod SameLeft
mod AllColumns
pub mod OnlyMemory
mod Refused
mod RunStarts
mod PassedRuns
mod ReadersBehind
mod SourcesBehind
mod TreeBehind
pub mod ColumnsBehind
