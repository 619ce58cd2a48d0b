pub mod Opened
pub mod RowsLemmas
pub mod OneStripe
mod IndexBytes
mod IndexTextLemmas
mod GroupCells
mod ColumnsDown
mod IndexFaults
mod GroupTurned
mod GroupStarts
pub mod SpelledBehind
mod FaultsBehind
mod CursorTexts
