pub mod Opening
pub mod Opened
pub mod Cursors
pub mod TextCursors
pub mod RowIndexes
pub mod ColumnGroups
pub mod GroupCursors
pub mod IndexTexts
