pub mod ChildrenRoom
pub mod WrittenBits
pub mod WrittenLaws
pub mod OneWritten
pub mod ColumnTexts
pub mod ShortFile
