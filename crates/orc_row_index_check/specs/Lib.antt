pub mod Tables
pub mod ColumnTables
pub mod Decided
pub mod CountedBefore
