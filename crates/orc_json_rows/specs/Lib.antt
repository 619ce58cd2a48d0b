pub mod Days
pub mod FieldNames
pub mod KnownKeys
pub mod JsonLeaves
pub mod JsonRows
pub mod JsonFaults
pub mod JsonPrinting
