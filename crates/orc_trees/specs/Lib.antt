pub mod NameFaults
pub mod SchemaText
pub mod TextFaults
pub mod TextFronts
