pub mod Schemas
pub mod Faults
pub mod Preorder
