pub mod Directory
pub mod Located
