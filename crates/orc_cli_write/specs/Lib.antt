pub mod Lines
pub mod Writes
pub mod Reads
pub mod Pieces
pub mod Pushes
