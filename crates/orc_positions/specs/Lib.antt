pub mod Position
pub mod BitPosition
pub mod RunTable
pub mod RunStarts
