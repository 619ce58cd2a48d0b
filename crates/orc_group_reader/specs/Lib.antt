pub mod Entering
pub mod Streams
pub mod Columns
pub mod Rows
pub mod Refusals
pub mod RunsPassed
pub mod ReadersAt
pub mod Behind
