pub mod Appended
pub mod Leaving
pub mod Told
