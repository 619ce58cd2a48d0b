pub mod Tests
pub mod Layout
pub mod Stripes
pub mod Statistics
pub mod Tails
pub mod Images
pub mod Caps
