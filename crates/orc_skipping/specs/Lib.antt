pub mod Predicates
pub mod Rules
pub mod Right
pub mod Tests
pub mod Groups
