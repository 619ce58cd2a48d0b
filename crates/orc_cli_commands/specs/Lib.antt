pub mod Places
pub mod Commands
pub mod Answers
pub mod Progress
