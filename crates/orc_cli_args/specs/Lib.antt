pub mod Requests
pub mod Commands
