pub mod Commands
pub mod OptionWords
