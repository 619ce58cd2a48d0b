pub mod FrontOfFile
