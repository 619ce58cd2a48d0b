pub mod Escapes
pub mod Outputs
pub mod Layouts
pub mod Prints
pub mod Places
pub mod Laying
