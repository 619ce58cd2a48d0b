pub mod Outputs
pub mod Layouts
pub mod Texts
pub mod LaidOut
