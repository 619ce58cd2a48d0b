pub mod Devices
pub mod Failures
pub mod Leaves
pub mod Ranges
