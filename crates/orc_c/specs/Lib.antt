pub mod Answers
pub mod Faults
pub mod Inputs
pub mod Memory
pub mod Refusals
