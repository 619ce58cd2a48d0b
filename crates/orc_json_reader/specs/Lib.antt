pub mod Fronts
pub mod Frontier
