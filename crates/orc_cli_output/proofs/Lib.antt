pub mod OutputLemmas
pub mod Joined
pub mod OpenFaults
