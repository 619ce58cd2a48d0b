pub mod Arms
pub mod Ends
pub mod FaultLemmas
pub mod LeftFits
pub mod NeverFailed
pub mod OneLeft
pub mod Started
