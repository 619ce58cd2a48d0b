pub mod PositionLemmas
pub mod BitPositionLemmas
pub mod PlaceLemmas
pub mod WalkLemmas
pub mod RunStartLemmas
