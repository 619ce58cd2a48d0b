pub mod OpenLemmas
pub mod PlaceLemmas
