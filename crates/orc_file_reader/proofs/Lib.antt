pub mod StripeCapLemmas
pub mod RowLemmas
pub mod RowFronts
pub mod HonestLemmas
