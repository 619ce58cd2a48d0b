pub mod WriteLemmas
pub mod LinesLemmas
pub mod WriteLaws
pub mod LimitLemmas
pub mod PieceLemmas
pub mod ReadLemmas
