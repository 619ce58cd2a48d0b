pub mod RequestLemmas
pub mod CommandLemmas
