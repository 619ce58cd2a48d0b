pub mod DirectoryLemmas
pub mod LocatedLemmas
