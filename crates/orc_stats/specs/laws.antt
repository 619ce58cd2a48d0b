pub mod OwnCells
pub mod TallyKinds
pub mod TallyLaws
