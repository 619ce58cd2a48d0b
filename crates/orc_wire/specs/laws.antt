pub mod FaultLaws
pub mod FieldCover
pub mod FieldLaws
pub mod PartsCover
pub mod SpellsCover
pub mod SpellsLaws
