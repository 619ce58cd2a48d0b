pub mod Days
pub mod Names
pub mod JsonLeaves
pub mod JsonFronts
pub mod JsonLaws
pub mod JsonPrints
pub mod JsonBack
