pub mod RowsLemmas
mod CursorLemmas
mod StripeLemmas
mod StartLemmas
mod GroupLemmas
mod PieceLemmas
