mod TableLemmas
mod ColumnLemmas
mod FewValues
mod Entries
