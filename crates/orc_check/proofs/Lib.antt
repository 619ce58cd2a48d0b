mod ReportLemmas
mod Checked
mod ToldLemmas
mod WalkLemmas
mod CheckLemmas
mod WholeLemmas
mod GroupBounds
mod NeededLemmas
mod EntryBytes
mod IndexFound
mod OneList
mod EachFinding
pub mod NoFinding
mod GroupsFound
mod OwnCells
mod WrittenFound
mod Matching
