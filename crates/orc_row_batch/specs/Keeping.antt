-- How a cell that is kept changes the columns: its cells are added at the ends of their columns (ORC specification,
-- "Column Encodings": which part of a list, a map or a struct is in which column).
use Rattle.std.specs.Prelude.{◌≡◌, ◌≢◌, ℕ, ◌+◌, ◌<◌, ◌≤◌, ◌⊎◌, List, [], ◌∷◌, length, get_or}
use Rattle.orc_values.specs.Shapes.{Shape, Fields, width, widths}
use Rattle.orc_values.specs.Cells.{Cell}
use Rattle.orc_values.specs.Columns.{cells, cells_within}
use Rattle.orc_row_batch.specs.Kept.{KeptColumn, nothing, with_cells}

-- what is kept for the column with this number
abbrev pub column_at : List KeptColumn → ℕ → KeptColumn
column_at columns c = get_or columns c (nothing)

-- one column has one cell more, and all other columns are unchanged
pub record AddsOne (column : ℕ) (cell : Cell) (old new : List KeptColumn) : Type 0 where
  pub same : length new ≡ length old
  pub added : column_at new column ≡ with_cells (cell ∷ []) (column_at old column)
  pub others : (k : ℕ) → k ≢ column → column_at new k ≡ column_at old k

-- the columns of a type, which begin at a place, have the cells of some rows more, and all other columns are unchanged
pub record AddsCells (s : Shape) (place : ℕ) (rows : List Cell) (old new : List KeptColumn) : Type 0 where
  pub same : length new ≡ length old
  pub added : (c : ℕ) → c < width s → column_at new (place + c) ≡ with_cells (cells s c rows) (column_at old (place + c))
  pub others : (k : ℕ) → (k < place) ⊎ (place + width s ≤ k) → column_at new k ≡ column_at old k

-- the columns of fields, which begin at a place, have the cells of one struct's parts more, and all other columns are
-- unchanged
pub record AddsFields (fs : Fields) (place : ℕ) (parts : List Cell) (old new : List KeptColumn) : Type 0 where
  pub same : length new ≡ length old
  pub added : (c : ℕ) → c < widths fs
      → column_at new (place + c) ≡ with_cells (cells_within fs c (parts ∷ [])) (column_at old (place + c))
  pub others : (k : ℕ) → (k < place) ⊎ (place + widths fs ≤ k) → column_at new k ≡ column_at old k
