-- The rows that a batch holds as columns (ORC specification, "Column Encodings").
use Rattle.std.specs.Prelude.{◌≡◌, ℕ, ◌<◌, List, length, map}
use Rattle.orc_values.specs.Shapes.{Shape, width}
use Rattle.orc_values.specs.Cells.{Cell}
use Rattle.orc_values.specs.Columns.{cells}
use Rattle.orc_values.specs.Fits.{RowsFit}
use Rattle.orc_row_batch.specs.declared.vector.ColumnVector.{ColumnVector}
use Rattle.orc_row_batch.specs.declared.batch.RowBatch.{RowBatch}
use Rattle.orc_row_batch.specs.Kept.{KeptColumn, nothing, kept, with_cells, told}
use Rattle.orc_row_batch.specs.Keeping.{column_at}
use Rattle.orc_row_batch.specs.RowsFrom.{rows_from}

-- what each vector keeps, column by column
abbrev pub kept_columns : List ColumnVector → List KeptColumn
kept_columns vectors = map kept vectors

-- the cells that a batch keeps for column c, each without its children
abbrev pub column_cells : RowBatch → ℕ → List Cell
column_cells batch c = told (column_at (kept_columns batch.columns.items) c)

-- the rows of a type that are rebuilt from a batch's columns
abbrev pub kept_rows : Shape → RowBatch → List Cell
kept_rows s batch = rows_from s (column_cells batch) 0

-- a batch has as many columns as a type
abbrev pub HasEachColumn : Shape → RowBatch → Type 0
HasEachColumn s batch = length batch.columns.items ≡ width s

-- A batch holds these rows of a type: it has as many columns as the type, each row fits the type, and each column keeps
-- exactly its cells of the rows.
pub record Holds (s : Shape) (rows : List Cell) (batch : RowBatch) : Type 0 where
  pub columns : HasEachColumn s batch
  pub fit : RowsFit s rows
  pub kept_cells : (c : ℕ) → c < width s → column_at (kept_columns batch.columns.items) c ≡ with_cells (cells s c rows) (nothing)
