-- Whether a limit of a file would be exceeded with one row more, by the rows pushed so far (the limits are this
-- project's).
use Rattle.std.specs.Prelude.{◌≡◌, ℕ, ◌*◌, ◌<◌, ◌≤◌, ◌⊎◌, List, [], ◌∷◌, ◌++◌, length}
use Rattle.orc_values.specs.Shapes.{Shape, width}
use Rattle.orc_values.specs.Cells.{Cell}
use Rattle.orc_values.specs.Columns.{cells}
use Rattle.orc_values.specs.Limits.{cell_limit}
use Rattle.orc_row_batch.specs.declared.options.Options.{Options}
use Rattle.orc_tail.specs.Stripes.{most_stripes, most_rows}

-- With `row` after the rows pushed a limit would be exceeded: of stripes, of a file's rows, or of a column's cells in
-- the open stripe. The rows pushed fill `stripes` stripes; the rows after these, `kept`, are fewer than a stripe has.
pub record PassesByRows (options : Options) (s : Shape) (rows : List Cell) (row : Cell) : Type 0 where
  pub stripes : ℕ
  pub written : List Cell
  pub kept : List Cell
  pub rows_are : rows ≡ written ++ kept
  pub full : length written ≡ stripes * options.stripe_rows
  pub few : length kept < options.stripe_rows
  pub passes : (most_stripes ≤ stripes) ⊎ ((most_rows ≤ length rows)
      ⊎ ((c : ℕ) × (c < width s) × (cell_limit ≤ length (cells s c (kept ++ row ∷ [])))))
