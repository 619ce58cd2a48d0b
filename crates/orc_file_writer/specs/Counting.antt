-- How a cell that is counted changes the counts of the columns (this project's). Cells are counted up to the limit of a
-- stripe.
use Rattle.std.specs.Prelude.{◌≡◌, ◌≢◌, ℕ, ◌+◌, ◌<◌, ◌≤◌, ◌⊎◌, min, List, [], ◌∷◌, length, get_or}
use Rattle.orc_values.specs.Shapes.{Shape, Fields, width, widths}
use Rattle.orc_values.specs.Cells.{Cell}
use Rattle.orc_values.specs.Columns.{cells, cells_within}
use Rattle.orc_values.specs.Limits.{cell_limit}

-- `new` is `old + more`, if numbers above the limit count as the limit
abbrev pub IsMoreBy : ℕ → ℕ → ℕ → Type 0
IsMoreBy more old new = min (cell_limit) new ≡ min (cell_limit) (old + more)

-- one column's count is one more, and all other counts are unchanged
pub record CountsOne (column : ℕ) (old new : List ℕ) : Type 0 where
  pub same : length new ≡ length old
  pub added : IsMoreBy 1 (get_or old column 0) (get_or new column 0)
  pub others : (k : ℕ) → k ≢ column → get_or new k 0 ≡ get_or old k 0

-- the counts of the columns of a type, which begin at a place, are more by the cells of some rows, and all other counts
-- are unchanged
pub record CountsCells (s : Shape) (place : ℕ) (rows : List Cell) (old new : List ℕ) : Type 0 where
  pub same : length new ≡ length old
  pub added : (c : ℕ) → c < width s
      → IsMoreBy (length (cells s c rows)) (get_or old (place + c) 0) (get_or new (place + c) 0)
  pub others : (k : ℕ) → (k < place) ⊎ (place + width s ≤ k) → get_or new k 0 ≡ get_or old k 0

-- the counts of the columns of fields, which begin at a place, are more by the cells of one struct's parts, and all
-- other counts are unchanged
pub record CountsFields (fs : Fields) (place : ℕ) (parts : List Cell) (old new : List ℕ) : Type 0 where
  pub same : length new ≡ length old
  pub added : (c : ℕ) → c < widths fs
      → IsMoreBy (length (cells_within fs c (parts ∷ []))) (get_or old (place + c) 0) (get_or new (place + c) 0)
  pub others : (k : ℕ) → (k < place) ⊎ (place + widths fs ≤ k) → get_or new k 0 ≡ get_or old k 0
