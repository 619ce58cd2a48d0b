-- What is counted of a column's cells before each group (ORC specification, "Row Group Index").
use Rattle.std.specs.Prelude.{◌≡◌, ℕ, Some, List, length, slice_get}
use Rattle.orc_values.specs.Cells.{Cell}
use Rattle.orc_row_groups.specs.Bounds.{before_group}
use Rattle.orc_row_groups.specs.Counts.{AreCounted}
use Rattle.orc_row_groups.specs.declared.counts.Counts.{Counts}

-- the counts of the cells before each of the first groups
pub record AreCountedBefore (counts : List Counts) (cells : List Cell) (bounds : List ℕ) (groups : ℕ) : Type 0 where
  pub counted : length counts ≡ groups
  pub each : (g : ℕ) (before : Counts)
      → slice_get counts g ≡ Some before
      → AreCounted before (before_group cells bounds g)
