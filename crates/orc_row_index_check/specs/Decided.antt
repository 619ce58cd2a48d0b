-- Which entries of a row index have right positions (ORC specification, "Row Group Index").
use Rattle.std.specs.Prelude.{◌≡◌, ℕ, Bool, Some, List, length, slice_get, MatchBool}
use Rattle.orc_wire.specs.declared.row_index.RowIndexEntry.{RowIndexEntry}
use Rattle.orc_values.specs.Cells.{Cell}
use Rattle.orc_values.specs.Shapes.{Shape}
use Rattle.orc_column_reader.specs.Stripe.{Streams}
use Rattle.orc_row_groups.specs.Bounds.{before_group}
use Rattle.orc_row_index.specs.Positions.{AreReadPositions}

-- the truth value is true if and only if the positions are right after the cells before the group
abbrev pub Decides : Shape → Streams → List Cell → List ℕ → ℕ → List ℕ → Bool → Type 0
Decides s x cells bounds group positions right =
    MatchBool right
    (AreReadPositions s x (before_group cells bounds group) positions)
    (AreReadPositions s x (before_group cells bounds group) positions → ⊥)

-- each entry has a truth value, which is true if and only if its positions are right after the cells before its group
pub record AreDecided (s : Shape) (x : Streams) (cells : List Cell) (bounds : List ℕ)
    (entries : List RowIndexEntry) (right : List Bool) : Type 0 where
  pub counted : length right ≡ length entries
  pub each : (g : ℕ) (entry : RowIndexEntry) (b : Bool)
      → slice_get entries g ≡ Some entry
      → slice_get right g ≡ Some b
      → Decides s x cells bounds g entry.positions b
