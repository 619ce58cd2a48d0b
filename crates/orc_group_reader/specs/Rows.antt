-- Rows that are read from the positions of each column on (ORC specification, "Row Group Index").
use Rattle.std.specs.Prelude.{◌≡◌, ℕ, ◌<◌, Some, List, ◌++◌, length, slice_get}
use Rattle.orc_values.specs.Cells.{Cell}
use Rattle.orc_values.specs.Columns.{cells}
use Rattle.orc_values.specs.Shapes.{Shape, width, shape_at}
use Rattle.orc_wire.specs.declared.row_index.RowIndexEntry.{RowIndexEntry}
use Rattle.orc_column_reader.specs.Stripe.{Streams, SpellRows}
use Rattle.orc_directory.specs.declared.fault.StripeFault.{StripeFault}
use Rattle.orc_group_reader.specs.Columns.{AgreeFromPositions}
use Rattle.orc_group_reader.specs.Refusals.{ColumnRefused}

-- Columns x store the rows before and after. The positions, with an entry for each column, are right in them after
-- the rows before. Columns y have the same encodings and dictionaries, and the same bytes from the positions' offsets
-- on.
pub record RowsTurn (s : Shape) (x y : ℕ → Streams) (before after : List Cell)
    (entries : List RowIndexEntry) : Type 0 where
  pub spelled : SpellRows s x (length (before ++ after)) (before ++ after)
  pub agree : (c : ℕ) (entry : RowIndexEntry)
      → slice_get entries c ≡ Some entry
      → AgreeFromPositions (shape_at s c) (x c) (y c) (cells s c before) entry.positions

-- one of the columns can't be read from the positions of its entry on
abbrev pub EntriesRefused : Shape → (ℕ → Streams) → List RowIndexEntry → StripeFault → Type 0
EntriesRefused s y entries f =
    (c : ℕ) × (entry : RowIndexEntry)
    × (slice_get entries c ≡ Some entry)
    × (c < width s)
    × ColumnRefused (shape_at s c) (y c) c entry.positions f
