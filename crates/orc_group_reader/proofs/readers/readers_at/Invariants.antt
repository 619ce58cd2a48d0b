use Rattle.std.proofs.Common.{◌≡◌, ℕ, Some, List, length, slice_get}
use Rattle.orc_values.specs.Cells.{Cell}
use Rattle.orc_values.specs.Columns.{cells}
use Rattle.orc_values.specs.Shapes.{shape_at}
use Rattle.orc_values.specs.Views.{shape}
use Rattle.orc_column_reader.specs.Stripe.{Streams, columns_of}
use Rattle.orc_column_reader.specs.declared.column.ColumnReader.{ColumnReader}
use Rattle.orc_group_reader.specs.Columns.{ColumnIsLeft}
use Rattle.orc_wire.specs.declared.row_index.RowIndexEntry.{RowIndexEntry}
use Rattle.orc_group_reader.specs.ReadersAt.{ColumnAt}
use Rattle.orc_group_reader.specs.Rows.{RowsTurn}
use Rattle.orc_group_reader.proofs.readers.readers_at.Given as goal

-- the readers of the columns so far
abbrev pub invariant-loop-column : goal.invariant-loop-column
invariant-loop-column l =
    (length l.readers.items ≡ l.column) × ((x : ℕ → Streams) (before after : List Cell) → RowsTurn (shape l.tree) x (columns_of l.footer l.located.bytes.now) before after l.entries
    → (c : ℕ) (r : ColumnReader) → slice_get l.readers.items c ≡ Some r → ColumnIsLeft (shape_at (shape l.tree) c) r (cells (shape l.tree) c after))
    × ((c : ℕ) (entry : RowIndexEntry) (r : ColumnReader) → slice_get l.entries c ≡ Some entry → slice_get l.readers.items c ≡ Some r
    → ColumnAt (shape_at (shape l.tree) c) (columns_of l.footer l.located.bytes.now c) c entry.positions r)
