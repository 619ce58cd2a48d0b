-- The row indexes of a file that has no findings (ORC specification, "Row Group Index").
use Rattle.std.specs.Prelude.{◌≡◌, ℕ, ◌<◌, Some, true, List, length, slice_get}
use Rattle.orc_wire.specs.Messages.{row_index}
use Rattle.orc_wire.specs.Spells.{Spells}
use Rattle.orc_wire.specs.declared.row_index.RowIndexEntry.{RowIndexEntry}
use Rattle.orc_wire.specs.declared.row_index.RowIndexMsg.{RowIndexMsg}
use Rattle.orc_wire.specs.declared.stripe_footer.StripeFooter.{StripeFooter}
use Rattle.orc_wire.specs.declared.stripe_info.StripeInfo.{StripeInfo}
use Rattle.orc_wire.specs.StreamKinds.{ROW_INDEX}
use Rattle.orc_values.specs.Cells.{Cell}
use Rattle.orc_values.specs.Columns.{cells}
use Rattle.orc_values.specs.Shapes.{Shape, width, shape_at}
use Rattle.orc_directory.specs.Directory.{has_stream, slice}
use Rattle.orc_column_reader.specs.Stripe.{Streams, HasFooter, columns_of}
use Rattle.orc_row_groups.specs.Bounds.{before_group, group_of}
use Rattle.orc_row_index.specs.Positions.{AreReadPositions}
use Rattle.orc_row_groups.specs.Groups.{starts_of_groups, bounds_of}
use Rattle.orc_stripe_reader.specs.GroupCursors.{HasGroup, StartsGroup}
use Rattle.orc_tail.specs.Stripes.{stripe_at, stripe_bytes}
use Rattle.orc_file_reader.specs.FileRows.{opened_stripe, cut_rows}
use Rattle.orc_tail.specs.declared.tail.Tail.{Tail}
use Rattle.orc_check.specs.Findings.{TellsGroup, rows_at}

-- The bytes are a row index of these groups: it has as many entries as bounds, each with positions from which a reader
-- goes on after the cells before its group, and with a statistic that agrees with that of its group.
pub record IsAgreeingIndex (s : Shape) (x : Streams) (cells : List Cell) (bounds text : List ℕ) : Type 0 where
  pub message : RowIndexMsg
  pub spelled : Spells row_index 0 0 text message
  pub counted : length message.entries ≡ length bounds
  pub positions : (g : ℕ) (entry : RowIndexEntry)
      → slice_get message.entries g ≡ Some entry
      → AreReadPositions s x (before_group cells bounds g) entry.positions
  pub statistics : (g : ℕ) (entry : RowIndexEntry)
      → slice_get message.entries g ≡ Some entry
      → TellsGroup s (group_of cells bounds g) entry

-- the directory lists a row index of column c, and its bytes are a row index of the groups of the rows
abbrev pub HasAgreeingIndex : ℕ → Shape → List Cell → StripeFooter → List ℕ → ℕ → Type 0
HasAgreeingIndex stride s rows footer bytes c =
    (has_stream c ROW_INDEX footer.streams ≡ true)
    × IsAgreeingIndex (shape_at s c) (columns_of footer bytes c) (cells s c rows)
    (bounds_of s c rows (starts_of_groups stride (length rows))) (slice c ROW_INDEX footer.streams bytes)

-- Each column of a stripe has a row index with an entry for each group of these rows, whose statistic agrees with that
-- of the group, and from whose positions a reader goes on after the cells before the group.
pub record IsIndexed (s : Shape) (stride : ℕ) (info : StripeInfo) (bytes : List ℕ) (rows : List Cell) : Type 0 where
  pub footer : StripeFooter
  pub has_footer : HasFooter s info bytes footer
  pub right : (c : ℕ) → c < width s → HasAgreeingIndex stride s rows footer bytes c

-- if the stride is above 0, each column of each stripe has such a row index
abbrev pub HasIndexes : List ℕ → Tail → List Cell → Type 0
HasIndexes bytes tail rows =
    0 < tail.stride → (n : ℕ) → n < length tail.stripes
    → IsIndexed tail.schema tail.stride (stripe_at tail.stripes n) (stripe_bytes (stripe_at tail.stripes n) bytes)
    (rows_at (cut_rows tail.stripes rows) n)

-- each stripe starts at each of its groups, so that a cursor can begin there
abbrev pub StartsAtGroups : List ℕ → Tail → List Cell → Type 0
StartsAtGroups bytes tail rows =
    (n : ℕ) → n < length tail.stripes → (footer : StripeFooter)
    → HasFooter tail.schema (stripe_at tail.stripes n) (stripe_bytes (stripe_at tail.stripes n) bytes) footer
    → (group : ℕ) → HasGroup (opened_stripe tail n (stripe_bytes (stripe_at tail.stripes n) bytes) footer) group
    → StartsGroup (opened_stripe tail n (stripe_bytes (stripe_at tail.stripes n) bytes) footer)
    (columns_of footer (stripe_bytes (stripe_at tail.stripes n) bytes))
    (rows_at (cut_rows tail.stripes rows) n) group
