-- The row index of a column (ORC specification, "Row Group Index", "Column Statistics").
use Rattle.std.specs.Prelude.{◌≡◌, ℕ, Some, List, length, slice_get, true}
use Rattle.orc_wire.specs.declared.column_stats.ColumnStats.{ColumnStats}
use Rattle.orc_wire.specs.declared.row_index.RowIndexEntry.{RowIndexEntry}
use Rattle.orc_wire.specs.declared.row_index.RowIndexMsg.{RowIndexMsg}
use Rattle.orc_wire.specs.CanonicalMessages.{row_index_text}
use Rattle.orc_wire.specs.Messages.{row_index}
use Rattle.orc_wire.specs.Spells.{Spells}
use Rattle.orc_values.specs.Cells.{Cell}
use Rattle.orc_values.specs.Shapes.{Shape, shape_at}
use Rattle.orc_stats.specs.Kinds.{kind_of}
use Rattle.orc_stats.specs.Messages.{message_of, stat_read}
use Rattle.orc_stats.specs.Statistics.{stat}
use Rattle.orc_column_reader.specs.Stripe.{Streams, columns_of}
use Rattle.orc_row_groups.specs.Bounds.{before_group, group_of}
use Rattle.orc_row_index.specs.Positions.{AreReadPositions, AreWrittenPositions}
use Rattle.orc_wire.specs.declared.stripe_footer.StripeFooter.{StripeFooter}
use Rattle.orc_wire.specs.StreamKinds.{ROW_INDEX}
use Rattle.orc_values.specs.Columns.{cells}
use Rattle.orc_directory.specs.Directory.{has_stream, slice}
use Rattle.orc_row_groups.specs.Groups.{starts_of_groups, bounds_of}

-- the entry of a group: the positions after the cells before the group, and the statistic of the group's cells
pub record IsWrittenEntry (s : Shape) (x : Streams) (before group : List Cell) (entry : RowIndexEntry) : Type 0 where
  pub positions : AreWrittenPositions s x before entry.positions
  pub statistics : entry.statistics ≡ Some (message_of (stat (kind_of s) group))

-- the entries of the first groups
pub record AreEntries (s : Shape) (x : Streams) (cells : List Cell) (bounds : List ℕ) (groups : ℕ)
    (entries : List RowIndexEntry) : Type 0 where
  pub counted : length entries ≡ groups
  pub each : (g : ℕ) (entry : RowIndexEntry)
      → slice_get entries g ≡ Some entry
      → IsWrittenEntry s x (before_group cells bounds g) (group_of cells bounds g) entry

-- The bytes of a column's ROW_INDEX, as they are written: the canonical text of a message with an entry for each bound.
pub record IsWrittenIndex (s : Shape) (x : Streams) (cells : List Cell) (bounds text : List ℕ) : Type 0 where
  pub entries : List RowIndexEntry
  pub are : AreEntries s x cells bounds (length bounds) entries
  pub text_is : text ≡ row_index_text.text (record { entries = entries })
  pub spelled : Spells row_index 0 0 text (record { entries = entries })

-- an entry stores the statistic of the group's cells
abbrev pub SaysStat : Shape → List Cell → RowIndexEntry → Type 0
SaysStat s group entry =
    (message : ColumnStats)
    × (entry.statistics ≡ Some message)
    × (stat_read (kind_of s) message ≡ stat (kind_of s) group)

-- The bytes are right for every reader as the index of these groups: there are as many entries as bounds, each with
-- positions from which a reader goes on, and with the statistic of its group.
pub record IsRightIndex (s : Shape) (x : Streams) (cells : List Cell) (bounds text : List ℕ) : Type 0 where
  pub message : RowIndexMsg
  pub spelled : Spells row_index 0 0 text message
  pub counted : length message.entries ≡ length bounds
  pub positions : (g : ℕ) (entry : RowIndexEntry)
      → slice_get message.entries g ≡ Some entry
      → AreReadPositions s x (before_group cells bounds g) entry.positions
  pub statistics : (g : ℕ) (entry : RowIndexEntry)
      → slice_get message.entries g ≡ Some entry
      → SaysStat s (group_of cells bounds g) entry

-- the directory names an index of column c, and it is right for every reader of the stripe
abbrev pub HasRightIndex : ℕ → Shape → List Cell → StripeFooter → List ℕ → ℕ → Type 0
HasRightIndex stride s rows footer bytes c =
    (has_stream c ROW_INDEX footer.streams ≡ true)
    × IsRightIndex (shape_at s c) (columns_of footer bytes c) (cells s c rows)
    (bounds_of s c rows (starts_of_groups stride (length rows))) (slice c ROW_INDEX footer.streams bytes)
