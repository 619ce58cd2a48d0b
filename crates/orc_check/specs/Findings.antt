-- What a check finds in a file (this project's): statistics of stripes, of row groups and of the whole file that aren't
-- those of the rows (ORC specification, "Column Statistics"), and row indexes whose entries or positions are wrong
-- ("Row Group Index").
use Rattle.std.specs.Prelude.{◌≡◌, ℕ, zero, suc, ◌<◌, Bool, true, false, None, List, [], ◌∷◌, ◌++◌, length, ◌⊎◌, slice_get, get_or}
use Rattle.std.specs.Option.{option_map}
use Rattle.orc_wire.specs.declared.row_index.RowIndexEntry.{RowIndexEntry}
use Rattle.orc_wire.specs.declared.row_index.RowIndexMsg.{RowIndexMsg}
use Rattle.orc_wire.specs.declared.stripe_footer.StripeFooter.{StripeFooter}
use Rattle.orc_values.specs.Shapes.{Shape, width, shape_at}
use Rattle.orc_values.specs.Cells.{Cell}
use Rattle.orc_values.specs.Columns.{cells}
use Rattle.orc_stats.specs.Kinds.{kind_of}
use Rattle.orc_stats.specs.Messages.{stat_read}
use Rattle.orc_stats.specs.Statistics.{stat}
use Rattle.orc_stats.specs.declared.stat.Stat.{Stat}
use Rattle.orc_column_reader.specs.Stripe.{Streams, HasFooter, columns_of}
use Rattle.orc_row_groups.specs.Bounds.{before_group, group_of}
use Rattle.orc_row_index.specs.Positions.{AreReadPositions}
use Rattle.orc_row_groups.specs.Groups.{starts_of_groups, bounds_of}
use Rattle.orc_stats.specs.ColumnStatistics.{column_stat}
use Rattle.orc_stripe_reader.specs.Opened.{Opened}
use Rattle.orc_stripe_reader.specs.RowIndexes.{HasIndex, HasEachGroup}
use Rattle.orc_tail.specs.Stripes.{stripe_at, stripe_bytes}
use Rattle.orc_file_reader.specs.FileRows.{opened_stripe, cut_rows}
use Rattle.orc_file_reader.specs.Honest.{known_whole_of}
use Rattle.orc_tail.specs.declared.tail.Tail.{Tail}
use Rattle.orc_check.specs.Agreeing.{Tells}
use Rattle.orc_check.specs.declared.finding.Finding.{Finding}
use Rattle.orc_check.specs.declared.finding.Finding.TheVariants.{StripeStatistic, IndexEntries, IndexStatistic, IndexPosition, FileStatistic}

-- ---- lists of findings

-- this finding if something doesn't hold, and none if it does
abbrev pub Unless : Type 0 → Finding → List Finding → Type 0
Unless Holds finding found = (Holds × (found ≡ [])) ⊎ ((Holds → ⊥) × (found ≡ finding ∷ []))

-- the finding if this is false, and none if it is true
abbrev pub reported : Bool → Finding → List Finding
reported true finding = []
reported false finding = finding ∷ []

-- the findings of one thing, followed by those of another
abbrev pub Both : (List Finding → Type 0) → (List Finding → Type 0) → List Finding → Type 0
Both First Second found = (a : List Finding) × (b : List Finding) × First a × Second b × (found ≡ a ++ b)

-- the findings of each number below this one, in order
abbrev pub OfEach : (ℕ → List Finding → Type 0) → ℕ → List Finding → Type 0
OfEach Of zero found = found ≡ []
OfEach Of (suc n) found = Both (OfEach Of n) (Of n) found

-- findings are added after those before
abbrev pub AddsFindings : (List Finding → Type 0) → List Finding → List Finding → Type 0
AddsFindings Of before after = (own : List Finding) × Of own × (after ≡ before ++ own)

-- ---- the row index

-- A column with a row index: the shape of its type, its streams and its cells, how many of these come before each
-- group, and the entries of the index.
pub record IndexedColumn : Type 0 where
  pub shape : Shape
  pub streams : Streams
  pub cells : List Cell
  pub bounds : List ℕ
  pub entries : List RowIndexEntry

-- the entry of a group
abbrev pub entry_of_group : List RowIndexEntry → ℕ → RowIndexEntry
entry_of_group entries group = get_or entries group (record { positions = []; statistics = None })

-- an entry has a statistic that agrees with that of its group's cells
abbrev pub TellsGroup : Shape → List Cell → RowIndexEntry → Type 0
TellsGroup s group entry = Tells (option_map (stat_read (kind_of s)) entry.statistics) (stat (kind_of s) group)

-- the group's entry has a statistic that agrees with that of the group
abbrev pub HasRightStatistic : IndexedColumn → ℕ → Type 0
HasRightStatistic x g = TellsGroup x.shape (group_of x.cells x.bounds g) (entry_of_group x.entries g)

-- a reader goes on from the positions in the group's entry after the cells before the group
abbrev pub HasRightPositions : IndexedColumn → ℕ → Type 0
HasRightPositions x g =
    AreReadPositions x.shape x.streams (before_group x.cells x.bounds g) (entry_of_group x.entries g).positions

-- the findings of a group: that of its statistic, then that of its positions
abbrev pub OfGroup : IndexedColumn → ℕ → ℕ → ℕ → List Finding → Type 0
OfGroup x stripe column g =
    Both (Unless (HasRightStatistic x g) (IndexStatistic stripe column g))
    (Unless (HasRightPositions x g) (IndexPosition stripe column g))

-- the findings of the column's groups, each of which has an entry
abbrev pub OfGroups : IndexedColumn → ℕ → ℕ → List Finding → Type 0
OfGroups x stripe column = OfEach (OfGroup x stripe column) (length x.entries)

-- a column of an open stripe with these rows, and with these entries
abbrev pub column_with : Opened → List Cell → ℕ → List RowIndexEntry → IndexedColumn
column_with view rows c entries = record {
  shape = shape_at view.schema c;
  streams = columns_of view.footer view.bytes c;
  cells = cells view.schema c rows;
  bounds = bounds_of view.schema c rows (starts_of_groups view.stride (length rows));
  entries = entries;
}

-- x is column c with its row index, which the directory lists and which has an entry for each group of the rows.
pub record IsIndexedColumn (view : Opened) (rows : List Cell) (c : ℕ) (x : IndexedColumn) : Type 0 where
  pub message : RowIndexMsg
  pub has_index : HasIndex view.footer view.bytes c message
  pub whole : HasEachGroup view (length rows) message
  pub column_is : x ≡ column_with view rows c message.entries

-- The findings of a column's row index: only that of its entries if the column has no row index with an entry for each
-- group of the rows, else those of each group.
abbrev pub OfEntries : Opened → ℕ → List Cell → ℕ → List Finding → Type 0
OfEntries view n rows c found =
    (((x : IndexedColumn) → IsIndexedColumn view rows c x → ⊥) × (found ≡ IndexEntries n c ∷ []))
    ⊎ ((x : IndexedColumn) × IsIndexedColumn view rows c x × OfGroups x n c found)

-- The findings of a column's row index; none if the stride is 0, whatever the directory lists.
abbrev pub OfIndex : Opened → ℕ → List Cell → ℕ → List Finding → Type 0
OfIndex view n rows c found = ((view.stride ≡ 0) × (found ≡ [])) ⊎ ((0 < view.stride) × OfEntries view n rows c found)

-- ---- stripes

-- The stored statistic of a column in a stripe agrees with that of its cells in the rows.
abbrev pub TellsStripe : Shape → List Stat → List Cell → ℕ → Type 0
TellsStripe schema told rows c = Tells (slice_get told c) (column_stat schema rows c)

-- the findings of a column: that of its statistic, then those of its row index
abbrev pub OfColumn : Opened → List Stat → ℕ → List Cell → ℕ → List Finding → Type 0
OfColumn view told n rows c =
    Both (Unless (TellsStripe view.schema told rows c) (StripeStatistic n c)) (OfIndex view n rows c)

-- the statistics that the tail has of a stripe's columns
abbrev pub stripe_told : Tail → ℕ → List Stat
stripe_told tail n = get_or tail.stripe_stats n []

-- the findings of stripe n in these bytes, column by column, if these are its rows
abbrev pub OfStripe : Tail → ℕ → List ℕ → List Cell → List Finding → Type 0
OfStripe tail n bytes rows found =
    (footer : StripeFooter) × HasFooter tail.schema (stripe_at tail.stripes n) bytes footer
    × OfEach (OfColumn (opened_stripe tail n bytes footer) (stripe_told tail n) n rows) (width tail.schema) found

-- the rows of stripe n
abbrev pub rows_at : List (List Cell) → ℕ → List Cell
rows_at parts n = get_or parts n []

-- the findings of all stripes, in order
abbrev pub OfStripes : List ℕ → Tail → List (List Cell) → List Finding → Type 0
OfStripes bytes tail parts =
    OfEach (λ n. OfStripe tail n (stripe_bytes (stripe_at tail.stripes n) bytes) (rows_at parts n))
    (length tail.stripes)

-- ---- the file

-- The stored statistic of a column of the whole file agrees with that of all rows. The right one has no sum if the sum
-- of some stripe overflows, and an element count only if each stripe with a value has it.
abbrev pub TellsFile : Tail → List (List Cell) → ℕ → Type 0
TellsFile tail parts c = Tells (slice_get tail.file_stats c) (known_whole_of tail.schema tail.stripe_stats parts c)

-- the stored statistic of each column of the whole file agrees with that of all rows
abbrev pub TellsWhole : Tail → List Cell → Type 0
TellsWhole tail rows = (c : ℕ) → c < width tail.schema → TellsFile tail (cut_rows tail.stripes rows) c

-- the findings of the statistics of the whole file, column by column
abbrev pub OfFile : Tail → List (List Cell) → List Finding → Type 0
OfFile tail parts = OfEach (λ c. Unless (TellsFile tail parts c) (FileStatistic c)) (width tail.schema)

-- The findings of a file with this tail, if these are its rows (`FileIs`): stripe by stripe, in each stripe column by
-- column, for each column that of its statistic, then those of its row index, group by group; last those of the file's
-- statistics, column by column.
abbrev pub Findings : List ℕ → Tail → List Cell → List Finding → Type 0
Findings bytes tail rows =
    Both (OfStripes bytes tail (cut_rows tail.stripes rows)) (OfFile tail (cut_rows tail.stripes rows))
