-- Rows from a group on, read from the positions in the group's entries (ORC specification, "Row Group Index").
use Rattle.std.specs.Prelude.{◌≡◌, ℕ, ◌+◌, ◌-◌, ◌*◌, ◌<◌, ◌≤◌, Bool, Some, List, length, take, slice_get, ◌⊎◌}
use Rattle.orc_values.specs.Cells.{Cell}
use Rattle.orc_values.specs.Columns.{cells}
use Rattle.orc_values.specs.Fits.{RowsFit}
use Rattle.orc_values.specs.Shapes.{width, shape_at}
use Rattle.orc_wire.specs.declared.row_index.RowIndexEntry.{RowIndexEntry}
use Rattle.orc_wire.specs.declared.row_index.RowIndexMsg.{RowIndexMsg}
use Rattle.orc_column_reader.specs.Stripe.{Streams, SpellRows, columns_of}
use Rattle.orc_values.specs.Limits.{cell_limit}
use Rattle.orc_column_reader.specs.Columns.{CellsLeft}
use Rattle.orc_column_reader.specs.ReaderFaults.{CellsMeet}
use Rattle.orc_column_reader.specs.declared.column.ColumnReader.{ColumnReader}
use Rattle.orc_directory.specs.declared.fault.Spot.TheVariants as spot
use Rattle.orc_directory.specs.declared.fault.StripeFault.{StripeFault}
use Rattle.orc_directory.specs.declared.fault.StripeFault.TheVariants as fault
use Rattle.orc_row_index.specs.Positions.{AreReadPositions}
use Rattle.orc_group_reader.specs.Behind.{IsBehind}
use Rattle.orc_group_reader.specs.Columns.{AgreeFromPositions}
use Rattle.orc_group_reader.specs.ReadersAt.{ReadersAt}
use Rattle.orc_group_reader.specs.Refusals.{ColumnRefused}
use Rattle.orc_stripe_reader.specs.Opened.{Opened}
use Rattle.orc_stripe_reader.specs.RowIndexes.{HasIndex, IndexFault, HasEachGroup, HasOtherEntries}

-- the stride is above 0, and the stripe has a group of this number
pub record HasGroup (view : Opened) (group : ℕ) : Type 0 where
  pub indexed : 0 < view.stride
  pub there : group * view.stride < view.info.number_of_rows

-- the entry of a group in column c's row index, which has an entry for each group
abbrev pub IsGroupEntry : Opened → ℕ → ℕ → RowIndexEntry → Type 0
IsGroupEntry view c group entry =
    (message : RowIndexMsg) × HasIndex view.footer view.bytes c message
    × HasEachGroup view view.info.number_of_rows message
    × (slice_get message.entries group ≡ Some entry)

-- the positions in the group's entry of column c are right in streams x after the cells before the group, and the
-- stripe's streams are the same as x from these positions on
abbrev pub StartsColumn : Opened → Streams → List Cell → ℕ → ℕ → Type 0
StartsColumn view x before c group =
    (entry : RowIndexEntry) × IsGroupEntry view c group entry
    × AgreeFromPositions (shape_at view.schema c) x (columns_of view.footer view.bytes c) before entry.positions

-- Columns x spell rows, as many as the stripe has. The stripe has the group, and each of its columns starts after the
-- rows before the group. If x are the stripe's own columns, the rows are the stripe's; else the stripe differs from a
-- stripe of these rows only in bytes before the positions.
pub record StartsGroup (view : Opened) (x : ℕ → Streams) (rows : List Cell) (group : ℕ) : Type 0 where
  pub has_group : HasGroup view group
  pub spelled : SpellRows view.schema x view.info.number_of_rows rows
  pub column : (c : ℕ) → c < width view.schema
      → StartsColumn view (x c) (cells view.schema c (take (group * view.stride) rows)) c group

-- the positions in the group's entry of column c are right in the stripe's own streams, after the cells of the rows
-- before the group
abbrev pub HasRightEntry : Opened → List Cell → ℕ → ℕ → Type 0
HasRightEntry view rows c group =
    (entry : RowIndexEntry) × IsGroupEntry view c group entry
    × AreReadPositions (shape_at view.schema c) (columns_of view.footer view.bytes c)
    (cells view.schema c (take (group * view.stride) rows)) entry.positions

-- why a column has no entry of a group that the stripe has
abbrev pub EntryFault : Opened → ℕ → StripeFault → Type 0
EntryFault view c f = IndexFault view c f ⊎ HasOtherEntries view c view.info.number_of_rows f

-- why one of the columns has no entry of a group that the stripe has
abbrev pub EntriesFault : Opened → StripeFault → Type 0
EntriesFault view f = (c : ℕ) × (c < width view.schema) × EntryFault view c f

-- each column has an entry of the group
abbrev pub HasEntries : Opened → ℕ → Type 0
HasEntries view group = (c : ℕ) → c < width view.schema → (entry : RowIndexEntry) × IsGroupEntry view c group entry

-- The readers of all columns stand at the positions in the group's entries: each entry has as many positions as its
-- column's streams need, and each position lies within its stream.
pub record EntersGroup (view : Opened) (group : ℕ) (readers : List ColumnReader) : Type 0 where
  pub entries : List RowIndexEntry
  pub counted : length entries ≡ width view.schema
  pub of_group : (c : ℕ) (entry : RowIndexEntry)
      → slice_get entries c ≡ Some entry
      → IsGroupEntry view c group entry
  pub stand : ReadersAt view.schema (columns_of view.footer view.bytes) entries readers

-- readers of all columns can stand at the positions in the group's entries
abbrev pub IsEntered : Opened → ℕ → Type 0
IsEntered view group = (readers : List ColumnReader) × EntersGroup view group readers

-- The streams spell these rows from the positions in the group's entries on, as many as the stripe has from the group's
-- first row on.
pub record SpellsFrom (view : Opened) (group : ℕ) (rows : List Cell) : Type 0 where
  pub readers : List ColumnReader
  pub entered : EntersGroup view group readers
  pub counted : group * view.stride + length rows ≡ view.info.number_of_rows
  pub spelled : CellsLeft view.schema readers rows

-- A fault of the streams from the positions in the group's entries on, read for as many rows as the stripe has from the
-- group's first row on.
pub record MeetsFrom (view : Opened) (group : ℕ) (f : StripeFault) : Type 0 where
  pub readers : List ColumnReader
  pub entered : EntersGroup view group readers
  pub all : Bool
  pub met : CellsMeet view.schema readers all (view.info.number_of_rows - group * view.stride) f

-- The positions in the group's entries are those after these rows, which fit the schema and are as many as come before
-- the group, whatever the stripe's streams have after the positions.
pub record LeadsBehind (view : Opened) (before : List Cell) (group : ℕ) : Type 0 where
  pub has_group : HasGroup view group
  pub counted : length before ≡ group * view.stride
  pub fit : RowsFit view.schema before
  pub column : (c : ℕ) (entry : RowIndexEntry) → c < width view.schema
      → IsGroupEntry view c group entry
      → IsBehind (shape_at view.schema c) (columns_of view.footer view.bytes c) (cells view.schema c before) entry.positions

-- there is no row index; or there are more rows than a column may have cells; or the rows have no such group
abbrev pub NoGroup : Opened → ℕ → StripeFault → Type 0
NoGroup view group f =
    ((f ≡ fault.NoIndex spot.Stripe) × (view.stride ≡ 0))
    ⊎ ((0 < view.stride)
    × (((f ≡ fault.TooMany 0) × (cell_limit ≤ view.info.number_of_rows))
    ⊎ ((f ≡ fault.BadPosition spot.Stripe)
    × (view.info.number_of_rows < cell_limit)
    × (view.info.number_of_rows ≤ group * view.stride))))

-- one of the columns can't be read from the positions in its entry on
abbrev pub GroupRefused : Opened → ℕ → StripeFault → Type 0
GroupRefused view group f =
    (c : ℕ) × (entry : RowIndexEntry)
    × IsGroupEntry view c group entry
    × ColumnRefused (shape_at view.schema c) (columns_of view.footer view.bytes c) c entry.positions f

-- why there is no cursor at a group: the stripe doesn't have the group, or a column has no entry of it, or each column
-- has an entry and one of them can't be read from its positions on
abbrev pub GroupFault : Opened → ℕ → StripeFault → Type 0
GroupFault view group f =
    NoGroup view group f
    ⊎ (HasGroup view group
    × (EntriesFault view f ⊎ (HasEntries view group × GroupRefused view group f)))
