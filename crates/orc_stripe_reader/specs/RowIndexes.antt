-- The row index of a column in a stripe's bytes, as it is read (ORC specification, "Row Group Index", "Stripe Footer").
use Rattle.std.specs.Prelude.{◌≡◌, ℕ, ◌<◌, Bool, true, false, List, length}
use Rattle.orc_wire.specs.declared.row_index.RowIndexMsg.{RowIndexMsg}
use Rattle.orc_wire.specs.declared.stripe_footer.StripeFooter.{StripeFooter}
use Rattle.orc_wire.specs.Messages.{row_index}
use Rattle.orc_wire.specs.Spells.{Spells, Faults}
use Rattle.orc_wire.specs.StreamKinds.{ROW_INDEX}
use Rattle.orc_values.specs.Cells.{Cell}
use Rattle.orc_values.specs.Columns.{cells}
use Rattle.orc_values.specs.Shapes.{shape_at}
use Rattle.orc_directory.specs.Directory.{has_stream, slice}
use Rattle.orc_column_reader.specs.Stripe.{columns_of}
use Rattle.orc_directory.specs.declared.fault.Spot.TheVariants as spot
use Rattle.orc_directory.specs.declared.fault.StripeFault.{StripeFault}
use Rattle.orc_directory.specs.declared.fault.StripeFault.TheVariants as fault
use Rattle.orc_row_index_check.specs.Decided.{AreDecided}
use Rattle.orc_row_groups.specs.Groups.{group_count, starts_of_groups, bounds_of}
use Rattle.orc_stripe_reader.specs.Opened.{Opened}

-- the bytes of column c's ROW_INDEX
abbrev pub index_text : StripeFooter → List ℕ → ℕ → List ℕ
index_text footer bytes c = slice c ROW_INDEX footer.streams bytes

-- the directory lists a row index of column c, and its bytes are this message
abbrev pub HasIndex : StripeFooter → List ℕ → ℕ → RowIndexMsg → Type 0
HasIndex footer bytes c message =
    (has_stream c ROW_INDEX footer.streams ≡ true) × Spells row_index 0 0 (index_text footer bytes c) message

-- why column c has no row index that can be read
abbrev pub IndexFault : Opened → ℕ → StripeFault → Type 0
IndexFault view c (fault.NoIndex spot.Stripe) = view.stride ≡ 0
IndexFault view c (fault.NoIndex (spot.Column column)) =
    (0 < view.stride) × (column ≡ c) × (has_stream c ROW_INDEX view.footer.streams ≡ false)
IndexFault view c (fault.Wire wire) =
    (0 < view.stride)
    × (has_stream c ROW_INDEX view.footer.streams ≡ true)
    × Faults row_index 0 0 (index_text view.footer view.bytes c) wire
IndexFault view c fault.OutOfMemory = Unit {0}
IndexFault view c _ = ⊥

-- the row index has an entry for each group of a number of rows
abbrev pub HasEachGroup : Opened → ℕ → RowIndexMsg → Type 0
HasEachGroup view rows message = length message.entries ≡ group_count view.stride rows

-- each entry has a truth value, which is true if and only if a reader goes on from the entry's positions after the
-- column's cells of the rows before the group
abbrev pub ArePositionsDecided : Opened → ℕ → List Cell → RowIndexMsg → List Bool → Type 0
ArePositionsDecided view c rows message right =
    AreDecided (shape_at view.schema c) (columns_of view.footer view.bytes c) (cells view.schema c rows)
    (bounds_of view.schema c rows (starts_of_groups view.stride (length rows)))
    message.entries right

-- column c has a row index with another number of entries than the rows have groups
abbrev pub HasOtherEntries : Opened → ℕ → ℕ → StripeFault → Type 0
HasOtherEntries view c rows f =
    (f ≡ fault.BadPosition (spot.Column c))
    × (message : RowIndexMsg) × HasIndex view.footer view.bytes c message
    × (HasEachGroup view rows message → ⊥)
