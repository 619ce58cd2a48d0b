-- What stands behind a group's positions: one list of rows at most, which are of the schema.
use Rattle.std.proofs.Common.{◌≡◌, ◌∙◌, ℕ, List, sym, ap, subst, arith, slice_get}
use Rattle.std.proofs.lemmas.Option.{same_Some, slice_get_within}
use Rattle.orc_wire.specs.Messages.{row_index}
use Rattle.orc_wire.specs.laws.SpellsLaws.{one_spelled}
use Rattle.orc_wire.specs.declared.row_index.RowIndexEntry.{RowIndexEntry}
use Rattle.orc_wire.specs.declared.row_index.RowIndexMsg.{RowIndexMsg}
use Rattle.orc_values.specs.Cells.{Cell}
use Rattle.orc_values.specs.Fits.{RowsFit}
use Rattle.orc_values.specs.Shapes.{shape_at}
use Rattle.orc_column_reader.specs.Columns.{CellsLeft}
use Rattle.orc_column_reader.specs.Stripe.{columns_of}
use Rattle.orc_column_reader.specs.declared.column.ColumnReader.{ColumnReader}
use Rattle.orc_row_reader.proofs.LeftFits.{left_fits}
use Rattle.orc_row_reader.proofs.OneLeft.{one_left}
use Rattle.orc_group_reader.specs.ReadersAt.{ColumnAt, ReadersAt}
use Rattle.orc_group_reader.proofs.SameLeft.{same_left}
use Rattle.orc_stripe_reader.specs.Opened.{Opened}
use Rattle.orc_stripe_reader.specs.RowIndexes.{index_text}
use Rattle.orc_stripe_reader.specs.GroupCursors.{IsGroupEntry, EntersGroup, SpellsFrom}
use Rattle.orc_group_reader.proofs.ColumnsBehind.{entry_there}

-- a column has one entry of a group at most
one_entry : (view : Opened) (c group : ℕ) (x y : RowIndexEntry) → IsGroupEntry view c group x → IsGroupEntry view c group y → x ≡ y
one_entry view c group x y p q =
    let same : p.0 ≡ q.0 = one_spelled row_index 0 0 (index_text view.footer view.bytes c) p.0 q.0 p.1.1 q.1.1 in
    same_Some x y (sym p.3 ∙ (ap (λ (m : RowIndexMsg). slice_get m.entries group) same ∙ q.3))

-- so two lists of readers that enter it stand at the same positions
enters_as : (view : Opened) (group : ℕ) (a b : List ColumnReader) (m : EntersGroup view group a) → EntersGroup view group b → ReadersAt view.schema (columns_of view.footer view.bytes) m.entries b
enters_as view group a b m n = record {
  listed = m.counted;
  counted = n.stand.counted;
  column = λ c entry reader at own.
      let lt = slice_get_within m.entries c entry at in
      let k = entry_there n.entries c (omega (arith, lt, m.counted, n.counted)) in
      let same : k.0 ≡ entry = one_entry view c group k.0 entry (n.of_group c k.0 k.1) (m.of_group c entry at) in
      subst (λ (e : RowIndexEntry). ColumnAt (shape_at view.schema c) (columns_of view.footer view.bytes c) c e.positions reader) same (n.stand.column c k.0 reader k.1 own);
}

-- and rows that stand behind the group's positions are those that each of them gives
pub gives_behind : (view : Opened) (group : ℕ) (rows : List Cell) (readers : List ColumnReader) → EntersGroup view group readers → SpellsFrom view group rows → CellsLeft view.schema readers rows
gives_behind view group rows readers enters h =
    same_left view.schema (columns_of view.footer view.bytes) h.entered.entries h.readers readers rows h.entered.stand (enters_as view group h.readers readers h.entered enters) h.spelled

pub one_behind : (view : Opened) (group : ℕ) (a b : List Cell) → SpellsFrom view group a → SpellsFrom view group b → a ≡ b
one_behind view group a b p q = one_left view.schema q.readers a b (gives_behind view group a q.readers q.entered p) q.spelled (omega (arith, p.counted, q.counted))

pub fits_behind : (view : Opened) (group : ℕ) (rows : List Cell) → SpellsFrom view group rows → RowsFit view.schema rows
fits_behind view group rows p = left_fits view.schema p.readers rows p.spelled
