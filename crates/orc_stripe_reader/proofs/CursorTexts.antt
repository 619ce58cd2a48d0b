-- The text of the next row of those that a cursor stands for.
use Rattle.std.proofs.Common.{◌≡◌, ℕ, List, [], ◌∷◌, Bool, true, false, refl, sym, ◌∙◌, subst}
use Rattle.orc_values.specs.Cells.{Cell}
use Rattle.orc_values.specs.Views.{shape}
use Rattle.orc_column_reader.specs.Columns.{CellsLeft}
use Rattle.orc_column_reader.specs.declared.column.ColumnReader.{ColumnReader}
use Rattle.orc_column_text.specs.Taken.{RowsLeft, GaveText, GivesText}
use Rattle.orc_stripe_reader.specs.Cursors.{IsGoing, StandsFor}
use Rattle.orc_stripe_reader.specs.declared.cursor.RowCursor.{RowCursor}

-- the rows that are left to a cursor's readers, and those that it stands for
left_stands : (c : RowCursor) (rs : List ColumnReader) (left : ℕ) (rows : List Cell) → IsGoing c → rs ≡ c.readers.items → left ≡ c.left → RowsLeft (shape c.tree.now) rs left rows → StandsFor c rows
left_stands c rs left rows going is n h = record { going = going; counted = h.0 ∙ n; spelled = subst (λ z. CellsLeft (shape c.tree.now) z rows) is h.1 }

stands_left : (c : RowCursor) (rs : List ColumnReader) (left : ℕ) (rows : List Cell) → rs ≡ c.readers.items → left ≡ c.left → StandsFor c rows → RowsLeft (shape c.tree.now) rs left rows
stands_left c rs left rows is n h = (h.counted ∙ sym n, subst (λ z. CellsLeft (shape c.tree.now) z rows) (sym is) h.spelled)

pub gave_text : {T : Type 0} (before after : RowCursor) (rs rs' : List ColumnReader) (left' : ℕ) (holds : T → List ℕ → Type 0) (text : Cell → List ℕ) (old new : T) (some : Bool) → IsGoing before → rs ≡ before.readers.items → rs' ≡ after.readers.items → left' ≡ after.left
    → GaveText holds (RowsLeft (shape before.tree.now) rs before.left) (RowsLeft (shape after.tree.now) rs' left') text old new some → GaveText holds (StandsFor before) (StandsFor after) text old new some
gave_text before after rs rs' left' holds text old new true going is is' n h =
    (h.0, h.1, λ rest r. left_stands before rs before.left (h.0 ∷ rest) going is refl (h.2 rest (stands_left after rs' left' rest is' n r)))
gave_text before after rs rs' left' holds text old new false going is is' n h = (h.0, left_stands before rs before.left [] going is refl h.1)

pub gives_text : {T : Type 0} (before after : RowCursor) (rs rs' : List ColumnReader) (left' : ℕ) (holds : T → List ℕ → Type 0) (text : Cell → List ℕ) (old new : T) (some : Bool) (rows : List Cell) → IsGoing after → rs ≡ before.readers.items → rs' ≡ after.readers.items → left' ≡ after.left
    → (RowsLeft (shape before.tree.now) rs before.left rows → GivesText holds rows (RowsLeft (shape after.tree.now) rs' left') text old new some) → StandsFor before rows → GivesText holds rows (StandsFor after) text old new some
gives_text before after rs rs' left' holds text old new some rows going is is' n gives stood =
    weaker rows some (gives (stands_left before rs before.left rows is refl stood))
  where
    weaker : (rows : List Cell) (some : Bool) → GivesText holds rows (RowsLeft (shape after.tree.now) rs' left') text old new some → GivesText holds rows (StandsFor after) text old new some
    weaker [] true h = absurd h
    weaker [] false h = (h.0, left_stands after rs' left' [] going is' n h.1)
    weaker (row ∷ rest) true h = (h.0, left_stands after rs' left' rest going is' n h.1)
    weaker (row ∷ rest) false h = absurd h
