-- Rows that a cursor gives one after the other (ORC specification, "Stripes").
use Rattle.std.specs.Prelude.{◌≡◌, ◌+◌, Bool, true, false, Option, Some, None, List, [], ◌∷◌, length}
use Rattle.orc_values.specs.Cells.{Cell}
use Rattle.orc_values.specs.Shapes.{Shape}
use Rattle.orc_values.specs.Views.{view, shape}
use Rattle.orc_values.specs.declared.value.Value.{Value}
use Rattle.orc_column_reader.specs.Columns.{CellsLeft}
use Rattle.orc_column_reader.specs.ReaderFaults.{CellsMeet}
use Rattle.orc_directory.specs.declared.fault.StripeFault.{StripeFault}
use Rattle.orc_stripe_reader.specs.declared.cursor.RowCursor.{RowCursor}

-- the type of a cursor's rows
abbrev pub row_type : RowCursor → Shape
row_type c = shape c.tree.now

-- a cursor that has failed
abbrev pub HasRefused : RowCursor → Type 0
HasRefused c = c.failed ≡ true

-- a cursor that hasn't failed
abbrev pub IsGoing : RowCursor → Type 0
IsGoing c = c.failed ≡ false

-- the cursor hasn't failed, and these are its remaining rows: as many as it has left, as its readers spell them
pub record StandsFor (c : RowCursor) (rows : List Cell) : Type 0 where
  pub going : IsGoing c
  pub counted : length rows ≡ c.left
  pub spelled : CellsLeft (row_type c) c.readers.items rows

-- A cursor returned the first of these rows, and the others are its remaining rows; or there are no rows, and it
-- returned none.
abbrev pub GivesRow : List Cell → RowCursor → Option (Option Value) → Type 0
GivesRow [] after None = StandsFor after []
GivesRow [] after (Some row) = ⊥
GivesRow (r ∷ rest) after None = ⊥
GivesRow (r ∷ rest) after (Some row) = (view row ≡ r) × StandsFor after rest

-- If rows remain after an answer, the row that was returned, followed by these, remained before it. If none was
-- returned, no rows remained.
abbrev pub Gave : RowCursor → RowCursor → Option (Option Value) → Type 0
Gave before after None = StandsFor before []
Gave before after (Some row) = (rest : List Cell) → StandsFor after rest → StandsFor before (view row ∷ rest)

-- one row fewer is left after a row was returned, and as many as before if none was
abbrev pub CountsDown : RowCursor → RowCursor → Option (Option Value) → Type 0
CountsDown before after None = after.left ≡ before.left
CountsDown before after (Some row) = before.left ≡ after.left + 1

-- a fault of the rest of the columns' streams, read for as many rows as the cursor has left
abbrev pub MeetsFault : RowCursor → StripeFault → Type 0
MeetsFault c f = (all : Bool) × CellsMeet (row_type c) c.readers.items all c.left f
