-- The lines of rows as a cursor gives them, and how they go out (own).
use Rattle.std.specs.Prelude.{◌≡◌, ℕ, List, [], ◌∷◌, ◌++◌, Bool, true, false, Option, Some, None, suc, length}
use Rattle.std.specs.List.{flat_map}
use Rattle.std.specs.Io.KnownBytes.{Appends}
use Rattle.orc_values.specs.Cells.{Cell}
use Rattle.orc_json_printer.specs.Outputs.{Puts}
use Rattle.orc_stripe_reader.specs.Cursors.{StandsFor}
use Rattle.orc_stripe_reader.specs.declared.cursor.RowCursor.{RowCursor}
use Rattle.orc_cli_output.specs.Output.{AppendsPart}
use Rattle.orc_cli_rows.specs.declared.held.Held.{Held}

-- a row's text with a line end
abbrev pub text_line : (Cell → List ℕ) → Cell → List ℕ
text_line text row = text row ++ 10 ∷ []

-- the rows' in order
abbrev pub text_lines : (Cell → List ℕ) → List Cell → List ℕ
text_lines text rows = flat_map (text_line text) rows

-- a cursor stood for rows whose lines are put
pub record PutsAll {T : Type 0} (holds : T → List ℕ → Type 0) (text : Cell → List ℕ) (cursor : RowCursor)
    (old new : T) : Type 0 where
  pub rows : List Cell
  pub stands : StandsFor cursor rows
  pub put : Puts holds old new (text_lines text rows)

-- of these rows the lines of the first ones are put, and the cursor stands for the others
pub record PutsFront {T : Type 0} (holds : T → List ℕ → Type 0) (text : Cell → List ℕ) (all : List Cell)
    (after : RowCursor) (old new : T) : Type 0 where
  pub front : List Cell
  pub rest : List Cell
  pub all_are : all ≡ front ++ rest
  pub stands : StandsFor after rest
  pub put : Puts holds old new (text_lines text front)

-- the text that is held
abbrev pub IsHeld : Held → List ℕ → Type 0
IsHeld held bytes = held.text.items ≡ bytes

-- What a device has got of these bytes since it was as at the start: all but those that wait, or a part of them where it
-- failed.
abbrev pub IsSent : Option (List ℕ) → Option (List ℕ) → List ℕ → Bool → List ℕ → Type 0
IsSent start now waiting false bytes = (sent : List ℕ) × Appends start now sent × (bytes ≡ sent ++ waiting)
IsSent start now waiting true bytes = AppendsPart start now bytes

-- How it stood with a device before it got text, spelled in front of that text, as an output's clauses know one list of
-- bytes alone: the device's name, then 0 where it doesn't tell its bytes, else one more than their number and they.
abbrev pub spelled_start : ℕ → Option (List ℕ) → List ℕ
spelled_start name None = name ∷ 0 ∷ []
spelled_start name (Some bytes) = name ∷ suc (length bytes) ∷ bytes

-- a device of this name gets the text that stands behind its start, and all of it is sent but what waits, or a part where it
-- failed
pub record IsGiven (name : ℕ) (now : Option (List ℕ)) (waiting : List ℕ) (failed : Bool) (bytes : List ℕ) : Type 0 where
  pub start : Option (List ℕ)
  pub text : List ℕ
  pub bytes_are : bytes ≡ spelled_start name start ++ text
  pub sent : IsSent start now waiting failed text
