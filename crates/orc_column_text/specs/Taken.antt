-- What is taken from the front of what columns have still to give (ORC specification, "Column Encodings"), with its
-- text.
use Rattle.std.specs.Prelude.{◌≡◌, ℕ, List, [], ◌∷◌, Bool, true, false, length}
use Rattle.orc_values.specs.Cells.{Cell, is_value}
use Rattle.orc_values.specs.Shapes.{Shape}
use Rattle.orc_column_reader.specs.Columns.{CellsLeft}
use Rattle.orc_column_reader.specs.Fronts.{Leaves}
use Rattle.orc_column_reader.specs.declared.column.ColumnReader.{ColumnReader}
use Rattle.orc_directory.specs.declared.fault.StripeFault.{StripeFault}
use Rattle.orc_directory.specs.declared.fault.StripeFault.TheVariants.{OutOfMemory}
use Rattle.orc_json_printer.specs.Outputs.{Puts}

-- a refusal is no want of memory of an output that grows
abbrev pub IsNoGrowth : Bool → StripeFault → Type 0
IsNoGrowth grows fault = fault ≡ OutOfMemory → grows ≡ false

-- one is taken, and its text is put behind what was there
pub record Printed {T X : Type 0} (holds : T → List ℕ → Type 0) (before after : List X → Type 0) (text : X → List ℕ)
    (old new : T) : Type 0 where
  pub one : X
  pub taken : Leaves before after (one ∷ [])
  pub put : Puts holds old new (text one)

-- the same of a cell that is not null
pub record PrintedValue {T : Type 0} (holds : T → List ℕ → Type 0) (before after : List Cell → Type 0)
    (text : Cell → List ℕ) (old new : T) : Type 0 where
  pub one : Cell
  pub some : is_value one ≡ true
  pub taken : Leaves before after (one ∷ [])
  pub put : Puts holds old new (text one)

-- so many are taken, and their text is put behind what was there
pub record PrintedAll {T X : Type 0} (holds : T → List ℕ → Type 0) (before after : List X → Type 0)
    (text : List X → List ℕ) (count : ℕ) (old new : T) : Type 0 where
  pub all : List X
  pub counted : length all ≡ count
  pub taken : Leaves before after all
  pub put : Puts holds old new (text all)

-- rows that are still to come from the readers of a schema's columns: so many, and nothing behind them
abbrev pub RowsLeft : Shape → List ColumnReader → ℕ → List Cell → Type 0
RowsLeft s readers left rows = (length rows ≡ left) × CellsLeft s readers rows

-- one of them is taken, with its text behind what was put; or there was none, and nothing is put
abbrev pub GaveText : {T : Type 0} → (T → List ℕ → Type 0) → (List Cell → Type 0) → (List Cell → Type 0)
    → (Cell → List ℕ) → T → T → Bool → Type 0
GaveText holds before after text old new true =
    (row : Cell) × Puts holds old new (text row) × ((rest : List Cell) → after rest → before (row ∷ rest))
GaveText holds before after text old new false = (new ≡ old) × before []

-- of such rows the first is taken and the others are left, or there is none
abbrev pub GivesText : {T : Type 0} → (T → List ℕ → Type 0) → List Cell → (List Cell → Type 0)
    → (Cell → List ℕ) → T → T → Bool → Type 0
GivesText holds [] after text old new true = ⊥
GivesText holds [] after text old new false = (new ≡ old) × after []
GivesText holds (row ∷ rest) after text old new true = Puts holds old new (text row) × after rest
GivesText holds (row ∷ rest) after text old new false = ⊥
