-- The columns of a struct's fields, one field behind the other (ORC specification, "Types"): where those of each begin
-- among the columns behind the struct's own, and how many they are.
use Rattle.std.specs.Prelude.{◌≡◌, ℕ, zero, suc, ◌+◌, Bool, List, [], ◌∷◌, ◌++◌, length, take, drop}
use Rattle.orc_values.specs.Cells.{Cell}
use Rattle.orc_values.specs.Shapes.{Shape, scalar, Fields, no_field, field, width}
use Rattle.orc_values.specs.declared.kind.Scalar.TheVariants as kind
use Rattle.orc_column_reader.specs.Columns.{CellsLeft}
use Rattle.orc_column_reader.specs.Fronts.{Leaves}
use Rattle.orc_column_reader.specs.ReaderFaults.{CellsMeet}
use Rattle.orc_column_reader.specs.declared.column.ColumnReader.{ColumnReader}
use Rattle.orc_directory.specs.declared.fault.StripeFault.{StripeFault}
use Rattle.orc_json_printer.specs.Layouts.{LaidMember}
use Rattle.orc_json_printer.specs.Outputs.{Puts}
use borrow.Rule.Slice.PartMut.{put_mid}

-- the type of the field at a place
abbrev pub field_at : Fields → ℕ → Shape
field_at no_field place = scalar kind.Boolean []
field_at (field name s fs) zero = s
field_at (field name s fs) (suc place) = field_at fs place

-- how many columns stand before it
abbrev pub columns_before : Fields → ℕ → ℕ
columns_before no_field place = 0
columns_before (field name s fs) zero = 0
columns_before (field name s fs) (suc place) = width s + columns_before fs place

-- its readers
abbrev pub readers_at : Fields → ℕ → List ColumnReader → List ColumnReader
readers_at fs place readers = take (width (field_at fs place)) (drop (columns_before fs place) readers)

-- a cell is taken from a field's columns
pub record GaveCell (s : Shape) (before after : List ColumnReader) (cell : Cell) : Type 0 where
  pub taken : Leaves (CellsLeft s before) (CellsLeft s after) (cell ∷ [])
  pub faults : (all : Bool) (n : ℕ) (f : StripeFault) → CellsMeet s after all n f → CellsMeet s before all (suc n) f

-- a member is printed: its key, and the cell of the field at its place, whose readers alone are others now
pub record PrintedMember {T : Type 0} (holds : T → List ℕ → Type 0) (fs : Fields) (p : LaidMember)
    (before after : List ColumnReader) (old new : T) : Type 0 where
  pub one : Cell
  pub own : List ColumnReader
  pub counted : length own ≡ width (field_at fs p.place)
  pub gave : GaveCell (field_at fs p.place) (readers_at fs p.place before) own one
  pub readers : after ≡ put_mid (columns_before fs p.place) (width (field_at fs p.place)) before own
  pub put : Puts holds old new (p.key ++ p.text one)
