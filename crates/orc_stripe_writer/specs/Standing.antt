-- Where the writer is on its way down the schema, and what holds for the columns that come next (ORC specification,
-- "Types": columns are numbered in pre-order; "Row Group Index").
use Rattle.std.specs.Prelude.{ℕ, ◌+◌, ◌≤◌, List, length, map}
use Rattle.orc_values.specs.Shapes.{Shape, Fields, width, widths}
use Rattle.orc_values.specs.Cells.{Cell, parts, values}
use Rattle.orc_values.specs.Columns.{cells}
use Rattle.orc_values.specs.Fits.{RowsFit}
use Rattle.orc_row_groups.specs.Bounds.{AreBounds}
use Rattle.orc_stripe_writer.specs.Firsts.{firsts_of}
use Rattle.orc_row_groups.specs.Groups.{AreGroupsFrom, AreFieldGroupsFrom}
use Rattle.orc_stripe_writer.specs.WrittenStripe.{AreFew}
use Rattle.orc_stripe_writer.specs.Subtrees.{FieldsAreFew}
use Rattle.orc_row_groups.specs.Subtrees.{AreColumnsFrom, AreFieldsFrom, FieldsFit}

-- The columns of the rows from number c on are the columns of the type t over column c's cells. These cells fit the
-- type, and no column has too many. The bounds are the numbers of column c's cells before each group.
pub record ColumnStands (s : Shape) (rows : List Cell) (stride c : ℕ) (t : Shape) (bounds : List ℕ) : Type 0 where
  pub within : c + width t ≤ width s
  pub from : AreColumnsFrom s rows c t (cells s c rows)
  pub groups : AreGroupsFrom s rows (firsts_of stride (length rows)) c t (cells s c rows) bounds
  pub fit : RowsFit t (cells s c rows)
  pub few : AreFew t (cells s c rows)
  pub bounded : AreBounds (length (cells s c rows)) bounds

-- The columns of the rows from number c on are the columns of the fields fs over these structs, each a list of cells.
-- The structs fit the fields, and no column has too many cells. The bounds are the numbers of structs before each
-- group.
pub record FieldsStand (s : Shape) (rows : List Cell) (stride c : ℕ) (fs : Fields) (structs : List (List Cell))
    (bounds : List ℕ) : Type 0 where
  pub within : c + widths fs ≤ width s
  pub from : AreFieldsFrom s rows c fs structs
  pub groups : AreFieldGroupsFrom s rows (firsts_of stride (length rows)) c fs structs bounds
  pub fit : FieldsFit fs structs
  pub few : FieldsAreFew fs structs
  pub bounded : AreBounds (length structs) bounds

-- the structs of a column that aren't null, each as the list of its fields' cells
abbrev pub structs_in : Shape → List Cell → ℕ → List (List Cell)
structs_in s rows c = map parts (values (cells s c rows))
