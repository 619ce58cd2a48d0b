-- The fields of a `RowPrinter`.
use Rattle.std.specs.Prelude.{◌≡◌, true}
use Rattle.orc_values.specs.Shapes.{Shape}
use Rattle.orc_json_rows.specs.FieldNames.{is_distinct}
use Rattle.orc_json_printer.specs.LaidOut.{IsLaidOut}
use Rattle.orc_json_printer.specs.Layouts.{text_by}
use Rattle.orc_json_printer.specs.Texts.{Prints}
use Rattle.orc_json.specs.declared.row_printer.RowPrinter.TheInside.{Inside}

-- the shape whose rows a printer prints
abbrev pub shape_of : Inside → Shape
shape_of p = p.schema.value

-- the layout prints the schema's rows, and is one of their type if no struct of the schema names a field twice
pub record PrintsRows (p : Inside) : Type 0 where
  pub text : Prints (text_by p.layout) (shape_of p)
  pub laid_out : is_distinct (shape_of p) ≡ true → IsLaidOut (shape_of p) p.layout
  pub distinct : p.distinct ≡ is_distinct (shape_of p)
