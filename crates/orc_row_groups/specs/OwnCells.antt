-- Cells of a column without their children, in a slice (ORC specification, "Column Encodings").
use Rattle.std.specs.Prelude.{◌≡◌, List, map}
use Rattle.orc_values.specs.Cells.{Cell}
use Rattle.orc_values.specs.Childless.{childless}
use Rattle.orc_values.specs.Own.{own_cell}
use Rattle.orc_values.specs.declared.own.Own.{Own}

-- the cells that these stand for: a list or a map has only its size, a struct only that it is present
abbrev pub own_cells : List Own → List Cell
own_cells owns = map own_cell owns

-- these are the cells without their children
abbrev pub AreOwn : List Own → List Cell → Type 0
AreOwn owns cells = own_cells owns ≡ map childless cells
