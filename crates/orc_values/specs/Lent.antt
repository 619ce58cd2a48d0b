-- The cells of rows that are lent, as a slice of references (ORC specification, "Column Encodings").
use Rattle.std.specs.Prelude.{List, map}
use Rattle.orc_values.specs.Cells.{Cell}
use Rattle.orc_values.specs.Views.{view}
use Rattle.orc_values.specs.declared.lent.Lent.{Lent}

-- lent rows as cells
abbrev pub lent_cells : List Lent → List Cell
lent_cells rs = map (λ r. view r.0.now) rs
