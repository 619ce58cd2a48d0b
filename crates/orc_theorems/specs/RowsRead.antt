-- The rows that a cursor gave (own).
use Rattle.std.specs.Prelude.{Option, Some, None, List, ◌∷◌}
use Rattle.orc_values.specs.Cells.{Cell}
use Rattle.orc_values.specs.Views.{view}
use Rattle.orc_values.specs.declared.value.Value.{Value}

-- the first row that was read, if there is one, and the rows that were read after it
abbrev pub rows_read : Option (Option Value) → List Cell → List Cell
rows_read None rest = rest
rows_read (Some row) rest = view row ∷ rest
