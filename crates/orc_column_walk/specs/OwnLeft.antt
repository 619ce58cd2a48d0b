-- What is left of the streams of one column, without those below it (ORC specification, "Column Encodings").
use Rattle.std.specs.Prelude.{◌≡◌, ℕ, ◌≤◌, pos, List, length, replicate, map, sum}
use Rattle.std.specs.List.{flat_map}
use Rattle.orc_values.specs.Cells.{Cell, parts, pairs_in}
use Rattle.orc_values.specs.Shapes.{Shape, scalar, list_of, map_of, struct_of}
use Rattle.orc_column_reader.specs.Columns.{ScalarLeft}
use Rattle.orc_column_reader.specs.Numbers.{NumbersLeft}
use Rattle.orc_column_reader.specs.declared.column.ValueSource.{ValueSource}
use Rattle.orc_values.specs.Childless.{list_of_size, map_of_size, childless_struct}

-- sizes of lists or maps that are left, for which there is room
abbrev pub SizesLeft : ValueSource → List ℕ → Type 0
SizesLeft r sizes = NumbersLeft r.numbers (map pos sizes) × (sum sizes ≤ r.room)

-- lists or maps that are left, as cells with these sizes
abbrev pub SizedLeft : (ℕ → Cell) → ValueSource → List Cell → Type 0
SizedLeft sized r vs = (sizes : List ℕ) × SizesLeft r sizes × (vs ≡ map sized sizes)

-- the values that are left of a column, without children
abbrev pub OwnValuesLeft : Shape → ValueSource → List Cell → Type 0
OwnValuesLeft (scalar k o) r vs = ScalarLeft k r vs
OwnValuesLeft (list_of s o) r vs = SizedLeft list_of_size r vs
OwnValuesLeft (map_of k v o) r vs = SizedLeft map_of_size r vs
OwnValuesLeft (struct_of fs o) r vs = vs ≡ replicate (length vs) childless_struct

-- how many children the values have, which is how many cells each column right below has
abbrev pub children : Shape → List Cell → ℕ
children (scalar k o) vs = 0
children (list_of s o) vs = length (flat_map parts vs)
children (map_of k v o) vs = length (flat_map pairs_in vs)
children (struct_of fs o) vs = length vs
