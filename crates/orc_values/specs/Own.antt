-- A cell without its children, as the streams of its column store it (ORC specification, "Column Encodings").
use Rattle.std.specs.Prelude.{◌≡◌, true}
use Rattle.orc_values.specs.Cells.{Atom, bool, int, date, text, bytes, Cell, null, leaf}
use Rattle.orc_values.specs.Fits.{atom_fits}
use Rattle.orc_values.specs.declared.kind.Scalar.{Scalar}
use Rattle.orc_values.specs.Childless.{list_of_size, map_of_size, childless_struct}
use Rattle.orc_values.specs.declared.own.Own.{Own}
use Rattle.orc_values.specs.declared.own.Own.TheVariants as own

-- the cell that a column's streams store: a list or a map has only its size, a struct only that it is present
abbrev pub own_cell : Own → Cell
own_cell own.Null = null
own_cell (own.Bool b) = leaf (bool b)
own_cell (own.Int n) = leaf (int n)
own_cell (own.Date n) = leaf (date n)
own_cell (own.Text t) = leaf (text t.now)
own_cell (own.Bytes b) = leaf (bytes b.now)
own_cell (own.List n) = list_of_size n
own_cell (own.Map n) = map_of_size n
own_cell own.Struct = childless_struct

-- the cell is a value of a column of a kind that contains no other type
abbrev pub IsValueOf : Scalar → Cell → Type 0
IsValueOf k c = (a : Atom) × (c ≡ leaf a) × (atom_fits k a ≡ true)
