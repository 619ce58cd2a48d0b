-- A cell without its children: what the streams of its column store of it, without the columns below (ORC
-- specification, "Column Encodings"). A list or a map keeps only its size, a struct only that it is present.
use Rattle.std.specs.Prelude.{ℕ, length, replicate}
use Rattle.orc_values.specs.Cells.{Cell, null, leaf, list, struct, pairs, end, cells_of, list_of_cells, pairs_of, list_of_pairs}

-- this cell stands for every list of n elements
abbrev pub list_of_size : ℕ → Cell
list_of_size n = list (cells_of (replicate n null))

-- this cell stands for every map of n pairs
abbrev pub map_of_size : ℕ → Cell
map_of_size n = pairs (pairs_of (replicate n (null, null)))

-- this cell stands for every struct
abbrev pub childless_struct : Cell
childless_struct = struct end

-- a cell without its children: a list or a map keeps only its size
abbrev pub childless : Cell → Cell
childless null = null
childless (leaf a) = leaf a
childless (list cs) = list_of_size (length (list_of_cells cs))
childless (struct cs) = childless_struct
childless (pairs ps) = map_of_size (length (list_of_pairs ps))
