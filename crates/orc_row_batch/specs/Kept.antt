-- What is kept of a column's cells: each cell without its children; and apart from the cells the bytes of all texts,
-- and of all byte strings, joined in order (ORC specification, "Column Encodings": string and binary columns store the
-- bytes apart from the lengths).
use Rattle.std.specs.Prelude.{ℕ, ◌++◌, List, [], ◌∷◌, length, map, take, drop, string_bytes}
use Rattle.std.specs.List.{flat_map}
use Rattle.orc_values.specs.Cells.{bool, int, date, text, bytes, Cell, null, leaf, list, struct, pairs, list_of_cells, list_of_pairs}
use Rattle.orc_values.specs.Childless.{list_of_size, map_of_size, childless_struct}
use Rattle.orc_row_batch.specs.declared.kept_cell.KeptCell.{KeptCell}
use Rattle.orc_row_batch.specs.declared.kept_cell.KeptCell.TheVariants as kept_cell
use Rattle.orc_row_batch.specs.declared.vector.ColumnVector.{ColumnVector}

-- a column's cells, the bytes of its texts, and the bytes of its byte strings
pub record KeptColumn : Type 0 where
  pub cells : List KeptCell
  pub texts : List ℕ
  pub bytes : List ℕ

-- a column without cells
abbrev pub nothing : KeptColumn
nothing = record { cells = []; texts = []; bytes = [] }

-- what a column's vector keeps
abbrev pub kept : ColumnVector → KeptColumn
kept v = record { cells = v.cells.items; texts = string_bytes v.texts; bytes = v.bytes.items }

-- ---- as it is kept

-- a cell as it is kept: of a text or a byte string its length, of a list or a map its size
abbrev pub kept_cell_of : Cell → KeptCell
kept_cell_of null = kept_cell.Null
kept_cell_of (leaf (bool b)) = kept_cell.Bool b
kept_cell_of (leaf (int n)) = kept_cell.Int n
kept_cell_of (leaf (date n)) = kept_cell.Date n
kept_cell_of (leaf (text t)) = kept_cell.Text (length t)
kept_cell_of (leaf (bytes b)) = kept_cell.Bytes (length b)
kept_cell_of (list cs) = kept_cell.List (length (list_of_cells cs))
kept_cell_of (struct cs) = kept_cell.Struct
kept_cell_of (pairs ps) = kept_cell.Map (length (list_of_pairs ps))

-- the bytes of a cell that is a text; none of any other cell
abbrev pub text_in : Cell → List ℕ
text_in (leaf (text t)) = t
text_in _ = []

-- the bytes of a cell that is a byte string; none of any other cell
abbrev pub binary_in : Cell → List ℕ
binary_in (leaf (bytes b)) = b
binary_in _ = []

-- a column with more cells added at its end
abbrev pub with_cells : List Cell → KeptColumn → KeptColumn
with_cells cs k = record {
  cells = k.cells ++ map kept_cell_of cs;
  texts = k.texts ++ flat_map text_in cs;
  bytes = k.bytes ++ flat_map binary_in cs;
}

-- ---- as it is read again

-- the length of a cell's text in bytes; 0 if the cell is no text
abbrev pub text_size : KeptCell → ℕ
text_size (kept_cell.Text n) = n
text_size _ = 0

-- the length of a cell's byte string in bytes; 0 if the cell is no byte string
abbrev pub bytes_size : KeptCell → ℕ
bytes_size (kept_cell.Bytes n) = n
bytes_size _ = 0

-- a cell, whose text or byte string is taken from the front of the bytes that are left
abbrev pub cell_of : KeptCell → List ℕ → List ℕ → Cell
cell_of kept_cell.Null texts strings = null
cell_of (kept_cell.Bool b) texts strings = leaf (bool b)
cell_of (kept_cell.Int n) texts strings = leaf (int n)
cell_of (kept_cell.Date n) texts strings = leaf (date n)
cell_of (kept_cell.Text n) texts strings = leaf (text (take n texts))
cell_of (kept_cell.Bytes n) texts strings = leaf (bytes (take n strings))
cell_of (kept_cell.List n) texts strings = list_of_size n
cell_of (kept_cell.Map n) texts strings = map_of_size n
cell_of kept_cell.Struct texts strings = childless_struct

-- cells, whose texts and byte strings are taken from the joined bytes in order
abbrev pub cells_from : List KeptCell → List ℕ → List ℕ → List Cell
cells_from [] texts strings = []
cells_from (k ∷ ks) texts strings =
    cell_of k texts strings ∷ cells_from ks (drop (text_size k) texts) (drop (bytes_size k) strings)

-- the cells of a column, each without its children
abbrev pub told : KeptColumn → List Cell
told k = cells_from k.cells k.texts k.bytes
