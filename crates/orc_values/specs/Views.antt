-- The shapes and cells that the program's trees and values mean (ORC specification, "Types").
use Rattle.std.specs.Prelude.{ℕ, List, [], ◌∷◌, map, Option, Some, None, string_bytes}
use Rattle.std.specs.Borrow.{Bor}
use Rattle.std.specs.Cow.{cow_str_bytes, cow_slice_items}
use Rattle.orc_values.specs.Shapes.{Shape, scalar, list_of, map_of, struct_of, Fields, no_field, field}
use Rattle.orc_values.specs.Cells.{bool, int, date, text, bytes, Cell, null, leaf, list, struct, pairs, cells_of, pairs_of}
use Rattle.orc_values.specs.declared.tree.Tree.{Tree, fold-Tree}
use Rattle.orc_values.specs.declared.tree.Field.{Field, fold-Field}
use Rattle.orc_values.specs.declared.tree.Tree.TheOpen.{Tree-F, Field-F}
use Rattle.orc_values.specs.declared.value.Value.{Value, fold-Value}
use Rattle.orc_values.specs.declared.value.MapPair.{MapPair, fold-MapPair}
use Rattle.orc_values.specs.declared.value.Value.TheOpen.{Value-F, MapPair-F}

-- a list of names and shapes as a struct's fields
abbrev pub fields_of : List (List ℕ × Shape) → Fields
fields_of [] = no_field
fields_of (f ∷ fs) = field f.0 f.1 (fields_of fs)

-- a tree's node as a shape, from the shapes below it
abbrev pub shape_step : Tree-F Shape (List ℕ × Shape) → Shape
shape_step (Tree-F.Scalar k o) = scalar k o.items
shape_step (Tree-F.List s o) = list_of s.value o.items
shape_step (Tree-F.Map k v o) = map_of k.value v.value o.items
shape_step (Tree-F.Struct fs o) = struct_of (fields_of fs.items) o.items

-- a field as its name and its shape
abbrev pub field_step : Field-F Shape (List ℕ × Shape) → List ℕ × Shape
field_step f = (string_bytes f.name, f.tree)

-- the shape of a schema's tree
abbrev pub shape : Tree → Shape
shape = fold-Tree Shape (List ℕ × Shape) shape_step field_step

-- a field's name and type
abbrev pub name_and_type : Field → List ℕ × Shape
name_and_type = fold-Field Shape (List ℕ × Shape) shape_step field_step

-- the fields of a struct's tree
abbrev pub fields : List Field → Fields
fields fs = fields_of (map name_and_type fs)

-- a cell, or null if there is none
abbrev pub or_null : Option Cell → Cell
or_null None = null
or_null (Some c) = c

-- a value as a cell, from the cells in it
abbrev pub cell_step : Value-F Cell (Cell × Cell) → Cell
cell_step (Value-F.Bool b) = leaf (bool b)
cell_step (Value-F.Int n) = leaf (int n)
cell_step (Value-F.Date n) = leaf (date n)
cell_step (Value-F.Text s) = leaf (text (cow_str_bytes s))
cell_step (Value-F.Bytes s) = leaf (bytes (cow_slice_items s))
cell_step (Value-F.List v) = list (cells_of (map or_null v.items))
cell_step (Value-F.Struct v) = struct (cells_of (map or_null v.items))
cell_step (Value-F.Map v) = pairs (pairs_of v.items)

-- a map's pair as two cells
abbrev pub pair_step : MapPair-F Cell (Cell × Cell) → Cell × Cell
pair_step p = (or_null p.key, or_null p.value)

-- a value as a cell
abbrev pub cell_of_value : Value → Cell
cell_of_value = fold-Value Cell (Cell × Cell) cell_step pair_step

-- a map's key and its value as two cells
abbrev pub paired : MapPair → Cell × Cell
paired = fold-MapPair Cell (Cell × Cell) cell_step pair_step

-- the cell of a row
abbrev pub view : Option Value → Cell
view None = null
view (Some v) = cell_of_value v

-- rows as cells
abbrev pub views : List (Option Value) → List Cell
views rs = map view rs

-- the cells of rows that are lent
abbrev pub lent_views : List (Bor (Option Value)) → List Cell
lent_views rs = map (λ r. view r.now) rs
