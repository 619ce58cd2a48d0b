-- The cells of each column, by the column's number in pre-order (ORC specification, "Column Encodings":
-- struct, list and map columns).
use Rattle.std.specs.Prelude.{ℕ, zero, suc, ◌-◌, ◌<◌, ◌≤◌, ◌≡◌, nat_lt, if◌then◌else◌, List, [], map, take, drop}
use Rattle.std.specs.List.{flat_map}
use Rattle.orc_values.specs.Shapes.{Shape, scalar, list_of, map_of, struct_of, Fields, no_field, field, width}
use Rattle.orc_values.specs.Cells.{Cell, parts, values, keys_in, values_in}

-- Column 0 has the rows. A list's child column has the elements of all lists that are not null, joined in order. A
-- map's child columns have the keys and the values of all maps that are not null, joined in order. A struct's field
-- column has that field of each struct that is not null, in order.
abbrev mutual
  pub cells : Shape → ℕ → List Cell → List Cell
  cells (scalar k o) c rows = rows
  cells (list_of s o) zero rows = rows
  cells (list_of s o) (suc c) rows = cells s c (flat_map parts (values rows))
  cells (map_of k v o) zero rows = rows
  cells (map_of k v o) (suc c) rows =
      if nat_lt c (width k) then cells k c (flat_map keys_in (values rows))
      else cells v (c - width k) (flat_map values_in (values rows))
  cells (struct_of fs o) zero rows = rows
  cells (struct_of fs o) (suc c) rows = cells_within fs c (map parts (values rows))

  -- the cells of a column of the fields, in pre-order, if each list has the fields of one struct
  pub cells_within : Fields → ℕ → List (List Cell) → List Cell
  cells_within no_field c structs = []
  cells_within (field name s fs) c structs =
      if nat_lt c (width s) then cells s c (flat_map (take 1) structs)
      else cells_within fs (c - width s) (map (drop 1) structs)

-- column c of the fields is column d of the field with index i
abbrev pub IsLocated : Fields → ℕ → ℕ → ℕ → Type 0
IsLocated no_field c i d = ⊥
IsLocated (field name s fs) c zero d = (c < width s) × (c ≡ d)
IsLocated (field name s fs) c (suc i) d = (width s ≤ c) × IsLocated fs (c - width s) i d
