-- Rows that are rebuilt from the cells of their columns, each without its children (ORC specification, "Column
-- Encodings": struct, list and map columns).
use Rattle.std.specs.Prelude.{ℕ, ◌+◌, List, [], ◌∷◌, length, map, take, drop, replicate, zip, if◌then◌else◌}
use Rattle.orc_values.specs.Shapes.{Shape, scalar, list_of, map_of, struct_of, Fields, no_field, field, width}
use Rattle.orc_values.specs.Cells.{Cell, null, list, struct, pairs, cells_of, pairs_of, is_value, parts, pairs_in, values}

-- gives each list that isn't null the next elements, as many as its size
abbrev pub with_elements : List Cell → List Cell → List Cell
with_elements [] elements = []
with_elements (c ∷ cs) elements =
    (if is_value c then list (cells_of (take (length (parts c)) elements)) else null)
    ∷ with_elements cs (drop (length (parts c)) elements)

-- gives each map that isn't null the next pairs, as many as its size
abbrev pub with_pairs : List Cell → List (Cell × Cell) → List Cell
with_pairs [] ps = []
with_pairs (c ∷ cs) ps =
    (if is_value c then pairs (pairs_of (take (length (pairs_in c)) ps)) else null)
    ∷ with_pairs cs (drop (length (pairs_in c)) ps)

-- gives each struct that isn't null the fields of the next struct
abbrev pub with_fields : List Cell → List (List Cell) → List Cell
with_fields [] structs = []
with_fields (c ∷ cs) [] = c ∷ cs
with_fields (c ∷ cs) (x ∷ xs) =
    if is_value c then struct (cells_of x) ∷ with_fields cs xs else null ∷ with_fields cs (x ∷ xs)

-- The rows of a type whose columns begin at number c. A column of values has the rows itself. A list takes its elements
-- from the rows of its child, a map takes its keys and its values from the rows of its two children, and a struct that
-- isn't null takes the next row of each field.
abbrev mutual
  pub rows_from : Shape → (ℕ → List Cell) → ℕ → List Cell
  rows_from (scalar k o) own c = own c
  rows_from (list_of s o) own c = with_elements (own c) (rows_from s own (c + 1))
  rows_from (map_of k v o) own c =
      with_pairs (own c) (zip (rows_from k own (c + 1)) (rows_from v own (c + 1 + width k)))
  rows_from (struct_of fs o) own c = with_fields (own c) (structs_from fs own (c + 1) (length (values (own c))))

  -- the fields of n structs
  pub structs_from : Fields → (ℕ → List Cell) → ℕ → ℕ → List (List Cell)
  structs_from no_field own c n = replicate n []
  structs_from (field name s fs) own c n =
      map (λ p. p.0 ∷ p.1) (zip (rows_from s own c) (structs_from fs own (c + width s) n))
