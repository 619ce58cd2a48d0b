-- The groups of rows for which row indexes have entries, and the cells of each column in them (ORC specification,
-- "Row Group Index").
use Rattle.std.specs.Prelude.{◌≡◌, ℕ, ◌+◌, ◌*◌, ◌/◌, ◌%◌, ◌<◌, min, List, length, map, take}
use Rattle.std.specs.List.{range_with_len, flat_map}
use Rattle.orc_values.specs.Cells.{Cell, keys_in, values_in, values}
use Rattle.orc_values.specs.Columns.{cells, cells_within}
use Rattle.orc_values.specs.Shapes.{Shape, Fields, width, widths}

-- how many groups the rows have: each group begins with a multiple of the stride
abbrev pub group_count : ℕ → ℕ → ℕ
group_count stride rows = rows / stride + min 1 (rows % stride)

-- how many rows come before each group
abbrev pub starts_of_groups : ℕ → ℕ → List ℕ
starts_of_groups stride rows = map (λ group. group * stride) (range_with_len 0 (group_count stride rows))

-- how many cells of a column come from the first rows
abbrev pub cells_before : Shape → ℕ → List Cell → ℕ → ℕ
cells_before s c rows start = length (cells s c (take start rows))

-- how many cells of a column come before each group
abbrev pub bounds_of : Shape → ℕ → List Cell → List ℕ → List ℕ
bounds_of s c rows firsts = map (cells_before s c rows) firsts

-- how many cells of a column of the fields of structs come before each group; each struct is a list of cells
abbrev pub bounds_within : Fields → ℕ → List (List Cell) → List ℕ → List ℕ
bounds_within fs c structs firsts = map (λ start. length (cells_within fs c (take start structs))) firsts

-- the groups of the columns of s from number c on are those of the columns of t over these cells, with these bounds
abbrev pub AreGroupsFrom : Shape → List Cell → List ℕ → ℕ → Shape → List Cell → List ℕ → Type 0
AreGroupsFrom s rows firsts c t column bounds =
    (d : ℕ) → d < width t → bounds_of s (c + d) rows firsts ≡ bounds_of t d column bounds

-- the groups of the columns of s from number c on are those of the keys of maps, and then those of their values
abbrev pub ArePairGroupsFrom : Shape → List Cell → List ℕ → ℕ → Shape → Shape → List Cell → List ℕ → Type 0
ArePairGroupsFrom s rows firsts c k v maps bounds =
    AreGroupsFrom s rows firsts c k (flat_map keys_in (values maps)) bounds
    × AreGroupsFrom s rows firsts (c + width k) v (flat_map values_in (values maps)) bounds

-- the groups of the columns of s from number c on are those of the fields of structs
abbrev pub AreFieldGroupsFrom : Shape → List Cell → List ℕ → ℕ → Fields → List (List Cell) → List ℕ → Type 0
AreFieldGroupsFrom s rows firsts c fs structs bounds =
    (d : ℕ) → d < widths fs → bounds_of s (c + d) rows firsts ≡ bounds_within fs d structs bounds
