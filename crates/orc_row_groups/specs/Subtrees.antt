-- The columns of a part of a type, as the columns of the type at the root of that part, over its cells (ORC
-- specification, "Types": columns are numbered in pre-order).
use Rattle.std.specs.Prelude.{◌≡◌, ℕ, ◌+◌, ◌<◌, List, true}
use Rattle.std.specs.List.{AllByRecursion, flat_map}
use Rattle.orc_values.specs.Shapes.{Shape, Fields, width, widths, shape_at, shape_within}
use Rattle.orc_values.specs.Cells.{Cell, cells_of, keys_in, values_in, values}
use Rattle.orc_values.specs.Columns.{cells, cells_within}
use Rattle.orc_values.specs.Fits.{each_fits}

-- the columns of s from number c on, over the rows, are those of t over these cells
abbrev pub AreColumnsFrom : Shape → List Cell → ℕ → Shape → List Cell → Type 0
AreColumnsFrom s rows c t column =
    (d : ℕ) → d < width t → (shape_at s (c + d) ≡ shape_at t d) × (cells s (c + d) rows ≡ cells t d column)

-- the columns of s from number c on are those of the keys of maps, and then those of their values
abbrev pub ArePairsFrom : Shape → List Cell → ℕ → Shape → Shape → List Cell → Type 0
ArePairsFrom s rows c k v maps =
    AreColumnsFrom s rows c k (flat_map keys_in (values maps))
    × AreColumnsFrom s rows (c + width k) v (flat_map values_in (values maps))

-- the columns of s from number c on are those of the fields of structs; each struct is a list of cells
abbrev pub AreFieldsFrom : Shape → List Cell → ℕ → Fields → List (List Cell) → Type 0
AreFieldsFrom s rows c fs structs =
    (d : ℕ) → d < widths fs
    → (shape_at s (c + d) ≡ shape_within fs d) × (cells s (c + d) rows ≡ cells_within fs d structs)

-- each struct has one cell for each field, which fits it
abbrev pub FieldsFit : Fields → List (List Cell) → Type 0
FieldsFit fs structs = AllByRecursion (λ x. each_fits (cells_of x) fs ≡ true) structs
