-- Texts that are the JSON of rows.
use Rattle.std.specs.Prelude.{◌≡◌, ◌<◌, ℕ, List, [], ◌∷◌, true, get_or, length, map, String, string_bytes}
use Rattle.std.specs.List.{AllByRecursion}
use Rattle.std.specs.declared.alloc.Global.{Global}
use Rattle.serde_json.specs.Data.{Data, Members, no_members, member}
use Rattle.serde_json.specs.Written.{compact_text}
use Rattle.orc_values.specs.declared.kind.Scalar.TheVariants as kind
use Rattle.orc_values.specs.Shapes.{Shape, scalar, struct_of}
use Rattle.orc_values.specs.Cells.{Cell, null, cells_of}
use Rattle.orc_values.specs.Fits.{fits}
use Rattle.orc_json_rows.specs.JsonPrinting.{json_of, members_json}
use Rattle.orc_values.specs.Views.{fields_of}

-- of each row of the type the text is that of its JSON
abbrev pub Prints : (Cell → List ℕ) → Shape → Type 0
Prints text s = (c : Cell) → fits c s ≡ true → text c ≡ compact_text (json_of s c)

-- the same of a struct with these fields
abbrev pub PrintsStruct : (Cell → List ℕ) → List (List ℕ × Shape) → Type 0
PrintsStruct text fs = (o : List ℕ) → Prints text (struct_of (fields_of fs) o)

-- the field at a place
abbrev pub no_name : List ℕ × Shape
no_name = ([], scalar kind.Boolean [])

-- the shape of a field, by its place
abbrev pub shape_in : List (List ℕ × Shape) → ℕ → Shape
shape_in fs i = (get_or fs i no_name).1

-- the cell of a field, by its place
abbrev pub cell_in : List Cell → ℕ → Cell
cell_in cs i = get_or cs i null

-- the JSON of the field at a place
abbrev pub json_in : List (List ℕ × Shape) → List Cell → ℕ → Data
json_in fs cs i = json_of (shape_in fs i) (cell_in cs i)

-- the members that stand at these places
abbrev pub members_at : (ℕ → Data) → List (String Global × ℕ) → Members
members_at f [] = no_members
members_at f (e ∷ es) = member (string_bytes e.0) (f e.1) (members_at f es)

-- the places are those of the fields in the order that the JSON has them in
abbrev pub ArePlacesInOrder : List (List ℕ × Shape) → List (String Global × ℕ) → Type 0
ArePlacesInOrder fs es = (cs : List Cell) → length cs ≡ length fs
    → members_at (json_in fs cs) es ≡ members_json (fields_of fs) (cells_of cs) no_members

-- each place is one of so many
abbrev pub AreWithin : ℕ → List (String Global × ℕ) → Type 0
AreWithin n es = AllByRecursion (λ e. e.1 < n) es

-- the places of these entries
abbrev pub entry_places : List (String Global × ℕ) → List ℕ
entry_places es = map (λ (e : String Global × ℕ). e.1) es
