-- The rows of a struct's fields, which are read over old ones up to a frontier.
use Rattle.std.specs.Prelude.{◌≡◌, ◌<◌, ℕ, zero, suc, List, [], ◌∷◌, length, get_or, Option, None, string_bytes}
use Rattle.orc_values.specs.declared.tree.Field.{Field}
use Rattle.orc_values.specs.declared.value.Value.{Value}

-- the field at this place is there and has the name
abbrev pub HasName : List Field → List ℕ → ℕ → Type 0
HasName fields name place = (place < length fields) × ((f : Field) → f ≡ get_or fields place f → string_bytes f.name ≡ name)

-- the first `n` rows, and null in place of each row after them
abbrev pub read_up_to : ℕ → List (Option Value) → List (Option Value)
read_up_to n [] = []
read_up_to zero (r ∷ rs) = None ∷ read_up_to zero rs
read_up_to (suc n) (r ∷ rs) = r ∷ read_up_to n rs
