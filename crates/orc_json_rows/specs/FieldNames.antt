-- The names of a schema's fields, which JSON objects have as their keys (RFC 8259, "Objects").
use Rattle.std.specs.Prelude.{ℕ, List, [], ◌∷◌, Bool, true, false, not, ◌&&◌, ◌||◌, bytes_eq}
use Rattle.serde_json.specs.Data.{Members, no_members, member}
use Rattle.orc_values.specs.Shapes.{Shape, scalar, list_of, map_of, struct_of, Fields, no_field, field, names_of}

-- whether a name is one of these
abbrev pub is_among : List (List ℕ) → List ℕ → Bool
is_among [] n = false
is_among (m ∷ ms) n = bytes_eq m n || is_among ms n

-- whether no two names are the same
abbrev pub all_differ : List (List ℕ) → Bool
all_differ [] = true
all_differ (n ∷ ns) = not (is_among ns n) && all_differ ns

-- no struct names a field twice
abbrev mutual
  pub is_distinct : Shape → Bool
  is_distinct (scalar k o) = true
  is_distinct (list_of s o) = is_distinct s
  is_distinct (map_of k v o) = is_distinct k && is_distinct v
  is_distinct (struct_of fs o) = all_differ (names_of fs) && are_distinct fs

  pub are_distinct : Fields → Bool
  are_distinct no_field = true
  are_distinct (field name s fs) = is_distinct s && are_distinct fs

-- each key is one of the names
abbrev pub all_known : List (List ℕ) → Members → Bool
all_known ns no_members = true
all_known ns (member k d ms) = is_among ns k && all_known ns ms
