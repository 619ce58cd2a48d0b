-- How many of a struct's fields an object has as keys (RFC 8259, "Objects").
use Rattle.std.specs.Prelude.{ℕ, List, [], ◌∷◌, ◌+◌, Option, None, Some}
use Rattle.serde_json.specs.Data.{Data}
use Rattle.serde_json.specs.Find.{get}

-- one where there is something
abbrev pub one_if_some : Option Data → ℕ
one_if_some None = 0
one_if_some (Some d) = 1

-- how many of the names are keys of a value
abbrev pub count_keys : List (List ℕ) → Data → ℕ
count_keys [] d = 0
count_keys (n ∷ ns) d = one_if_some (get n d) + count_keys ns d
