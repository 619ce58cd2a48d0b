-- The kinds of encodings by their numbers (ORC specification, "Stripe Footer", ColumnEncoding).
use Rattle.std.specs.Prelude.{ℕ, Bool, ◌||◌, ◌==◌}

-- values as they are, integers in runs of version 1
abbrev pub DIRECT : ℕ
DIRECT = 0

-- strings as their indexes in a dictionary, integers in runs of version 1
abbrev pub DICTIONARY : ℕ
DICTIONARY = 1

-- values as they are, integers in runs of version 2
abbrev pub DIRECT_V2 : ℕ
DIRECT_V2 = 2

-- strings as their indexes in a dictionary, integers in runs of version 2
abbrev pub DICTIONARY_V2 : ℕ
DICTIONARY_V2 = 3

-- the encodings that have a dictionary
abbrev pub is_dictionary : ℕ → Bool
is_dictionary kind = (kind == DICTIONARY) || (kind == DICTIONARY_V2)
