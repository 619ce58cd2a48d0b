-- The kinds of a stripe's streams by their numbers (ORC specification, "Stripe Footer", Stream).
use Rattle.std.specs.Prelude.{ℕ}

-- which of a column's cells are not null
abbrev pub PRESENT : ℕ
PRESENT = 0

-- a column's values, or their indexes in its dictionary
abbrev pub DATA : ℕ
DATA = 1

-- the lengths of a column's values, or of its dictionary's entries
abbrev pub LENGTH : ℕ
LENGTH = 2

-- the entries of a column's dictionary
abbrev pub DICTIONARY_DATA : ℕ
DICTIONARY_DATA = 3

-- the kinds below this one are those that a column's cells are read from
abbrev pub CELL_KINDS : ℕ
CELL_KINDS = 4

-- a column's row index
abbrev pub ROW_INDEX : ℕ
ROW_INDEX = 6
