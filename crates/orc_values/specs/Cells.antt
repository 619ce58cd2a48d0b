-- A row, or a part of one, by its meaning (ORC specification, "Types" and "Column Encodings").
use Rattle.std.specs.Prelude.{ℕ, ℤ, List, [], ◌∷◌, map, Bool, true, false, if◌then◌else◌}

-- a value of a type that contains no other; texts and bytes are lists of bytes
pub data Atom : Type 0 where
  bool : Bool → Atom
  int : ℤ → Atom
  date : ℤ → Atom
  text : List ℕ → Atom
  bytes : List ℕ → Atom

-- a value, or null; any part of a row may be null
mutual
  pub data Cell : Type 0 where
    null : Cell
    leaf : Atom → Cell
    list : Cells → Cell
    struct : Cells → Cell
    -- the pairs of a map
    pairs : Pairs → Cell

  pub data Cells : Type 0 where
    end : Cells
    more : Cell → Cells → Cells

  -- a map's keys, each with its value, in order; a key may come more than once, and may be null
  pub data Pairs : Type 0 where
    no_pair : Pairs
    pair : Cell → Cell → Pairs → Pairs

-- a list of cells as the cells of a list or a struct
abbrev pub cells_of : List Cell → Cells
cells_of [] = end
cells_of (c ∷ cs) = more c (cells_of cs)

-- the cells of a list or a struct as a list
abbrev pub list_of_cells : Cells → List Cell
list_of_cells end = []
list_of_cells (more c cs) = c ∷ list_of_cells cs

-- a list of pairs as the pairs of a map
abbrev pub pairs_of : List (Cell × Cell) → Pairs
pairs_of [] = no_pair
pairs_of (p ∷ ps) = pair p.0 p.1 (pairs_of ps)

-- the pairs of a map as a list
abbrev pub list_of_pairs : Pairs → List (Cell × Cell)
list_of_pairs no_pair = []
list_of_pairs (pair k v ps) = (k, v) ∷ list_of_pairs ps

-- whether a cell isn't null
abbrev pub is_value : Cell → Bool
is_value null = false
is_value _ = true

-- the elements of a list or the fields of a struct; another cell has none
abbrev pub parts : Cell → List Cell
parts (list cs) = list_of_cells cs
parts (struct cs) = list_of_cells cs
parts _ = []

-- the pairs of a map; another cell has none
abbrev pub pairs_in : Cell → List (Cell × Cell)
pairs_in (pairs ps) = list_of_pairs ps
pairs_in _ = []

-- the keys of a map's pairs, in order
abbrev pub keys_in : Cell → List Cell
keys_in c = map (λ p. p.0) (pairs_in c)

-- the values of a map's pairs, in order
abbrev pub values_in : Cell → List Cell
values_in c = map (λ p. p.1) (pairs_in c)

-- the cells that are not null
abbrev pub values : List Cell → List Cell
values [] = []
values (c ∷ cs) = if is_value c then c ∷ values cs else values cs
