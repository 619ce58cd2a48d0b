-- The groups of a column's cells: how many cells come before each (ORC specification, "Row Group Index").
use Rattle.std.specs.Prelude.{ℕ, suc, ◌≤◌, List, length, get_or, take, drop}
use Rattle.std.specs.List.{flat_map}
use Rattle.orc_values.specs.Cells.{Cell, parts, pairs_in, values}

-- where a group of `count` cells begins: at its bound, or at the end of the cells if there is no such group
abbrev pub bound_at : ℕ → List ℕ → ℕ → ℕ
bound_at count bounds group = get_or bounds group count

-- no bound is below the one before it or above the number of cells
abbrev pub AreBounds : ℕ → List ℕ → Type 0
AreBounds count bounds = (group : ℕ) → bound_at count bounds group ≤ bound_at count bounds (suc group)

-- the cells before a group
abbrev pub before_group : List Cell → List ℕ → ℕ → List Cell
before_group cells bounds group = take (bound_at (length cells) bounds group) cells

-- the cells of a group: from its bound to the next one, or to the end
abbrev pub group_of : List Cell → List ℕ → ℕ → List Cell
group_of cells bounds group =
    drop (bound_at (length cells) bounds group) (take (bound_at (length cells) bounds (suc group)) cells)

-- how many elements the lists among the first cells have
abbrev pub elements_before : List Cell → ℕ → ℕ
elements_before cells bound = length (flat_map parts (values (take bound cells)))

-- how many pairs the maps among the first cells have, which is how many keys and how many values
abbrev pub pairs_before : List Cell → ℕ → ℕ
pairs_before cells bound = length (flat_map pairs_in (values (take bound cells)))

-- how many of the first cells are not null
abbrev pub values_before : List Cell → ℕ → ℕ
values_before cells bound = length (values (take bound cells))
