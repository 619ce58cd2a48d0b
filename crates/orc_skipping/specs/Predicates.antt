-- Predicates on columns, and their truth in a row: true, false or unknown (public knowledge: SQL's search conditions,
-- and the leaves of Apache ORC's SearchArgument; no engine was run here).
use Rattle.std.specs.Prelude.{ℕ, Bool, not, List, [], ◌∷◌, Option, Some, None}
use Rattle.std.specs.Option.{option_map, option_and_then}
use Rattle.std.specs.Ordering.{is_lt, is_eq, is_gt, int_cmp, nat_cmp}
use Rattle.std.specs.declared.cmp.Ordering.{Ordering}
use Rattle.orc_values.specs.Cells.{Atom, bool, int, date, text, bytes, Cell, leaf, is_value}
use Rattle.orc_values.specs.Columns.{cells}
use Rattle.orc_values.specs.Shapes.{Shape}
use Rattle.orc_stats.specs.Statistics.{bit, text_cmp}
use Rattle.orc_stats.specs.Joining.{or_known}

-- How two values of one kind compare: false is below true, and texts and byte strings go by unsigned bytes. Values of
-- two kinds don't compare.
abbrev pub order : Atom → Atom → Option Ordering
order (bool x) (bool y) = Some (nat_cmp (bit x) (bit y))
order (int x) (int y) = Some (int_cmp x y)
order (date x) (date y) = Some (int_cmp x y)
order (text x) (text y) = Some (text_cmp x y)
order (bytes x) (bytes y) = Some (text_cmp x y)
order _ _ = None

-- A column is named by its number. A comparison with a constant takes some of the three orders that a value may have to
-- it: `=` takes `is_eq`, and `<` takes `is_lt`.
pub data Predicate : Type 0 where
  compare : ℕ → (Ordering → Bool) → Atom → Predicate
  is_null : ℕ → Predicate
  negate : Predicate → Predicate
  both : Predicate → Predicate → Predicate
  either : Predicate → Predicate → Predicate

-- the orders that `<=` takes
abbrev pub at_most : Ordering → Bool
at_most o = not (is_gt o)

-- the orders that `>=` takes
abbrev pub at_least : Ordering → Bool
at_least o = not (is_lt o)

-- `BETWEEN a AND b`
abbrev pub is_between : ℕ → Atom → Atom → Predicate
is_between c a b = both (compare c at_least a) (compare c at_most b)

-- `IN` a list with a first value
abbrev pub is_one_of : ℕ → Atom → List Atom → Predicate
is_one_of c a [] = compare c is_eq a
is_one_of c a (b ∷ bs) = either (compare c is_eq a) (is_one_of c b bs)

-- the truth of a comparison for a cell: null, a list, a map and a struct compare with nothing
abbrev pub compared : (Ordering → Bool) → Atom → Cell → Option Bool
compared takes a (leaf v) = option_map takes (order v a)
compared takes a _ = None

-- The truth of a predicate, by the cell of each column: `None` is SQL's unknown, and is the answer for a column that
-- has no cell. A row matches if the answer is `Some true`.
abbrev pub truth : (ℕ → Option Cell) → Predicate → Option Bool
truth at (compare c takes a) = option_and_then (compared takes a) (at c)
truth at (is_null c) = option_map (λ x. not (is_value x)) (at c)
truth at (negate p) = option_map not (truth at p)
truth at (both p q) = option_map not (or_known (option_map not (truth at p)) (option_map not (truth at q)))
truth at (either p q) = or_known (truth at p) (truth at q)

-- the element of a list that has exactly one
abbrev pub only_one : {A : Type 0} → List A → Option A
only_one (x ∷ []) = Some x
only_one _ = None

-- A row's cell in a column: a field of the row, or of a struct in it. There is none if the row or that struct is null,
-- and the elements of a list are no cells of the row.
abbrev pub cell_of_row : Shape → Cell → ℕ → Option Cell
cell_of_row s row c = only_one (cells s c (row ∷ []))
