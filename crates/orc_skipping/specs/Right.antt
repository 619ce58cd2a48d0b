-- What the rules need of statistics, so that they skip no row that matches.
use Rattle.std.specs.Prelude.{◌≡◌, ℕ, true, false, List, Option, Some, IfSome}
use Rattle.std.specs.List.{AllByRecursion}
use Rattle.std.specs.Ordering.{is_gt}
use Rattle.orc_values.specs.Cells.{Atom, Cell, null, leaf}
use Rattle.orc_values.specs.Columns.{cells}
use Rattle.orc_values.specs.Shapes.{Shape}
use Rattle.orc_stats.specs.declared.stat.Stat.{Stat}
use Rattle.orc_stats.specs.Joining.{has_values}
use Rattle.orc_skipping.specs.Predicates.{order, Predicate, truth, cell_of_row}
use Rattle.orc_skipping.specs.Rules.{least_in, greatest_in, taken_boldly}

-- of two values of one kind, the first is no greater than the second
abbrev pub IsUpTo : Atom → Atom → Type 0
IsUpTo x y = IfSome (order x y) (λ o. is_gt o ≡ false)

-- A statistic admits a cell: null if it doesn't exclude nulls, else a value if it counts one and its least and greatest
-- values, as far as they are known, are bounds of this value.
abbrev pub Admits : Stat → Cell → Type 0
Admits s null = s.nulls ≡ Some false → ⊥
Admits s (leaf v) = (has_values s ≡ true)
    × IfSome (least_in s.count s.body) (λ l. IsUpTo l v)
    × IfSome (greatest_in s.body) (λ g. IsUpTo v g)
Admits s _ = has_values s ≡ true

-- the statistic of each column that has one admits all cells of the column in these rows
abbrev pub AreRight : Shape → List Cell → (ℕ → Option Stat) → Type 0
AreRight s rows told = (c : ℕ) → IfSome (told c) (λ x. AllByRecursion (Admits x) (cells s c rows))

-- the bold rule takes each statistic as it is
abbrev pub LackNothing : (ℕ → Option Stat) → Type 0
LackNothing told = (c : ℕ) → IfSome (told c) (λ x. taken_boldly x ≡ x)

-- the statistic of each column that has one admits the column's cell, if there is one
abbrev pub LeaveRoom : (ℕ → Option Stat) → (ℕ → Option Cell) → Type 0
LeaveRoom told at = (c : ℕ) → IfSome (told c) (λ x. IfSome (at c) (Admits x))

-- none of the rows matches
abbrev pub NoneMatches : Shape → Predicate → List Cell → Type 0
NoneMatches s p = AllByRecursion (λ row. truth (cell_of_row s row) p ≡ Some true → ⊥)
