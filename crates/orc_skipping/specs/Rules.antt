-- Two rules by which engines skip rows by their statistics (public knowledge: Apache ORC's readers in C++ and Java, and
-- Trino's; none of them was run here).
use Rattle.std.specs.Prelude.{ℕ, nat_lt, nat_le, Bool, true, false, not, ◌&&◌, ◌||◌, if◌then◌else◌, List, [], ◌∷◌, Option, Some, None}
use Rattle.std.specs.List.{list_any}
use Rattle.std.specs.Option.{option_map, option_and_then, option_map_or, is_none}
use Rattle.std.specs.Ordering.{ordering_index}
use Rattle.std.specs.declared.cmp.Ordering.{Ordering}
use Rattle.std.specs.declared.cmp.Ordering.TheVariants.{Less, Equal, Greater}
use Rattle.orc_values.specs.Cells.{Atom, bool, int, date, text}
use Rattle.orc_stats.specs.declared.stat.Stat.{Stat}
use Rattle.orc_stats.specs.declared.stat.Body.{Body}
use Rattle.orc_stats.specs.declared.stat.Body.TheVariants as body
use Rattle.orc_stats.specs.Joining.{has_values}
use Rattle.orc_skipping.specs.Predicates.{order, Predicate, compare, is_null, negate, both, either}

-- the least value that a statistic of `count` values stores; for booleans it is true if all of them are
abbrev pub least_in : ℕ → Body → Option Atom
least_in count (body.Ints l g s) = option_map int l
least_in count (body.Dates l g) = option_map date l
least_in count (body.Texts l g s) = option_map text l
least_in count (body.Bools t) = option_map (λ n. bool (nat_le count n)) t
least_in count _ = None

-- the greatest value that a statistic stores; for booleans it is true if one of them is
abbrev pub greatest_in : Body → Option Atom
greatest_in (body.Ints l g s) = option_map int g
greatest_in (body.Dates l g) = option_map date g
greatest_in (body.Texts l g s) = option_map text g
greatest_in (body.Bools t) = option_map (λ n. bool (nat_lt 0 n)) t
greatest_in _ = None

-- A value may have this order to a constant: the least value has no higher one, and the greatest no lower one, if they
-- are known.
abbrev pub may_have : Stat → Atom → Ordering → Bool
may_have s a o =
    option_map_or (λ r. nat_le (ordering_index r) (ordering_index o))
    (option_and_then (λ l. order l a) (least_in s.count s.body)) true
    && option_map_or (λ r. nat_le (ordering_index o) (ordering_index r))
    (option_and_then (λ g. order g a) (greatest_in s.body)) true

-- whether a truth value is the wanted one
abbrev pub is_wanted : Bool → Bool → Bool
is_wanted wanted x = if wanted then x else not x

-- whether a cell may make a comparison true, or false, as wanted
abbrev pub may_compare : (Ordering → Bool) → Atom → Bool → Stat → Bool
may_compare takes a wanted s =
    has_values s && list_any (λ o. may_have s a o && is_wanted wanted (takes o)) (Less ∷ Equal ∷ Greater ∷ [])

-- whether a cell may be null, or may be a value, as wanted
abbrev pub may_be_null : Bool → Stat → Bool
may_be_null wanted s = if wanted then option_map_or (λ n. n) s.nulls true else has_values s

-- Whether a row may make a predicate true, or false, as wanted, by the statistic of each column that has one. NOT
-- exchanges the two. A column without a statistic may have any cell.
abbrev pub may_be : (ℕ → Option Stat) → Predicate → Bool → Bool
may_be told (compare c takes a) wanted = option_map_or (may_compare takes a wanted) (told c) true
may_be told (is_null c) wanted = option_map_or (may_be_null wanted) (told c) true
may_be told (negate p) wanted = may_be told p (not wanted)
may_be told (both p q) wanted =
    if wanted then may_be told p true && may_be told q true else may_be told p false || may_be told q false
may_be told (either p q) wanted =
    if wanted then may_be told p true || may_be told q true else may_be told p false && may_be told q false

-- The cautious rule keeps the rows if one may match. A part of a statistic that is missing excludes nothing.
abbrev pub cautious : (ℕ → Option Stat) → Predicate → Bool
cautious told p = may_be told p true

-- a statistic of numbers, dates or texts that has no least value, or no greatest
abbrev pub lacks_bound : Body → Bool
lacks_bound (body.Ints l g s) = is_none l || is_none g
lacks_bound (body.Dates l g) = is_none l || is_none g
lacks_bound (body.Texts l g s) = is_none l || is_none g
lacks_bound _ = false

-- The bold rule takes such a statistic for one of nulls alone, and an unknown hasNull for false.
abbrev pub taken_boldly : Stat → Stat
taken_boldly s = record {
  count = if lacks_bound s.body then 0 else s.count;
  nulls = Some (option_map_or (λ n. n) s.nulls false);
  body = s.body;
}

-- whether the bold rule keeps the rows
abbrev pub bold : (ℕ → Option Stat) → Predicate → Bool
bold told p = may_be (λ c. option_map taken_boldly (told c)) p true
