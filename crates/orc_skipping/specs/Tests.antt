-- Tests of one column, as predicates.
use Rattle.std.specs.Prelude.{ℕ, Bool, ◌==◌, if◌then◌else◌, Option, None}
use Rattle.std.specs.Ordering.{is_eq, is_lt}
use Rattle.std.specs.declared.cmp.Ordering.{Ordering}
use Rattle.orc_values.specs.Cells.{Atom, bool, int, date, text, bytes}
use Rattle.orc_skipping.specs.declared.test_of_column.Constant.{Constant}
use Rattle.orc_skipping.specs.declared.test_of_column.Constant.TheVariants as constant
use Rattle.orc_skipping.specs.declared.test_of_column.Comparison.{Comparison}
use Rattle.orc_skipping.specs.declared.test_of_column.Comparison.TheVariants as comparison
use Rattle.orc_skipping.specs.declared.test_of_column.Test.{Test, fold-Test}
use Rattle.orc_skipping.specs.declared.test_of_column.Test.TheOpen.{Test-F}
use Rattle.orc_stats.specs.declared.stat.Stat.{Stat}
use Rattle.orc_skipping.specs.Predicates.{Predicate, compare, is_null, negate, both, either, at_most}

-- a constant as a value
abbrev pub atom_of : Constant → Atom
atom_of (constant.Bool b) = bool b
atom_of (constant.Int n) = int n
atom_of (constant.Date n) = date n
atom_of (constant.Text s) = text s.items
atom_of (constant.Bytes s) = bytes s.items

-- the orders that a comparison takes
abbrev pub takes : Comparison → Ordering → Bool
takes comparison.Equal = is_eq
takes comparison.Below = is_lt
takes comparison.AtMost = at_most

-- a node of a test, once those below it are predicates
abbrev pub predicate_step : Test-F Predicate → Predicate
predicate_step (Test-F.Compare o a) = compare 0 (takes o) (atom_of a)
predicate_step Test-F.IsNull = is_null 0
predicate_step (Test-F.Not p) = negate p.value
predicate_step (Test-F.Both p q) = both p.value q.value
predicate_step (Test-F.Either p q) = either p.value q.value

-- a test, as a predicate of column 0
abbrev pub predicate : Test → Predicate
predicate = fold-Test Predicate predicate_step

-- a predicate of one column, said of column c
abbrev pub said_of : ℕ → Predicate → Predicate
said_of c (compare d takes a) = compare c takes a
said_of c (is_null d) = is_null c
said_of c (negate p) = negate (said_of c p)
said_of c (both p q) = both (said_of c p) (said_of c q)
said_of c (either p q) = either (said_of c p) (said_of c q)

-- the statistic of column c, if there is one, and none of another column
abbrev pub at_column : ℕ → Option Stat → ℕ → Option Stat
at_column c told d = if d == c then told else None
