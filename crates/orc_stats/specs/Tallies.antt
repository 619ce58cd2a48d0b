-- How statistics are counted: what is kept on the way, and how two such counts join.
use Rattle.std.specs.Prelude.{◌≡◌, ℕ, ◌+◌, Bool, false, not, if◌then◌else◌, List, [], ◌∷◌, map, Option, Some}
use Rattle.orc_values.specs.Cells.{Cell, null, is_value}
use Rattle.orc_stats.specs.declared.stat.Stat.{Stat}
use Rattle.orc_stats.specs.declared.stat.Body.{Body}
use Rattle.orc_stats.specs.Statistics.{bit}
use Rattle.orc_stats.specs.Joining.{or_known, has_values}
use Rattle.orc_stats.specs.Orders.{IsOrderly}

-- what joins in any order and grouping
pub record Joins (P : Type 0) : Type 0 where
  pub none : P
  pub join : P → P → P
  pub unit : (p : P) → join none p ≡ p
  pub orderly : IsOrderly join

-- several parts joined
abbrev pub parts_together : {P : Type 0} → Joins P → List P → P
parts_together j [] = j.none
parts_together j (p ∷ ps) = j.join p (parts_together j ps)

-- what is counted of the values of one kind of column: what is kept of a cell and of the body of a statistic with
-- values, how that joins, and the body of the statistic that it gives
pub record Measure (P : Type 0) : Type 0 where
  pub joins : Joins P
  pub of_cell : Cell → P
  pub of_null : of_cell null ≡ joins.none
  pub of_body : Body → P
  pub body : P → Body

-- a tally: what is kept of all that was counted
pub record Kept (P : Type 0) : Type 0 where
  pub count : ℕ
  pub nulls : Option Bool
  pub parts : P

-- what is kept of no cells
abbrev pub none_kept : {P : Type 0} → Measure P → Kept P
none_kept m = record { count = 0; nulls = Some false; parts = m.joins.none }

-- two tallies joined
abbrev pub together : {P : Type 0} → Measure P → Kept P → Kept P → Kept P
together m a b =
    record { count = a.count + b.count; nulls = or_known a.nulls b.nulls; parts = m.joins.join a.parts b.parts }

-- what is kept of a cell
abbrev pub cell_kept : {P : Type 0} → Measure P → Cell → Kept P
cell_kept m c = record { count = bit (is_value c); nulls = Some (not (is_value c)); parts = m.of_cell c }

-- what is kept of a statistic, whose body counts only if it has values
abbrev pub stat_kept : {P : Type 0} → Measure P → Stat → Kept P
stat_kept m s =
    record { count = s.count; nulls = s.nulls; parts = if has_values s then m.of_body s.body else m.joins.none }

-- several tallies joined
abbrev pub all_kept : {P : Type 0} → Measure P → List (Kept P) → Kept P
all_kept m [] = none_kept m
all_kept m (k ∷ ks) = together m k (all_kept m ks)

-- what is kept of cells
abbrev pub cells_kept : {P : Type 0} → Measure P → List Cell → Kept P
cells_kept m cells = all_kept m (map (cell_kept m) cells)

-- what is kept of statistics
abbrev pub stats_kept : {P : Type 0} → Measure P → List Stat → Kept P
stats_kept m ss = all_kept m (map (stat_kept m) ss)

-- the statistic of what is kept
abbrev pub stat_of_kept : {P : Type 0} → Measure P → Kept P → Stat
stat_of_kept m k = record { count = k.count; nulls = k.nulls; body = m.body k.parts }
