-- What is counted of a column's cells while they are read (ORC specification, "Row Group Index").
use Rattle.std.specs.Prelude.{◌≡◌, ◌≤◌, ℕ, suc, ◌+◌, Bool, Some, List, length, map, min, slice_get, take}
use Rattle.orc_values.specs.Cells.{Cell, values}
use Rattle.orc_values.specs.Shapes.{Shape}
use Rattle.orc_values.specs.declared.own.Own.{Own}
use Rattle.orc_values.specs.declared.own.Own.TheVariants as own
use Rattle.orc_values.specs.Trues.{trues}
use Rattle.orc_stats.specs.Kinds.{kind_of}
use Rattle.orc_stats.specs.Statistics.{stat}
use Rattle.orc_row_groups.specs.Bounds.{AreBounds, bound_at, values_before}
use Rattle.orc_row_groups.specs.Counts.{AreCounted, most}
use Rattle.orc_column_walk.specs.ColumnFound.{IsGroupFound}
use Rattle.orc_column_walk.specs.OwnLeft.{children}
use Rattle.orc_column_walk.specs.declared.found.ColumnFound.{ColumnFound}
use Rattle.orc_column_walk.specs.declared.found.GroupFound.{GroupFound}
use Rattle.orc_column_walk.specs.declared.passed.Passed.{Passed}

-- how many children a value has
abbrev pub own_children : Own → ℕ
own_children (own.List n) = n
own_children (own.Map n) = n
own_children own.Struct = 1
own_children _ = 0

-- how many children the first cells have, counted up to 2^64 - 1
abbrev pub children_before : Shape → List Cell → ℕ → ℕ
children_before s cells bound = min most (children s (values (take bound cells)))

-- the counts are those of these cells
pub record IsPassed (s : Shape) (cells : List Cell) (passed : Passed) : Type 0 where
  pub counted : AreCounted passed.counts cells
  pub children_are : passed.children ≡ min most (children s (values cells))

-- the cells have these values, and as many of them before each bound as its value bound
pub record HavePassedValues (count : ℕ) (bounds value_bounds : List ℕ) (vs cells : List Cell) : Type 0 where
  pub counted : length cells ≡ count
  pub values_are : values cells ≡ vs
  pub before : map (values_before cells) bounds ≡ value_bounds

-- how many of the first cells are not null, by their marks
abbrev pub trues_before : List Bool → ℕ → ℕ
trues_before marks bound = trues (take bound marks)

-- How many values come before each bound. A group has no more values than cells.
pub record AreValueBounds (count : ℕ) (bounds : List ℕ) (values : ℕ) (value_bounds : List ℕ) : Type 0 where
  pub as_many : length value_bounds ≡ length bounds
  pub ascending : AreBounds values value_bounds
  pub first : bound_at values value_bounds 0 ≡ 0
  pub fewer : (g : ℕ) → bound_at values value_bounds (suc g) + bound_at count bounds g ≤ bound_at values value_bounds g + bound_at count bounds (suc g)

-- what is found about the first n groups of these cells
pub record AreGroupsFound (s : Shape) (cells : List Cell) (bounds : List ℕ) (n : ℕ) (groups : List GroupFound) : Type 0 where
  pub counted : length groups ≡ n
  pub each : (g : ℕ) (group : GroupFound) → slice_get groups g ≡ Some group → IsGroupFound s cells bounds g group

-- What is found about all groups, and about all cells. Children are counted up to 2^64 - 1.
pub record AreGroupsCounted (s : Shape) (cells : List Cell) (bounds : List ℕ) (found : ColumnFound) : Type 0 where
  pub stat_is : found.stat ≡ stat (kind_of s) cells
  pub groups_are : AreGroupsFound s cells bounds (length bounds) found.groups.items
  pub below_is : found.below ≡ min most (children s (values cells))
  pub bounds_are : found.bounds_below.items ≡ map (children_before s cells) bounds
