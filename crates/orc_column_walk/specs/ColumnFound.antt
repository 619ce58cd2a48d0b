-- What is found about a column's cells: its statistic, that of each group, and what comes before each group (ORC
-- specification, "Column Statistics" and "Row Group Index").
use Rattle.std.specs.Prelude.{◌≡◌, ℕ, Some, List, map, length, slice_get}
use Rattle.orc_values.specs.Cells.{Cell, values}
use Rattle.orc_values.specs.Shapes.{Shape, scalar, list_of, map_of, struct_of}
use Rattle.orc_stats.specs.Kinds.{kind_of}
use Rattle.orc_stats.specs.Statistics.{stat}
use Rattle.orc_row_groups.specs.Bounds.{before_group, group_of, elements_before, pairs_before, values_before}
use Rattle.orc_row_groups.specs.Counts.{AreCounted}
use Rattle.orc_column_walk.specs.OwnLeft.{children}
use Rattle.orc_column_walk.specs.declared.found.ColumnFound.{ColumnFound}
use Rattle.orc_column_walk.specs.declared.found.GroupFound.{GroupFound}

-- the bounds of the same groups in the columns right below; 0 if there is none
abbrev pub bounds_below : Shape → List Cell → List ℕ → List ℕ
bounds_below (scalar k o) cells bounds = map (λ b. 0) bounds
bounds_below (list_of s o) cells bounds = map (elements_before cells) bounds
bounds_below (map_of k v o) cells bounds = map (pairs_before cells) bounds
bounds_below (struct_of fs o) cells bounds = map (values_before cells) bounds

-- what is found about a group: the statistic of its cells, and the counts of the cells before it
pub record IsGroupFound (s : Shape) (cells : List Cell) (bounds : List ℕ) (g : ℕ) (found : GroupFound) : Type 0 where
  pub stat_is : found.stat ≡ stat (kind_of s) (group_of cells bounds g)
  pub before : AreCounted found.before (before_group cells bounds g)

-- What is found about a column with these cells and bounds of groups: the statistic, what is found about each group,
-- how many cells each column right below has, and how many of these come before each group.
pub record IsColumnFound (s : Shape) (cells : List Cell) (bounds : List ℕ) (found : ColumnFound) : Type 0 where
  pub stat_is : found.stat ≡ stat (kind_of s) cells
  pub counted : length found.groups.items ≡ length bounds
  pub groups_are : (g : ℕ) (group : GroupFound)
      → slice_get found.groups.items g ≡ Some group → IsGroupFound s cells bounds g group
  pub below_is : found.below ≡ children s (values cells)
  pub bounds_are : found.bounds_below.items ≡ bounds_below s cells bounds
