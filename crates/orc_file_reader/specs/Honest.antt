-- Statistics that are those of the rows (ORC specification, "Column Statistics"; how exact they must be is this
-- project's choice).
use Rattle.std.specs.Prelude.{◌≡◌, ℕ, ◌<◌, Bool, Option, Some, List, length, map, slice_get}
use Rattle.std.specs.List.{list_all, AllZip}
use Rattle.orc_values.specs.Cells.{Cell}
use Rattle.orc_values.specs.Shapes.{Shape, width}
use Rattle.orc_values.specs.Columns.{cells}
use Rattle.orc_stats.specs.declared.stat.Stat.{Stat}
use Rattle.orc_stats.specs.Statistics.{stat}
use Rattle.orc_stats.specs.Whole.{keeps_sum, without_sum, whole}
use Rattle.orc_stats.specs.Known.{Agrees, Part, parts_of, known_whole}
use Rattle.orc_stats.specs.ColumnStatistics.{column_stat}
use Rattle.orc_tail.specs.Statistics.{kind_at}
use Rattle.orc_file_reader.specs.FileRows.{cut_rows}
use Rattle.orc_tail.specs.declared.tail.Tail.{Tail}

-- one statistic for each of the first n columns, which agrees with the statistic of the column's cells in the rows
pub record AgreeStats (s : Shape) (rows : List Cell) (n : ℕ) (stats : List Stat) : Type 0 where
  pub counted : length stats ≡ n
  pub each : (c : ℕ) → c < n → (x : Stat) × (slice_get stats c ≡ Some x) × Agrees x (column_stat s rows c)

-- for each stripe one statistic for each column, which agrees with the statistic of the column's cells in the stripe's
-- rows
abbrev pub AreHonest : Shape → List (List Cell) → List (List Stat) → Type 0
AreHonest s = AllZip (λ (rows : List Cell) (stats : List Stat). AgreeStats s rows (width s) stats)

-- A tail's statistics of stripes are those of the rows: no statistic is missing, and no part of one is unknown that the
-- rows have, except element counts of lists and maps.
abbrev pub Honest : Tail → List Cell → Type 0
Honest tail rows = AreHonest tail.schema (cut_rows tail.stripes rows) tail.stripe_stats

-- a column's statistic of all stripes' rows; its sum is unknown if that of some stripe overflows
abbrev pub whole_of : Shape → List (List Cell) → ℕ → Stat
whole_of s parts column = whole (kind_at s column) (map (cells s column) parts)

-- whether the sum of a column overflows in no stripe
abbrev pub each_sum_fits : Shape → List (List Cell) → ℕ → Bool
each_sum_fits s parts column = list_all (λ rows. keeps_sum (stat (kind_at s column) (cells s column rows))) parts

-- a statistic with its sum made unknown
abbrev pub less_sum : Stat → Stat
less_sum all = record all { body = without_sum all.body }

-- the statistic of a column that each stripe has, if any
abbrev pub told_at : List (List Stat) → ℕ → List (Option Stat)
told_at stats column = map (λ (xs : List Stat). slice_get xs column) stats

-- a column's parts, one for each stripe: its cells in the stripe's rows, with the statistic that the stripe has of it
abbrev pub column_parts : Shape → List (List Stat) → List (List Cell) → ℕ → List Part
column_parts s told parts column = parts_of (told_at told column) (map (cells s column) parts)

-- a column's statistic of all stripes' rows, as `whole_of`, but an element count is known only if each stripe with a
-- value has it
abbrev pub known_whole_of : Shape → List (List Stat) → List (List Cell) → ℕ → Stat
known_whole_of s told parts column = known_whole (kind_at s column) (column_parts s told parts column)

-- these are the columns' statistics of all stripes' rows, one for each column
pub record AreWhole (s : Shape) (told : List (List Stat)) (parts : List (List Cell)) (stats : List Stat) : Type 0 where
  pub counted : length stats ≡ width s
  pub each : (column : ℕ) → column < width s → slice_get stats column ≡ Some (known_whole_of s told parts column)

-- a tail's statistics of the file are those of all rows, as far as those of its stripes are known
abbrev pub HasWholeStats : Tail → List Cell → Type 0
HasWholeStats tail rows = AreWhole tail.schema tail.stripe_stats (cut_rows tail.stripes rows) tail.file_stats
