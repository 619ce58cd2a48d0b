-- The numbers of values that the columns of stripes have (ORC specification, "Column Statistics").
use Rattle.std.specs.Prelude.{◌≡◌, ℕ, ◌-◌, ◌^◌, List, sum_by, min, slice_index_or}
use Rattle.orc_stats.specs.declared.stat.Stat.{Stat}
use Rattle.orc_tail.specs.Statistics.{column_stats}

-- the number of values of a column in all stripes
abbrev pub column_count : ℕ → List (List Stat) → ℕ
column_count c stats = sum_by (λ (s : Stat). s.count) (column_stats c stats)

-- Each number is that of its column's values, or 2^64 - 1 if there are more.
abbrev pub AreCounts : List ℕ → List (List Stat) → Type 0
AreCounts counts stats = (c : ℕ) → slice_index_or counts c 0 ≡ min (column_count c stats) (2 ^ 64 - 1)
