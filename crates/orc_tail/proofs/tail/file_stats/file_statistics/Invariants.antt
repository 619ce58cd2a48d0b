use Rattle.std.proofs.Common.{◌≡◌, ℕ, ◌+◌, ◌^◌, ◌<◌, ◌≤◌, ◌++◌}
use Rattle.std.specs.Prelude.{sum_by}
use Rattle.orc_values.specs.Shapes.{width}
use Rattle.orc_stats.specs.declared.stat.Stat.{Stat}
use Rattle.orc_stats.specs.Joining.{joined}
use Rattle.orc_tail.specs.Statistics.{kind_at, of_columns, column_stats, file_stats}
use Rattle.orc_tail.proofs.tail.file_stats.file_statistics.Given as goal

-- those found, and those of the columns that are left, are those of all; and the columns so far have few values
abbrev pub invariant-loop-column : goal.invariant-loop-column
invariant-loop-column l = record {
  found : (rest : ℕ) → l.column + rest ≡ width l.schema → l.found.items ++ of_columns (λ c. joined (kind_at l.schema c) (column_stats c l.stats)) l.column rest ≡ file_stats l.schema l.stats;
  few : (c : ℕ) → c < l.column → sum_by (λ (s : Stat). s.count) (column_stats c l.stats) ≤ 2 ^ 62;
}
