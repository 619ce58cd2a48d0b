-- The limits on what inputs have together (this project's).
use Rattle.std.specs.Prelude.{ℕ, ◌+◌, ◌^◌, ◌≤◌, List, length, sum_by}
use Rattle.orc_stats.specs.declared.stat.Stat.{Stat}
use Rattle.orc_tail.specs.Stripes.{stripes_length, most_stripes, most_rows, most_bytes}
use Rattle.orc_tail.specs.declared.tail.Tail.{Tail}
use Rattle.orc_merger.specs.Merging.{all_stripes, all_stats}
use Rattle.orc_merger.specs.Counts.{column_count}

-- the number of stripes, the offset at which they end, the number of rows, and the numbers of values in the columns
-- are within the limits
pub record AreFewTogether (stripes end rows : ℕ) (stats : List (List Stat)) : Type 0 where
  pub stripes_few : stripes ≤ most_stripes
  pub bytes_few : end ≤ 3 + most_bytes
  pub rows_few : rows ≤ most_rows
  pub values_few : (c : ℕ) → column_count c stats ≤ 2 ^ 62

-- the stripes, bytes, rows and values of inputs with these tails, together, are within the limits
abbrev pub AreFewInAll : List Tail → Type 0
AreFewInAll tails =
    AreFewTogether (length (all_stripes tails)) (3 + stripes_length (all_stripes tails))
    (sum_by (λ (t : Tail). t.rows) tails) (all_stats tails)
