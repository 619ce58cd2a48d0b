use Rattle.std.proofs.Common.{◌≡◌, ◌++◌, drop}
use Rattle.orc_tail.specs.Statistics.{column_stats}
use Rattle.orc_tail.proofs.tail.file_stats.of_column.Given as goal

-- the statistics found, and those of the stripes that are left, are those of all
abbrev pub invariant-loop-stripe : goal.invariant-loop-stripe
invariant-loop-stripe l = l.found.items ++ column_stats l.column (drop l.stripe-index l.stats) ≡ column_stats l.column l.stats
