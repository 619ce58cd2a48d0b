use Rattle.std.proofs.Common.{List, take, ◌++◌}
use Rattle.orc_stats.specs.declared.stat.Stat.{Stat}
use Rattle.orc_merger.specs.Counts.{AreCounts}
use Rattle.orc_merger.proofs.value_counts.add_counts.Given as goal

abbrev pub invariant-loop-stats : goal.invariant-loop-stats
invariant-loop-stats l = (before : List (List Stat)) → AreCounts l.initial.counts.items before → AreCounts l.counts.items (before ++ take l.stats-index l.stripes)
