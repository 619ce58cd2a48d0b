use Rattle.std.proofs.Common.{◌≡◌, ℕ, ◌+◌, ◌-◌, ◌^◌, ◌≤◌, List, length, take, min, slice_index_or}
use Rattle.orc_stats.specs.declared.stat.Stat.{Stat}
use Rattle.orc_merger.specs.Counts.{AreCounts, column_count}
use Rattle.orc_merger.proofs.ValueCounts.{count_at}
use Rattle.orc_merger.proofs.value_counts.add_stripe.Given as goal

abbrev pub invariant-loop-i : goal.invariant-loop-i
invariant-loop-i l = record {
  wide : length l.stats ≤ length l.counts.items;
  counted : (before : List (List Stat)) → AreCounts l.initial.counts.items before
      → (c : ℕ) → slice_index_or l.counts.items c 0 ≡ min (column_count c before + count_at c (take l.i l.stats)) (2 ^ 64 - 1);
}
