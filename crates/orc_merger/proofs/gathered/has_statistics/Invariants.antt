use Rattle.std.proofs.Common.{◌≡◌, List, length, drop}
use Rattle.std.specs.List.{AllByRecursion}
use Rattle.orc_stats.specs.declared.stat.Stat.{Stat}
use Rattle.orc_merger.proofs.gathered.has_statistics.Given as goal

-- those that are left decide
abbrev pub invariant-loop-stripe : goal.invariant-loop-stripe
invariant-loop-stripe l = record {
  to_all : AllByRecursion (λ (xs : List Stat). length xs ≡ l.columns) (drop l.stripe-index l.stats) → AllByRecursion (λ (xs : List Stat). length xs ≡ l.columns) l.stats;
  of_all : AllByRecursion (λ (xs : List Stat). length xs ≡ l.columns) l.stats → AllByRecursion (λ (xs : List Stat). length xs ≡ l.columns) (drop l.stripe-index l.stats);
}
