use Rattle.std.proofs.Common.{◌≡◌, drop}
use Rattle.orc_tail.specs.Statistics.{have_few}
use Rattle.orc_tail.proofs.tail.metadata.have_few_stats.Given as goal

-- those that are left decide
abbrev pub invariant-loop-one : goal.invariant-loop-one
invariant-loop-one l = have_few l.columns (drop l.one-index l.stats) ≡ have_few l.columns l.stats
