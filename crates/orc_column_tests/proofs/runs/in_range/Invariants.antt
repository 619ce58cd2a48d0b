use Rattle.std.proofs.Common.{take}
use Rattle.orc_rle.specs.Values.{AllInRange}
use Rattle.orc_column_tests.proofs.runs.in_range.Given as goal

abbrev pub invariant-loop-value : goal.invariant-loop-value
invariant-loop-value l = AllInRange l.sign (take l.value-index l.values)
