use Rattle.std.proofs.Common.{drop}
use Rattle.orc_trees.proofs.TextFronts.{KindsLeft}
use Rattle.orc_trees.proofs.schema_text.kind_from.Given as goal

abbrev pub invariant-loop-kind : goal.invariant-loop-kind
invariant-loop-kind l = KindsLeft l.text (drop l.kind-index l.kind-items)
