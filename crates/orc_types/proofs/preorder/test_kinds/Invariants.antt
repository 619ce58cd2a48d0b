use Rattle.std.proofs.Common.{take}
use Rattle.std.specs.List.{AllByRecursion}
use Rattle.orc_values.specs.Kinds.{IsKind}
use Rattle.orc_types.proofs.preorder.test_kinds.Given as goal

abbrev pub invariant-loop-t : goal.invariant-loop-t
invariant-loop-t l = AllByRecursion (λ t. IsKind t.kind) (take l.t-index l.types)
