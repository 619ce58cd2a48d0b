use Rattle.std.proofs.Common.{◌≡◌, drop}
use Rattle.std.specs.Cmp.Lexicographic.{pointwise}
use Rattle.orc_types.specs.Schemas.{same_node}
use Rattle.orc_types.proofs.schema.equal_lists.Given as goal

-- the types that are left decide
abbrev pub invariant-loop-i : goal.invariant-loop-i
invariant-loop-i l = pointwise same_node (drop l.i l.a) (drop l.i l.b) ≡ pointwise same_node l.a l.b
