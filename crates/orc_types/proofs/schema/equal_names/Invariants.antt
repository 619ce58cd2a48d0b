use Rattle.std.proofs.Common.{◌≡◌, ◌==◌, drop}
use Rattle.std.specs.Cmp.Lexicographic.{pointwise}
use Rattle.orc_types.proofs.schema.equal_names.Given as goal

-- the names that are left decide
abbrev pub invariant-loop-i : goal.invariant-loop-i
invariant-loop-i l = pointwise (pointwise ◌==◌) (drop l.i l.a) (drop l.i l.b) ≡ pointwise (pointwise ◌==◌) l.a l.b
