use Rattle.std.proofs.Common.{◌≡◌, take}
use Rattle.orc_types.proofs.copies.copy_types.Given as goal

abbrev pub invariant-loop-t : goal.invariant-loop-t
invariant-loop-t l = l.copies.items ≡ take l.t-index l.types
