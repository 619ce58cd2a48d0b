use Rattle.std.proofs.Common.{◌*◌, take}
use Rattle.orc_bits.specs.Packed.{SpellsPacked}
use Rattle.orc_bits.proofs.whole_bytes.pack_sized.Given as goal

abbrev pub invariant-loop-i : goal.invariant-loop-i
invariant-loop-i l = SpellsPacked (8 * l.size) (take l.i l.values) 8 (take (l.size * l.i) l.out)
