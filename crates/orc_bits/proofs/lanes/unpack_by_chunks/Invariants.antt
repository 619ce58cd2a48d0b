use Rattle.std.proofs.Common.{◌*◌, take}
use Rattle.orc_bits.specs.Packed.{SpellsPacked}
use Rattle.orc_bits.proofs.lanes.unpack_by_chunks.Given as goal

abbrev pub invariant-loop-i : goal.invariant-loop-i
invariant-loop-i l = SpellsPacked 8 (take (8 * l.i) l.bytes) l.width (take (l.count * l.i) l.out)
