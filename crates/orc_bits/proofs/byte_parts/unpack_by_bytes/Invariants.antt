use Rattle.std.proofs.Common.{◌*◌, take}
use Rattle.orc_bits.specs.Packed.{SpellsPacked}
use Rattle.orc_bits.proofs.byte_parts.unpack_by_bytes.Given as goal

abbrev pub invariant-loop-i : goal.invariant-loop-i
invariant-loop-i l = SpellsPacked 8 (take l.i l.bytes) l.width (take (l.count * l.i) l.out)
