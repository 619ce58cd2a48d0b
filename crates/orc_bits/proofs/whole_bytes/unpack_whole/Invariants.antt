use Rattle.std.proofs.Common.{◌≡◌, ◌*◌, take}
use Rattle.orc_bits.specs.Packed.{digits, AllFit}
use Rattle.orc_bits.proofs.whole_bytes.unpack_whole.Given as goal

abbrev pub invariant-loop-i : goal.invariant-loop-i
invariant-loop-i l = record {
  fit : AllFit (8 * l.size) (take l.i l.out);
  so_far : digits (8 * l.size) (take l.i l.out) ≡ digits 8 (take (l.size * l.i) l.bytes);
}
