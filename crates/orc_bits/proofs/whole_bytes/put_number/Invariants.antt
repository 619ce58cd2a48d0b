use Rattle.std.proofs.Common.{◌≡◌, ◌+◌, ◌*◌, ◌/◌, ◌^◌, take, length}
use Rattle.orc_bits.specs.Packed.{bits, digits, AllFit}
use Rattle.orc_bits.proofs.whole_bytes.put_number.Given as goal

abbrev pub invariant-loop-place : goal.invariant-loop-place
invariant-loop-place l = record {
  left : l.left + 8 * l.place-index ≡ 8 * length l.out;
  small : AllFit 8 (take l.place-index l.out);
  so_far : digits 8 (take l.place-index l.out) ≡ bits (l.number / 2 ^ l.left) (8 * l.place-index);
}
