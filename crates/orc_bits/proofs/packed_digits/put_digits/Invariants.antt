use Rattle.std.proofs.Common.{◌≡◌, ◌+◌, ◌*◌, ◌^◌, ◌<◌, ◌≤◌, ◌++◌, length, take}
use Rattle.orc_bits.specs.Packed.{bits, digits, AllFit}
use Rattle.orc_bits.proofs.packed_digits.put_digits.Given as goal

abbrev pub invariant-loop-left : goal.invariant-loop-left
invariant-loop-left l = record {
  few : l.left < 72;
  below : l.rest < 2 ^ l.left;
  room : 8 * l.at + l.left ≤ 8 * length l.out;
  used : 8 * l.at + l.left ≡ 8 * l.fn.at + l.have + l.width;
  small : AllFit 8 (take l.fn.at l.fn.out) → AllFit 8 (take l.at l.out);
  so_far : digits 8 (take l.at l.out) ++ bits l.rest l.left ≡ (digits 8 (take l.fn.at l.fn.out) ++ bits l.held l.have) ++ bits l.number l.width;
}

abbrev pub decreases-loop-left : goal.decreases-loop-left
decreases-loop-left l = l.left
