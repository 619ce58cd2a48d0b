use Rattle.std.proofs.Common.{◌≡◌, ◌+◌, ◌*◌, ◌^◌, ◌<◌, ◌++◌, take}
use Rattle.orc_bits.specs.Packed.{bits, digits, AllFit}
use Rattle.orc_bits.proofs.packed_digits.pack_plain.Given as goal

abbrev pub invariant-loop-value : goal.invariant-loop-value
invariant-loop-value l = record {
  few : l.have < 8;
  below : l.held < 2 ^ l.have;
  used : 8 * l.at + l.have ≡ l.width * l.value-index;
  small : AllFit 8 (take l.at l.out);
  so_far : digits 8 (take l.at l.out) ++ bits l.held l.have ≡ digits l.width (take l.value-index l.values);
}
