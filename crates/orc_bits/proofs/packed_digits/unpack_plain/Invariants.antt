use Rattle.std.proofs.Common.{◌≡◌, ◌+◌, ◌*◌, ◌++◌, take, drop}
use Rattle.orc_bits.specs.Packed.{bits, digits, AllFit}
use Rattle.orc_bits.proofs.packed_digits.unpack_plain.Given as goal

abbrev pub invariant-loop-place : goal.invariant-loop-place
invariant-loop-place l = record {
  same : l.reader.bytes.now ≡ l.bytes;
  used : 8 * l.reader.at ≡ l.width * l.place-index + l.reader.have;
  fit : AllFit l.width (take l.place-index l.out);
  so_far : digits l.width (take l.place-index l.out) ++ (bits l.reader.held l.reader.have ++ digits 8 (drop l.reader.at l.bytes)) ≡ digits 8 l.bytes;
}
