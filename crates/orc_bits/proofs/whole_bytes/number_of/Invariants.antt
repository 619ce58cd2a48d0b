use Rattle.std.proofs.Common.{◌≡◌, ◌*◌, ◌^◌, ◌<◌, take}
use Rattle.orc_bits.specs.Packed.{bits, digits}
use Rattle.orc_bits.proofs.whole_bytes.number_of.Given as goal

abbrev pub invariant-loop-byte : goal.invariant-loop-byte
invariant-loop-byte l = record {
  fits : l.number < 2 ^ (8 * l.byte-index);
  digits : bits l.number (8 * l.byte-index) ≡ digits 8 (take l.byte-index l.bytes);
}
