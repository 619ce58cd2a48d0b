use Rattle.std.proofs.Common.{◌-◌, ◌≡◌, ◌+◌, ◌*◌, ◌^◌, ◌<◌, ◌≤◌, ◌++◌, length, drop}
use Rattle.orc_bits.specs.Packed.{bits, digits}
use Rattle.orc_bits.proofs.packed_digits.Reader.next.Given as goal

abbrev pub invariant-loop-have : goal.invariant-loop-have
invariant-loop-have l = record {
  same : l.self.bytes ≡ l.fn.self.bytes;
  below : l.held < 2 ^ l.have;
  few : l.have < l.width + 8;
  there : l.width ≤ l.have + 8 * (length l.self.bytes.now - l.self.at);
  used : l.fn.self.have + 8 * l.self.at ≡ l.have + 8 * l.fn.self.at;
  rest : bits l.fn.self.held l.fn.self.have ++ digits 8 (drop l.fn.self.at l.fn.self.bytes.now) ≡ bits l.held l.have ++ digits 8 (drop l.self.at l.fn.self.bytes.now);
}

abbrev pub decreases-loop-have : goal.decreases-loop-have
decreases-loop-have l = l.width - l.have
