use Rattle.std.proofs.Common.{ℕ, [], length, ◌-◌}
use Rattle.orc_rle.specs.declared.fault.RunFault.{RunFault}
use Rattle.orc_column_reader.specs.RunsMet.{BytesMeet}
use Rattle.orc_column_reader.specs.Fronts.{Leaves, Precedes}
use Rattle.orc_column_reader.specs.Bytes.{BytesLeft, BytesFirst}
use Rattle.orc_column_reader.proofs.bytes.RunLengthBytes.fill.Given as goal

abbrev pub invariant-loop-self : goal.invariant-loop-self
invariant-loop-self l = Leaves (BytesLeft l.fn.self) (BytesLeft l.self) [] × ((n : ℕ) (f : RunFault) → BytesMeet l.self n f → BytesMeet l.fn.self n f)
    × Precedes (BytesFirst l.fn.self) (BytesFirst l.self) []

abbrev pub decreases-loop-self : goal.decreases-loop-self
decreases-loop-self l = length l.self.bytes.now - l.self.at
