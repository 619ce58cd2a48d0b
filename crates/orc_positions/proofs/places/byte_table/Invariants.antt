use Rattle.std.proofs.Common.{◌-◌, length}
use Rattle.orc_rle.specs.ByteRun.{IsByteRun}
use Rattle.orc_positions.proofs.WalkLemmas.{Walked}
use Rattle.orc_positions.proofs.places.byte_table.Given as goal

abbrev pub invariant-loop-at : goal.invariant-loop-at
invariant-loop-at l = Walked IsByteRun l.bytes l.at l.before l.offsets.items l.counts.items

abbrev pub decreases-loop-at : goal.decreases-loop-at
decreases-loop-at l = length l.bytes - l.at
