use Rattle.std.proofs.Common.{◌-◌}
use Rattle.orc_rle.specs.ByteRun.{IsByteRun}
use Rattle.orc_group_reader.proofs.RunStarts.{Walked}
use Rattle.orc_group_reader.proofs.run_starts.last_byte_start.Given as goal

abbrev pub invariant-runs : goal.invariant-runs
invariant-runs l = Walked IsByteRun l.bytes l.offset l.start l.next l.end

abbrev pub decreases-runs : goal.decreases-runs
decreases-runs l = l.end - l.next
