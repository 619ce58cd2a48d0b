use Rattle.std.proofs.Common.{◌≤◌, ◌+◌, ◌-◌, length}
use Rattle.orc_rle.specs.ByteRun.{IsByteRun}
use Rattle.orc_positions.specs.RunStarts.{IsRunStart}
use Rattle.orc_positions.proofs.run_start.byte_run_start_at.Given as goal

abbrev pub invariant-runs : goal.invariant-runs
invariant-runs l = record {
  run_start : IsRunStart IsByteRun l.bytes l.run_start;
  ahead : l.run_start.before ≤ l.n;
}

abbrev pub decreases-runs : goal.decreases-runs
decreases-runs l = length l.bytes - (l.run_start.offset + l.run_start.len)
