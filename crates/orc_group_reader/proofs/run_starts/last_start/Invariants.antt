use Rattle.std.proofs.Common.{◌-◌}
use Rattle.orc_column_reader.specs.Numbers.{is_run}
use Rattle.orc_group_reader.proofs.RunStarts.{Walked}
use Rattle.orc_group_reader.proofs.run_starts.last_start.Given as goal

abbrev pub invariant-runs : goal.invariant-runs
invariant-runs l = Walked (is_run l.version l.sign) l.bytes l.offset l.start l.next l.end

abbrev pub decreases-runs : goal.decreases-runs
decreases-runs l = l.end - l.next
