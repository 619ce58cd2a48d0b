use Rattle.std.proofs.Common.{◌≡◌, ◌≤◌, ◌-◌, List, length, drop, false}
use Rattle.orc_values.specs.Cells.{Cell}
use Rattle.orc_file_writer.specs.Progress.{progress}
use Rattle.orc_cli_write.specs.Writes.{PushesAlso}
use Rattle.orc_cli_write.proofs.LinesLemmas.{Leads}
use Rattle.orc_cli_write.proofs.write.push_lines.Given as goal

-- the rows of the lines before this place are pushed
abbrev pub invariant-loop-at : goal.invariant-loop-at
invariant-loop-at g l = record {
  within : l.at ≤ length l.input;
  schema : l.writer.schema ≡ l.initial.writer.schema;
  options : l.writer.options ≡ l.initial.writer.options;
  ready : l.initial.writer.failed ≡ false → l.writer.failed ≡ false;
  kept : g.W.Sink.failures l.writer.out ≡ g.W.Sink.failures l.initial.writer.out;
  pushed : (own : List Cell)
      × Leads l.initial.writer.schema l.input (drop l.at l.input) own
      × PushesAlso (progress g.W.Sink.told l.initial.writer) (progress g.W.Sink.told l.writer) own;
}

abbrev pub decreases-loop-at : goal.decreases-loop-at
decreases-loop-at g l = length l.input - l.at
