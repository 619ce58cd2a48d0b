use Rattle.std.proofs.Common.{◌≡◌, List, false}
use Rattle.orc_values.specs.Cells.{Cell}
use Rattle.orc_file_writer.specs.Progress.{progress}
use Rattle.orc_cli_write.specs.Writes.{PushesAlso}
use Rattle.orc_cli_write.proofs.ReadLemmas.{HasLed}
use Rattle.orc_cli_write.proofs.from_reader.push_read.Given as goal

-- the rows of the lines that were read are pushed
abbrev pub invariant-loop : goal.invariant-loop
invariant-loop g l = record {
  schema : l.writer.schema ≡ l.initial.writer.schema;
  options : l.writer.options ≡ l.initial.writer.options;
  ready : l.initial.writer.failed ≡ false → l.writer.failed ≡ false;
  read : g.L.LineReader.failures l.lines ≡ g.L.LineReader.failures l.initial.lines;
  kept : g.W.Sink.failures l.writer.out ≡ g.W.Sink.failures l.initial.writer.out;
  pushed : (own : List Cell)
      × HasLed l.initial.writer.schema (g.L.LineReader.remaining l.initial.lines) (g.L.LineReader.remaining l.lines) own
      × PushesAlso (progress g.W.Sink.told l.initial.writer) (progress g.W.Sink.told l.writer) own;
}
