use Rattle.std.proofs.Common.{◌≡◌, ◌++◌, ℕ, false, List, Option, drop}
use Rattle.orc_values.specs.Cells.{Cell}
use Rattle.orc_values.specs.Views.{views}
use Rattle.orc_file_writer.specs.Progress.{progress}
use Rattle.orc_file_writer.specs.Writing.{HasPushed}
use Rattle.orc_theorems.proofs.written_files_calls.push_rows.Given as goal

-- some rows are pushed, and with those that are left they are all
abbrev pub invariant-loop-row : goal.invariant-loop-row
invariant-loop-row g l = record {
  schema : l.writer.schema ≡ l.initial.writer.schema;
  options : l.writer.options ≡ l.initial.writer.options;
  going : l.initial.writer.failed ≡ false → l.writer.failed ≡ false;
  no_failure : g.W.Sink.failures l.writer.out ≡ g.W.Sink.failures l.initial.writer.out;
  pushed : (done : List Cell) × (done ++ views (drop l.row-index l.rows) ≡ views l.rows)
      × ((first : Option (List ℕ)) (before : List Cell) → HasPushed (progress g.W.Sink.told l.initial.writer) first before
      → HasPushed (progress g.W.Sink.told l.writer) first (before ++ done));
}
