-- What a writer has done so far, taken from its fields (this project's).
use Rattle.std.specs.Prelude.{ℕ, List, Option}
use Rattle.orc_row_batch.specs.Batch.{kept_rows}
use Rattle.orc_io.specs.declared.sink.Sink.{Ghosts}
use Rattle.orc_file_writer.specs.Writing.{Progress}
use Rattle.orc_file_writer.specs.declared.writer.Writer.{Writer}

-- what a writer has done, if `told` gives the known bytes of its output
abbrev pub progress : {W : Type 0} {ghosts : Ghosts W} → (W → Option (List ℕ)) → Writer W ghosts → Progress
progress told w = record {
  options = w.options;
  schema = w.schema;
  told = told w.out;
  written = w.written;
  infos = w.infos.items;
  stats = w.stats.items;
  kept = kept_rows w.schema w.batch;
}
