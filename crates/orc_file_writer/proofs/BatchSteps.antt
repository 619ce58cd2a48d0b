-- What the writer's steps do to the batch that keeps its rows.
use Rattle.std.specs.Prelude.{List}
use Rattle.orc_values.specs.Shapes.{Shape}
use Rattle.orc_values.specs.Cells.{Cell}
use Rattle.orc_row_batch.specs.Batch.{Holds, kept_rows}
use Rattle.orc_row_batch.specs.declared.batch.RowBatch.{RowBatch}
use Rattle.orc_row_batch.proofs.BatchLemmas.{held_rows}

-- the rows that a batch holds are those that it has
pub held_again : (s : Shape) (rows : List Cell) (batch : RowBatch) → Holds s rows batch → Holds s (kept_rows s batch) batch
held_again s rows batch h = rw (held_rows s rows batch h) h
