use Rattle.orc_row_batch.proofs.BatchLemmas.{AreEmptyBelow}
use Rattle.orc_row_batch.proofs.batch.RowBatch.clear.Given as goal

-- the columns so far keep nothing
abbrev pub invariant-loop-column : goal.invariant-loop-column
invariant-loop-column l = AreEmptyBelow l.column-index l.column-items
