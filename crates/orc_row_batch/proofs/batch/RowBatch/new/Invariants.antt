use Rattle.std.proofs.Common.{◌≡◌, length}
use Rattle.orc_row_batch.proofs.BatchLemmas.{AreEmpty}
use Rattle.orc_row_batch.proofs.batch.RowBatch.new.Given as goal

-- so many columns so far, each of no cell
abbrev pub invariant-loop-column : goal.invariant-loop-column
invariant-loop-column l = record {
  many : length l.columns.items ≡ l._column;
  empty : AreEmpty l.columns.items;
}
