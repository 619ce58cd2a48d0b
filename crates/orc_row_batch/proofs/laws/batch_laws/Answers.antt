use Rattle.orc_row_batch.proofs.BatchLemmas.{column_said, held_rows}
use Rattle.orc_row_batch.proofs.RowsBack.{rows_again}
use Rattle.orc_row_batch.proofs.laws.batch_laws.Goals as goal

pub returns-clause-rows : goal.returns-clause-rows
returns-clause-rows c = held_rows

pub returns-clause-own : goal.returns-clause-own
returns-clause-own c = column_said

pub returns-clause-columns : goal.returns-clause-columns
returns-clause-columns c = rows_again
