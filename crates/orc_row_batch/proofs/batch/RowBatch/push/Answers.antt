use Rattle.orc_values.specs.Views.{view, shape}
use Rattle.orc_row_batch.proofs.BatchLemmas.{one_more}
use Rattle.orc_row_batch.proofs.batch.RowBatch.push.Goals as goal

pub returns-clause-rows : goal.returns-clause-rows
returns-clause-rows c rows held fit =
    one_more (shape c.args.tree.now) rows (view c.args.row.now) c.args.self.now _ held fit c.keep_cell.ensures.wide c.in_ok-keep_cell.ensures.kept
