use Rattle.std.proofs.Common.{take}
use Rattle.orc_values.specs.Views.{views}
use Rattle.orc_row_batch.specs.Batch.{Holds}
use Rattle.orc_stripe_writer.proofs.writer.batch_of.Given as goal

abbrev pub invariant-loop-row : goal.invariant-loop-row
invariant-loop-row l = Holds l.schema (views (take l.row-index l.rows)) l.batch
