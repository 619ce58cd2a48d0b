use Rattle.std.proofs.Common.{List, IfOk, sym, subst}
use Rattle.orc_values.specs.Shapes.{width}
use Rattle.orc_values.specs.Cells.{Cell}
use Rattle.orc_values.specs.Views.{views}
use Rattle.orc_column_reader.specs.Stripe.{IsStripe}
use Rattle.orc_row_batch.specs.Batch.{Holds}
use Rattle.orc_row_batch.proofs.BatchLemmas.{held_rows}
use Rattle.orc_stripe_writer.specs.WrittenStripe.{AreFew, HaveStats, IsWrittenStripe}
use Rattle.orc_stripe_writer.proofs.writer.write_stripe.Goals as goal

pub write_batch-requires-clause-held : goal.write_batch-requires-clause-held
write_batch-requires-clause-held c =
    let s = c.args.schema.now in
    subst (λ (rows : List Cell). Holds s rows c.in_ok-batch.batch) (sym (held_rows s (views c.args.rows.now) c.in_ok-batch.batch c.in_ok-batch.ensures)) c.in_ok-batch.ensures

pub write_batch-requires-clause-few : goal.write_batch-requires-clause-few
write_batch-requires-clause-few c =
    let s = c.args.schema.now in
    subst (λ (rows : List Cell). AreFew s rows) (sym (held_rows s (views c.args.rows.now) c.in_ok-batch.batch c.in_ok-batch.ensures)) c.requires.few

pub returns-clause-stripe : goal.returns-clause-stripe
returns-clause-stripe c =
    let s = c.args.schema.now in
    subst (λ (rows : List Cell). IfOk c.write_batch.result (λ out. IsStripe s out.info out.bytes.items rows)) (held_rows s (views c.args.rows.now) c.in_ok-batch.batch c.in_ok-batch.ensures) c.write_batch.ensures.stripe

pub returns-clause-written : goal.returns-clause-written
returns-clause-written c =
    let s = c.args.schema.now in
    subst (λ (rows : List Cell). IfOk c.write_batch.result (λ out. IsWrittenStripe c.args.options.now.rle c.args.options.now.stride s rows out.info out.bytes.items)) (held_rows s (views c.args.rows.now) c.in_ok-batch.batch c.in_ok-batch.ensures)
    c.write_batch.ensures.written

pub returns-clause-stats : goal.returns-clause-stats
returns-clause-stats c =
    let s = c.args.schema.now in
    subst (λ (rows : List Cell). IfOk c.write_batch.result (λ out. HaveStats s rows (width s) out.stats.items)) (held_rows s (views c.args.rows.now) c.in_ok-batch.batch c.in_ok-batch.ensures) c.write_batch.ensures.stats
