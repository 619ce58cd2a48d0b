use Rattle.std.proofs.Common.{◌≡◌, ◌+◌, ℕ, List, length, sym, ap, ◌∙◌, subst, arith}
use Rattle.orc_values.specs.Shapes.{Shape, width}
use Rattle.orc_values.specs.Views.{shape}
use Rattle.orc_row_batch.specs.Batch.{kept_rows}
use Rattle.orc_stripe_writer.specs.Firsts.{firsts_of}
use Rattle.orc_stripe_writer.specs.Standing.{ColumnStands}
use Rattle.orc_stripe_writer.specs.Subtrees.{HasWritten}
use Rattle.orc_stripe_writer.proofs.LastColumn.{nothing_written}
use Rattle.orc_stripe_writer.proofs.StandingLemmas.{root_stands}
use Rattle.orc_stripe_writer.proofs.writer.all_columns.Goals as goal

pub put_columns-requires-clause-stands : goal.put_columns-requires-clause-stands
put_columns-requires-clause-stands c =
    let s = c.args.schema.now in
    let rows = kept_rows s c.args.batch.now in
    let stride = c.args.options.now.stride in
    let long : c.len.result ≡ length rows = c.len.ensures s rows c.requires.held in
    let bounds : c.deref.result.now ≡ firsts_of stride (length rows) = c.deref.ensures.value ∙ c.in_ok-bounds.ensures ∙ (λ i. firsts_of (c.stride.ensures i) (long i)) in
    subst (λ (bs : List ℕ). ColumnStands s rows stride 0 (shape c.tree.result.now) bs) (sym bounds)
    (subst (λ (t : Shape). ColumnStands s rows stride 0 t (firsts_of stride (length rows))) (sym c.tree.ensures.same) (root_stands s rows stride c.requires.held.fit c.requires.few))

pub put_columns-requires-clause-written : goal.put_columns-requires-clause-written
put_columns-requires-clause-written c =
    let s = c.args.schema.now in
    nothing_written c.args.options.now.rle c.args.options.now.stride s (kept_rows s c.args.batch.now) _ c.new.ensures.bytes c.new.ensures.directory c.new-2.ensures.bytes c.new-2.ensures.directory c.new-3.ensures.items c.new-4.ensures.items

pub returns : goal.returns
returns c =
    let s = c.args.schema.now in
    let e : 0 + width (shape c.tree.result.now) ≡ width s = omega (arith, ap width c.tree.ensures.same) in
    subst (λ (k : ℕ). HasWritten c.args.options.now.rle c.args.options.now.stride s (kept_rows s c.args.batch.now) k c.put_columns.new.out) e c.in_ok-put_columns.ensures
