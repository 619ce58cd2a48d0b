use Rattle.std.proofs.Common.{◌≡◌, ◌++◌, [], ◌∷◌, List, take, true, sym, ap, ◌∙◌, subst}
use Rattle.orc_values.specs.Shapes.{Shape}
use Rattle.orc_values.specs.Cells.{Cell}
use Rattle.orc_values.specs.Fits.{fits}
use Rattle.orc_values.specs.Views.{view, views, shape}
use Rattle.orc_row_batch.specs.Batch.{Holds}
use Rattle.orc_stripe_writer.proofs.RowsKept.{one_more_of, next_fits}
use Rattle.orc_stripe_writer.proofs.writer.batch_of.Goals as goal

pub loop-row-preserved : goal.loop-row-preserved
loop-row-preserved c =
    let s = c.args.schema.now in
    let i = c.loop-row.row-index in
    let xs = c.args.rows.now in
    let x = c.row-item.result in
    let t = shape c.tree.result.now in
    let before = views (take i xs) in
    let held : Holds t before c.loop-row.batch = subst (λ (u : Shape). Holds u before c.loop-row.batch) (sym c.tree.ensures.same) c.loop-row.invariant in
    let fit : fits (view x) t ≡ true = ap (λ u. fits (view x) u) c.tree.ensures.same ∙ next_fits view s xs i x c.loop-row-test.true c.row-item.is c.requires in
    let more : Holds t (before ++ view x ∷ []) c.push.new.self = c.in_ok-push.ensures.rows before held fit in
    subst (λ (rows : List Cell). Holds s rows c.push.new.self) (sym (one_more_of view xs i x c.loop-row-test.true c.row-item.is))
    (subst (λ (u : Shape). Holds u (before ++ view x ∷ []) c.push.new.self) c.tree.ensures.same more)
