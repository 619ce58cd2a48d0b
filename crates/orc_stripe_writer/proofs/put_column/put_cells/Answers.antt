use Rattle.std.proofs.Common.{subst}
use Rattle.std.proofs.lemmas.Result.{IfOk-weaker}
use Rattle.orc_values.specs.Views.{shape}
use Rattle.orc_stripe_writer.specs.Adding.{AddsStream}
use Rattle.orc_stripe_writer.specs.WrittenStreams.{AreWrittenMarks}
use Rattle.orc_stripe_writer.proofs.AddingLemmas.{adds_column}
use Rattle.orc_stripe_writer.proofs.OwnValues.{own_marks}
use Rattle.orc_stripe_writer.proofs.put_column.put_cells.Goals as goal

pub returns : goal.returns
returns c = λ cs own fit.
    let marks = subst (λ ms. AddsStream (AreWrittenMarks ms) c.args.column 0 c.args.body.now c.put_marks.new.body) (own_marks c.args.owns.now cs own) c.in_ok-put_marks.ensures in
    IfOk-weaker c.put_values.result _ _ (λ e h. adds_column c.args.rle (shape c.args.tree.now) cs c.args.column e c.args.body.now c.put_marks.new.body c.put_values.new.body marks h) (c.put_values.ensures cs own fit)
