use Rattle.std.proofs.Common.{◌≡◌, ◌<◌, [], length, false, subst, refl, ap, ◌∙◌, inl, inr, arith, rules}
use Rattle.orc_values.specs.Shapes.{Shape}
use Rattle.orc_io.proofs.Leaving.{kept_then, sink_as}
use Rattle.orc_row_batch.specs.Batch.{kept_rows}
use Rattle.orc_tail.specs.declared.fault.FileFault.TheVariants as file
use Rattle.orc_cli_write.specs.Lines.{AreRowsOfLines}
use Rattle.orc_cli_write.specs.Writes.{EndsInLines, LimitStands}
use Rattle.orc_cli_output.specs.declared.fault.CliFault.TheVariants.{File}
use Rattle.orc_cli_output.proofs.OutputLemmas.{file_want, same_file}
use Rattle.orc_cli_write.proofs.LimitLemmas.{rest_passes}
use Rattle.orc_cli_write.proofs.WriteLemmas.{of_begin, of_finish, not_limit, types_want, line_want}
use Rattle.orc_cli_write.proofs.WriteLaws.{only_outside}
use Rattle.orc_cli_write.proofs.write.write_from.Goals as goal

pub returns-in-Err-push_lines-clause-only : goal.returns-in-Err-push_lines-clause-only
returns-in-Err-push_lines-clause-only g c = λ s rows text h.
    let input = c.args.input.now in
    let made = c.in-Ok-new.ensures.made in
    let e = c.in-Err-push_lines.ensures.refused made.2 in
    let ends = subst (λ (x : Shape). EndsInLines x input c.in-Err-push_lines.fault e.0) made.0 e.1 in
    only_outside c.args.schema.now input s c.in-Ok.schema c.in-Err-push_lines.fault e.0 rows text c.in-Ok.ensures.found h ends

pub returns-in-Err-push_lines-clause-refused : goal.returns-in-Err-push_lines-clause-refused
returns-in-Err-push_lines-clause-refused g c =
    let made = c.in-Ok-new.ensures.made in
    let e = c.in-Err-push_lines.ensures.refused made.2 in
    let ends = subst (λ (x : Shape). EndsInLines x c.args.input.now c.in-Err-push_lines.fault e.0) made.0 e.1 in
    let begun = c.in-Ok-new.ensures.pushed in
    let stands = e.2 (g.W.Sink.told c.args.out) [] begun in
    let said = rw (made.0, made.1) at stands in
    rw c.into_out.ensures (inr (c.in-Ok.schema, e.0, c.in-Ok.ensures.found, inl ends, said.0, said.1, said.2))

pub returns-in-Err-finish-clause-refused : goal.returns-in-Err-finish-clause-refused
returns-in-Err-finish-clause-refused g c =
    let s = c.in-Ok.schema in
    let n = c.push_lines.new.writer in
    let made = c.in-Ok-new.ensures.made in
    let same = c.push_lines.ensures.writer.same in
    let schema : n.schema ≡ s = same.0 ∙ made.0 in
    let options : n.options ≡ c.args.options = same.1 ∙ made.1 in
    let p = c.in_default.ensures.pushed in
    let ready : n.failed ≡ false = c.in_default.ensures.writer.ready made.2 in
    let begun = c.in-Ok-new.ensures.pushed in
    let pushed = p.2 (g.W.Sink.told c.args.out) [] begun in
    let e = c.in-Err-finish.ensures in
    let cut = e.cut (g.W.Sink.told c.args.out) p.0 pushed ready in
    let rows = subst (λ (x : Shape). AreRowsOfLines x c.args.input.now p.0) made.0 p.1 in
    let limit : LimitStands c.args.options s (File c.in-Err-finish.fault) p.0 = λ q.
    let why : c.in-Err-finish.fault ≡ file.Limit = cc in
    let some : 0 < length (kept_rows n.schema n.batch) =
    e.begun why in
    let passes = rest_passes n.options n.schema (g.W.Sink.told c.args.out) (g.W.Sink.told n.out)
    n.written n.infos.items n.stats.items (kept_rows n.schema n.batch) p.0 pushed some (e.long why) in
    rw (schema, options) at passes in
    inr (
      s,
      p.0,
      c.in-Ok.ensures.found,
      inr (inr (rows, of_finish c.in-Err-finish.fault (λ q. let t = e.failed q in cc) e.refused)),
      limit,
      rw (schema, options) at cut,
      λ why q. cc,
    )

pub returns-in-Err-new-clause-refused : goal.returns-in-Err-new-clause-refused
returns-in-Err-new-clause-refused g c =
    let why = c.in-Err-new.fault in
    let e = c.in-Err-new.ensures in
    inr (c.in-Ok.schema, [], c.in-Ok.ensures.found, inr (inl (refl, of_begin why e.refused)), (λ q. not_limit why e.refused q), e.cut, λ j q. cc)

pub returns-in-Err-push_lines-clause-out : goal.returns-in-Err-push_lines-clause-out
returns-in-Err-push_lines-clause-out g c = rw c.into_out.ensures (sink_as (λ e. e) (λ e. e) (kept_then c.in-Ok-new.ensures.out.kept c.in-Err-push_lines.ensures.writer.out))

pub returns-in-Err-finish-clause-out : goal.returns-in-Err-finish-clause-out
returns-in-Err-finish-clause-out g c =
    let kept = c.in_default.ensures.writer.out.kept ∙ c.in-Ok-new.ensures.out.kept in
    sink_as (λ e. same_file _ _ e) (λ e. ap File e) (kept_then kept c.in-Err-finish.ensures.out)

pub returns-in-Err-new-clause-out : goal.returns-in-Err-new-clause-out
returns-in-Err-new-clause-out g c = sink_as (λ e. same_file _ _ e) (λ e. ap File e) c.in-Err-new.ensures.out

pub returns-in-Err-clause-layer : goal.returns-in-Err-clause-layer
returns-in-Err-clause-layer g c = λ want. inl (types_want c.in-Err.fault want, refl)

pub returns-in-Err-new-clause-layer : goal.returns-in-Err-new-clause-layer
returns-in-Err-new-clause-layer g c = λ want. inr (inr (ap File (file_want c.in-Err-new.fault want)))

pub returns-in-Err-push_lines-clause-layer : goal.returns-in-Err-push_lines-clause-layer
returns-in-Err-push_lines-clause-layer g c = λ want. inr (line_want c.in-Err-push_lines.fault c.in-Err-push_lines.ensures.layer want)

pub returns-in-Err-finish-clause-layer : goal.returns-in-Err-finish-clause-layer
returns-in-Err-finish-clause-layer g c = λ want. inr (inr (ap File (file_want c.in-Err-finish.fault want)))
