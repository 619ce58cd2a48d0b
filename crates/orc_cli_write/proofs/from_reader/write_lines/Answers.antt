use Rattle.std.proofs.Common.{◌≡◌, ◌<◌, [], length, refl, ap, ◌∙◌, arith, inl, inr, subst, rules}
use Rattle.std.specs.Prelude.{◌⊎◌, IfSome}
use Rattle.orc_values.specs.Shapes.{Shape}
use Rattle.orc_row_batch.specs.Batch.{kept_rows}
use Rattle.orc_io.proofs.Leaving.{kept_then, sink_as}
use Rattle.orc_tail.specs.declared.fault.FileFault.TheVariants as file
use Rattle.orc_cli_write.specs.Lines.{AreRowsOfLines}
use Rattle.orc_cli_write.specs.Writes.{IsOfWriter, EndsInLines, LimitStands}
use Rattle.orc_cli_write.specs.Reads.{BeginWith}
use Rattle.orc_cli_output.specs.Output.{IsOfSource}
use Rattle.orc_cli_output.specs.declared.fault.CliFault.TheVariants.{File}
use Rattle.orc_cli_output.proofs.OutputLemmas.{file_want, same_file}
use Rattle.orc_cli_write.proofs.LimitLemmas.{rest_passes}
use Rattle.orc_cli_write.proofs.WriteLemmas.{of_begin, of_finish, not_limit, finish_no_source, types_want}
use Rattle.orc_cli_write.proofs.ReadLemmas.{only_read, ends_reading, ends_behind_all, ends_before_all, writer_no_source}
use Rattle.orc_cli_write.proofs.from_reader.write_lines.Goals as goal

pub returns-in-Err-push_read-clause-only : goal.returns-in-Err-push_read-clause-only
returns-in-Err-push_read-clause-only g c =
    let told = g.L.LineReader.remaining c.args.lines.now in
    let fault = c.in-Err-push_read.fault in
    let made = c.in-Ok-new.ensures.made in
    let e = c.in-Err-push_read.ensures.refused made.2 in
    let ends = subst (λ (x : Shape). IfSome told (λ bytes. EndsInLines x bytes fault e.0 ⊎ (IsOfSource fault × BeginWith x bytes e.0))) made.0 e.1 in
    only_read told c.args.schema.now c.in-Ok.schema fault e.0 c.in-Ok.ensures.found ends

pub returns-in-Err-push_read-clause-refused : goal.returns-in-Err-push_read-clause-refused
returns-in-Err-push_read-clause-refused g c =
    let told = g.L.LineReader.remaining c.args.lines.now in
    let fault = c.in-Err-push_read.fault in
    let made = c.in-Ok-new.ensures.made in
    let e = c.in-Err-push_read.ensures.refused made.2 in
    let ends = subst (λ (x : Shape). IfSome told (λ bytes. EndsInLines x bytes fault e.0 ⊎ (IsOfSource fault × BeginWith x bytes e.0))) made.0 e.1 in
    let begun = c.in-Ok-new.ensures.pushed in
    let stands = e.2 (g.W.Sink.told c.args.out) [] begun in
    let said = rw (made.0, made.1) at stands in
    rw c.into_out.ensures (inr (c.in-Ok.schema, e.0, c.in-Ok.ensures.found, ends_reading told c.in-Ok.schema fault e.0 ends, said.0, said.1, said.2, said.3))

pub returns-in-Err-finish-clause-refused : goal.returns-in-Err-finish-clause-refused
returns-in-Err-finish-clause-refused g c =
    let told = g.L.LineReader.remaining c.args.lines.now in
    let s = c.in-Ok.schema in
    let n = c.push_read.new.writer in
    let made = c.in-Ok-new.ensures.made in
    let same = c.push_read.ensures.writer.same in
    let schema : n.schema ≡ s = same.0 ∙ made.0 in
    let options : n.options ≡ c.args.options = same.1 ∙ made.1 in
    let p = c.in_default.ensures.pushed in
    let ready = c.in_default.ensures.writer.ready made.2 in
    let begun = c.in-Ok-new.ensures.pushed in
    let pushed = p.2 (g.W.Sink.told c.args.out) [] begun in
    let e = c.in-Err-finish.ensures in
    let cut = e.cut (g.W.Sink.told c.args.out) p.0 pushed ready in
    let rows = subst (λ (x : Shape). IfSome told (λ bytes. AreRowsOfLines x bytes p.0)) made.0 p.1 in
    let limit : LimitStands c.args.options s (File c.in-Err-finish.fault) p.0 = λ q.
    let why : c.in-Err-finish.fault ≡ file.Limit = cc in
    let some : 0 < length (kept_rows n.schema n.batch) =
    e.begun why in
    let passes = rest_passes n.options n.schema (g.W.Sink.told c.args.out) (g.W.Sink.told n.out)
    n.written n.infos.items n.stats.items (kept_rows n.schema n.batch) p.0 pushed some (e.long why) in
    rw (schema, options) at passes in
    let writer : IsOfWriter (File c.in-Err-finish.fault) = of_finish c.in-Err-finish.fault (λ q. let t = e.failed q in cc) e.refused in
    inr (
      s,
      p.0,
      c.in-Ok.ensures.found,
      ends_behind_all told s (File c.in-Err-finish.fault) p.0 rows writer,
      limit,
      rw (schema, options) at cut,
      (λ why q. cc),
      λ q. writer_no_source (File c.in-Err-finish.fault) writer q,
    )

pub returns-in-Err-new-clause-refused : goal.returns-in-Err-new-clause-refused
returns-in-Err-new-clause-refused g c =
    let told = g.L.LineReader.remaining c.args.lines.now in
    let why = c.in-Err-new.fault in
    let e = c.in-Err-new.ensures in
    inr (
      c.in-Ok.schema,
      [],
      c.in-Ok.ensures.found,
      ends_before_all told c.in-Ok.schema (File why) (of_begin why e.refused),
      (λ q. not_limit why e.refused q),
      e.cut,
      (λ j q. cc),
      λ q. writer_no_source (File why) (inr (of_begin why e.refused)) q,
    )

pub returns-in-Err-new-clause-source : goal.returns-in-Err-new-clause-source
returns-in-Err-new-clause-source g c =
    let why = c.in-Err-new.fault in
    λ q. writer_no_source (File why) (inr (of_begin why c.in-Err-new.ensures.refused)) q

pub returns-in-Err-finish-clause-source : goal.returns-in-Err-finish-clause-source
returns-in-Err-finish-clause-source g c = λ q. finish_no_source c.in-Err-finish.fault c.in-Err-finish.ensures.refused q

pub returns-in-Err-push_read-clause-out : goal.returns-in-Err-push_read-clause-out
returns-in-Err-push_read-clause-out g c = rw c.into_out.ensures (sink_as (λ e. e) (λ e. e) (kept_then c.in-Ok-new.ensures.out.kept c.in-Err-push_read.ensures.writer.out))

pub returns-in-Err-finish-clause-out : goal.returns-in-Err-finish-clause-out
returns-in-Err-finish-clause-out g c =
    let kept = c.in_default.ensures.writer.out.kept ∙ c.in-Ok-new.ensures.out.kept in
    sink_as (λ e. same_file _ _ e) (λ e. ap File e) (kept_then kept c.in-Err-finish.ensures.out)

pub returns-in-Err-new-clause-out : goal.returns-in-Err-new-clause-out
returns-in-Err-new-clause-out g c = sink_as (λ e. same_file _ _ e) (λ e. ap File e) c.in-Err-new.ensures.out

pub returns-in-Err-clause-layer : goal.returns-in-Err-clause-layer
returns-in-Err-clause-layer g c = λ want. inl (types_want c.in-Err.fault want, refl)

pub returns-in-Err-new-clause-layer : goal.returns-in-Err-new-clause-layer
returns-in-Err-new-clause-layer g c = λ want. inr (inr (ap File (file_want c.in-Err-new.fault want)))

pub returns-in-Err-push_read-clause-layer : goal.returns-in-Err-push_read-clause-layer
returns-in-Err-push_read-clause-layer g c = λ want. inr (c.in-Err-push_read.ensures.layer want)

pub returns-in-Err-finish-clause-layer : goal.returns-in-Err-finish-clause-layer
returns-in-Err-finish-clause-layer g c = λ want. inr (inr (ap File (file_want c.in-Err-finish.fault want)))
