use Rattle.std.proofs.Common.{◌++◌, [], refl, ◌∙◌, append_assoc, append-nil, inl, inr, arith, true, false, rules}
use Rattle.std.proofs.lemmas.Result.{err_from_is_err_and}
use Rattle.orc_types.specs.Schemas.{IsSchema}
use Rattle.orc_row_batch.specs.Batch.{kept_rows}
use Rattle.orc_file_writer.proofs.WriterLemmas.{cut_kept, within_of}
use Rattle.orc_tail.specs.declared.fault.FileFault.TheVariants as file
use Rattle.orc_cli_write.specs.Writes.{EndsInLines}
use Rattle.orc_cli_write.specs.Reads.{refusal_of, BeginWith}
use Rattle.orc_cli_output.specs.Output.{IsOfSource}
use Rattle.orc_cli_output.specs.declared.fault.CliFault.TheVariants.{File}
use Rattle.orc_io.proofs.Leaving.{kept_then}
use Rattle.orc_cli_write.proofs.WriteLemmas.{line_want, line_no_source, stands_open}
use Rattle.orc_cli_write.proofs.LinesLemmas.{spells_same, ends_same, some_same}
use Rattle.orc_cli_write.proofs.ReadLemmas.{ReadOf, led_none, led_line, led_all, led_ends, led_begun, source_no_limit, line_of_source, next_want, next_failed, next_kept}
use Rattle.orc_cli_write.proofs.from_reader.push_read.Goals as goal

pub loop-init : goal.loop-init
loop-init g c = record {
  schema = refl;
  options = refl;
  ready = λ r. r;
  read = refl;
  kept = refl;
  pushed = ([], led_none c.args.writer.now.schema (g.L.LineReader.remaining c.args.lines.now), λ first rows h. rw (append-nil rows) h);
}

pub loop-preserved : goal.loop-preserved
loop-preserved g c =
    let s = c.args.writer.now.schema in
    let told = g.L.LineReader.remaining c.args.lines.now in
    let line = c.next_line.new.line.items in
    let inv = c.loop.invariant in
    let p = c.in_ok-push_line.ensures.pushed in
    let read : ReadOf true (g.L.LineReader.remaining c.loop.lines) line (g.L.LineReader.remaining c.next_line.new.self) = rw c.if-not-branch.false at c.in_ok-next_line.ensures.found in
    let spells = spells_same s c.loop.writer.schema line _ p.0 inv.schema c.deref.ensures.value p.1 in
    record {
      schema = c.push_line.ensures.writer.same.0 ∙ inv.schema;
      options = c.push_line.ensures.writer.same.1 ∙ inv.options;
      ready = λ r. c.in_ok-push_line.ensures.writer.ready (inv.ready r);
      read = c.in_ok-next_line.ensures.failures ∙ inv.read;
      kept = c.in_ok-push_line.ensures.writer.out.kept ∙ inv.kept;
      pushed = (
        inv.pushed.0 ++ p.0,
        led_line s told _ _ line inv.pushed.0 p.0 inv.pushed.1 read spells,
        λ first rows h.
            let done = p.2 first (rows ++ inv.pushed.0) (inv.pushed.2 first rows h) in
            rw (← append_assoc rows inv.pushed.0 p.0) done,
      );
    }

pub returns-then-not-branch-clause-pushed : goal.returns-then-not-branch-clause-pushed
returns-then-not-branch-clause-pushed g c =
    let inv = c.loop.invariant in
    let line = c.next_line.new.line.items in
    let read : ReadOf false (g.L.LineReader.remaining c.loop.lines) line (g.L.LineReader.remaining c.next_line.new.self) = rw c.if-not-branch.true at c.in_ok-next_line.ensures.found in
    (inv.pushed.0, led_all c.args.writer.now.schema (g.L.LineReader.remaining c.args.lines.now) (g.L.LineReader.remaining c.loop.lines) (g.L.LineReader.remaining c.next_line.new.self) line inv.pushed.0 inv.pushed.1 read, inv.pushed.2)

pub returns-in_err-next_line-clause-refused : goal.returns-in_err-next_line-clause-refused
returns-in_err-next_line-clause-refused g c = λ ready.
    let p = err_from_is_err_and c.from_residual.result c.from_residual.ensures.1 in
    let s = c.args.writer.now.schema in
    let inv = c.loop.invariant in
    let w = c.loop.writer in
    let fault = refusal_of c.in_err-next_line.field-0.0 in
    let is : IsOfSource fault = line_of_source c.in_err-next_line.field-0.0 in
    let schema : IsSchema w.schema = rw inv.schema (rw c.schema.ensures at c.limit_laws.ensures) in
    rw (p.1, p.2) (
      inv.pushed.0,
      led_begun (λ bytes. EndsInLines s bytes fault inv.pushed.0) s (g.L.LineReader.remaining c.args.lines.now) _ inv.pushed.0 (IsOfSource fault) inv.pushed.1 is,
      λ first rows h.
          let all = rows ++ inv.pushed.0 in
          let now = inv.pushed.2 first rows h in
          let few = now.1 in
          let cut = cut_kept w.options w.schema first _ w.written w.infos.items w.stats.items (kept_rows w.schema w.batch) all (omega (arith, few)) (within_of w.infos.items w.total _ w.stripes w.total_is w.few_rows w.bytes) schema now.0 in
          let out = stands_open w.options w.schema first _ w.written w.infos.items w.stats.items (kept_rows w.schema w.batch) all now in
          ((λ q. source_no_limit fault is q), rw (inv.schema, inv.options) at cut, (λ why q. rw (inv.schema, inv.options) at out), (λ q. rw (inv.schema, inv.options) at out)),
    )

pub returns-in_err-push_line-clause-refused : goal.returns-in_err-push_line-clause-refused
returns-in_err-push_line-clause-refused g c = λ ready.
    let p = err_from_is_err_and c.from_residual-in_err-push_line.result c.from_residual-in_err-push_line.ensures.1 in
    let s = c.args.writer.now.schema in
    let inv = c.loop.invariant in
    let line = c.next_line.new.line.items in
    let fault = c.in_err-push_line.field-0.0 in
    let text = c.deref.ensures.value in
    let e = c.in_err-push_line.ensures.refused (inv.ready ready) in
    let read : ReadOf true (g.L.LineReader.remaining c.loop.lines) line (g.L.LineReader.remaining c.next_line.new.self) = rw c.if-not-branch.false at c.in_ok-next_line.ensures.found in
    let some = some_same line _ text e.1 in
    let ends = ends_same s c.loop.writer.schema line _ fault e.0 inv.schema text e.2 in
    let all = inv.pushed.0 ++ e.0 in
    rw (p.1, p.2) (
      all,
      led_ends (λ bytes. IsOfSource fault × BeginWith s bytes all) s (g.L.LineReader.remaining c.args.lines.now) _ _ line inv.pushed.0 e.0 fault inv.pushed.1 read some ends,
      λ first rows h.
          let stands = e.3 first (rows ++ inv.pushed.0) (inv.pushed.2 first rows h) in
          let said = rw (inv.schema, inv.options) at stands in
          rw (← append_assoc rows inv.pushed.0 e.0) (said.0, said.1, said.2, λ q. line_no_source fault c.in_err-push_line.ensures.layer q),
    )

pub returns-in_err-push_line-clause-writer : goal.returns-in_err-push_line-clause-writer
returns-in_err-push_line-clause-writer g c =
    let p = err_from_is_err_and c.from_residual-in_err-push_line.result c.from_residual-in_err-push_line.ensures.1 in
    record {
      same = search rules;
      ready = search rules;
      out = rw (p.1, p.2) (kept_then c.loop.invariant.kept c.in_err-push_line.ensures.writer.out);
    }

pub returns-clause-refused : goal.returns-clause-refused
returns-clause-refused g c = λ ready.
    let s = c.args.writer.now.schema in
    let inv = c.loop.invariant in
    let w = c.loop.writer in
    let is : IsOfSource (File file.OutOfMemory) = inr (inl refl) in
    let schema : IsSchema w.schema = rw inv.schema (rw c.schema.ensures at c.limit_laws.ensures) in (
      inv.pushed.0,
      led_begun (λ bytes. EndsInLines s bytes (File file.OutOfMemory) inv.pushed.0) s (g.L.LineReader.remaining c.args.lines.now) _ inv.pushed.0 (IsOfSource (File file.OutOfMemory)) inv.pushed.1 is,
      λ first rows h.
          let all = rows ++ inv.pushed.0 in
          let now = inv.pushed.2 first rows h in
          let few = now.1 in
          let cut = cut_kept w.options w.schema first _ w.written w.infos.items w.stats.items (kept_rows w.schema w.batch) all (omega (arith, few)) (within_of w.infos.items w.total _ w.stripes w.total_is w.few_rows w.bytes) schema now.0 in
          let out = stands_open w.options w.schema first _ w.written w.infos.items w.stats.items (kept_rows w.schema w.batch) all now in
          ((λ q. source_no_limit (File file.OutOfMemory) is q), rw (inv.schema, inv.options) at cut, (λ why q. rw (inv.schema, inv.options) at out), (λ q. rw (inv.schema, inv.options) at out)),
    )

pub returns-in_err-next_line-clause-source : goal.returns-in_err-next_line-clause-source
returns-in_err-next_line-clause-source g c =
    let p = err_from_is_err_and c.from_residual.result c.from_residual.ensures.1 in
    rw (p.1, p.2) (λ q. next_failed c.in_err-next_line.field-0.0 _ _ _ c.loop.invariant.read c.in_err-next_line.ensures.failures q)

pub returns-in_err-next_line-clause-unfailed : goal.returns-in_err-next_line-clause-unfailed
returns-in_err-next_line-clause-unfailed g c =
    let p = err_from_is_err_and c.from_residual.result c.from_residual.ensures.1 in
    rw (p.1, p.2) (next_kept c.in_err-next_line.field-0.0 _ _ _ c.loop.invariant.read c.in_err-next_line.ensures.failures)

pub returns-in_err-next_line-clause-layer : goal.returns-in_err-next_line-clause-layer
returns-in_err-next_line-clause-layer g c =
    let p = err_from_is_err_and c.from_residual.result c.from_residual.ensures.1 in
    rw (p.1, p.2) (λ want. next_want c.in_err-next_line.field-0.0 want)

pub returns-in_err-push_line-clause-source : goal.returns-in_err-push_line-clause-source
returns-in_err-push_line-clause-source g c =
    let p = err_from_is_err_and c.from_residual-in_err-push_line.result c.from_residual-in_err-push_line.ensures.1 in
    rw (p.1, p.2) (λ q. line_no_source c.in_err-push_line.field-0.0 c.in_err-push_line.ensures.layer q)

pub returns-in_err-push_line-clause-unfailed : goal.returns-in_err-push_line-clause-unfailed
returns-in_err-push_line-clause-unfailed g c =
    let p = err_from_is_err_and c.from_residual-in_err-push_line.result c.from_residual-in_err-push_line.ensures.1 in
    rw (p.1, p.2) (inr (c.in_ok-next_line.ensures.failures ∙ c.loop.invariant.read))

pub returns-in_err-push_line-clause-layer : goal.returns-in_err-push_line-clause-layer
returns-in_err-push_line-clause-layer g c =
    let p = err_from_is_err_and c.from_residual-in_err-push_line.result c.from_residual-in_err-push_line.ensures.1 in
    rw (p.1, p.2) (λ want. line_want c.in_err-push_line.field-0.0 c.in_err-push_line.ensures.layer want)

pub returns-clause-source : goal.returns-clause-source
returns-clause-source g c = λ q. cc

pub returns-clause-layer : goal.returns-clause-layer
returns-clause-layer g c = λ want. inr refl
