use Rattle.std.proofs.Common.{◌≡◌, ℕ, ◌+◌, ◌++◌, List, [], take, drop, refl, ap, ◌∙◌, append_assoc, append-nil, arith, rules}
use Rattle.std.proofs.lemmas.Result.{err_from_is_err_and}
use Rattle.orc_io.proofs.Leaving.{kept_then}
use Rattle.orc_cli_write.proofs.LinesLemmas.{leads_none, leads_both, leads_ended, leads_rest, all_led, ends_behind, spells_same, ends_same, some_same}
use Rattle.orc_cli_write.proofs.write.push_lines.Goals as goal

pub loop-at-init : goal.loop-at-init
loop-at-init g c = record {
  within = omega arith;
  schema = refl;
  options = refl;
  ready = λ r. r;
  kept = refl;
  pushed = ([], leads_none c.args.writer.now.schema c.args.input.now, λ first rows h. rw (append-nil rows) h);
}

pub loop-at-preserved-then-at-input : goal.loop-at-preserved-then-at-input
loop-at-preserved-then-at-input g c =
    let s = c.args.writer.now.schema in
    let input = c.args.input.now in
    let place = c.loop-at.at in
    let len = c.line_length-len.result in
    let inv = c.loop-at.invariant in
    let back = c.split_at.ensures.back in
    let is = rw back at c.line_length-len.ensures.line in
    let end = rw back at c.line_length-len.ensures.end in
    let text : c.split_at-in-loop-at.result.0.now ≡ take len (drop place input) = c.split_at-in-loop-at.ensures.front ∙ ap (λ (l : List ℕ). take len l) back in
    let p = c.in_ok-push_line.ensures.pushed in
    let spells = spells_same s c.loop-at.writer.schema (take len (drop place input)) _ p.0 inv.schema text p.1 in
    record {
      within = omega (arith, c.if-at-input.true);
      schema = c.push_line.ensures.writer.same.0 ∙ inv.schema;
      options = c.push_line.ensures.writer.same.1 ∙ inv.options;
      ready = λ r. c.in_ok-push_line.ensures.writer.ready (inv.ready r);
      kept = c.in_ok-push_line.ensures.writer.out.kept ∙ inv.kept;
      pushed = (
        inv.pushed.0 ++ p.0,
        leads_both s input (drop place input) (drop (place + len + 1) input) inv.pushed.0 p.0 inv.pushed.1 (leads_ended s input place len p.0 c.if-at-input.true end is spells),
        λ first rows h.
            let done = p.2 first (rows ++ inv.pushed.0) (inv.pushed.2 first rows h) in
            rw (← append_assoc rows inv.pushed.0 p.0) done,
      );
    }

pub loop-at-preserved : goal.loop-at-preserved
loop-at-preserved g c =
    let s = c.args.writer.now.schema in
    let input = c.args.input.now in
    let place = c.loop-at.at in
    let len = c.line_length-len.result in
    let inv = c.loop-at.invariant in
    let back = c.split_at.ensures.back in
    let is = rw back at c.line_length-len.ensures.line in
    let end = rw back at c.line_length-len.ensures.end in
    let text : c.split_at-in-loop-at.result.0.now ≡ take len (drop place input) = c.split_at-in-loop-at.ensures.front ∙ ap (λ (l : List ℕ). take len l) back in
    let p = c.in_ok-push_line.ensures.pushed in
    let spells = spells_same s c.loop-at.writer.schema (take len (drop place input)) _ p.0 inv.schema text p.1 in
    record {
      within = omega (arith, c.line_length-len.ensures.bound, c.split_at.ensures.back_len);
      schema = c.push_line.ensures.writer.same.0 ∙ inv.schema;
      options = c.push_line.ensures.writer.same.1 ∙ inv.options;
      ready = λ r. c.in_ok-push_line.ensures.writer.ready (inv.ready r);
      kept = c.in_ok-push_line.ensures.writer.out.kept ∙ inv.kept;
      pushed = (
        inv.pushed.0 ++ p.0,
        leads_both s input (drop place input) (drop (place + len) input) inv.pushed.0 p.0 inv.pushed.1 (leads_rest s input place len p.0 c.if-at-input.false is spells),
        λ first rows h.
            let done = p.2 first (rows ++ inv.pushed.0) (inv.pushed.2 first rows h) in
            rw (← append_assoc rows inv.pushed.0 p.0) done,
      );
    }

pub returns-clause-pushed : goal.returns-clause-pushed
returns-clause-pushed g c =
    let inv = c.loop-at.invariant in
    (inv.pushed.0, all_led c.args.writer.now.schema c.args.input.now c.loop-at.at inv.pushed.0 c.loop-at-test.false inv.pushed.1, inv.pushed.2)

pub returns-in_err-push_line-clause-refused : goal.returns-in_err-push_line-clause-refused
returns-in_err-push_line-clause-refused g c = λ ready.
    let s = c.args.writer.now.schema in
    let input = c.args.input.now in
    let place = c.loop-at.at in
    let len = c.line_length-len.result in
    let inv = c.loop-at.invariant in
    let back = c.split_at.ensures.back in
    let is = rw back at c.line_length-len.ensures.line in
    let end = rw back at c.line_length-len.ensures.end in
    let text : c.split_at-in-loop-at.result.0.now ≡ take len (drop place input) = c.split_at-in-loop-at.ensures.front ∙ ap (λ (l : List ℕ). take len l) back in
    let p = err_from_is_err_and c.from_residual.result c.from_residual.ensures.1 in
    let e = c.in_err-push_line.ensures.refused (inv.ready ready) in
    let some = some_same (take len (drop place input)) _ text e.1 in
    let ends = ends_same s c.loop-at.writer.schema (take len (drop place input)) _ c.in_err-push_line.field-0.0 e.0 inv.schema text e.2 in
    rw (p.1, p.2) (
      inv.pushed.0 ++ e.0,
      ends_behind s input (drop place input) len inv.pushed.0 e.0 c.in_err-push_line.field-0.0 inv.pushed.1 is end some ends,
      λ first rows h.
          let stands = e.3 first (rows ++ inv.pushed.0) (inv.pushed.2 first rows h) in
          rw (← append_assoc rows inv.pushed.0 e.0) (rw (inv.schema, inv.options) at stands),
    )

pub returns-in_err-push_line-clause-writer : goal.returns-in_err-push_line-clause-writer
returns-in_err-push_line-clause-writer g c =
    let p = err_from_is_err_and c.from_residual.result c.from_residual.ensures.1 in
    record {
      same = search rules;
      ready = search rules;
      out = rw (p.1, p.2) (kept_then c.loop-at.invariant.kept c.in_err-push_line.ensures.writer.out);
    }

pub returns-in_err-push_line-clause-layer : goal.returns-in_err-push_line-clause-layer
returns-in_err-push_line-clause-layer g c =
    let p = err_from_is_err_and c.from_residual.result c.from_residual.ensures.1 in
    rw (p.1, p.2) c.in_err-push_line.ensures.layer
