use Rattle.std.proofs.Common.{◌≢◌, sym, subst}
use Rattle.std.proofs.lemmas.Result.{err_from_is_err_and}
use Rattle.orc_values.specs.Shapes.{Shape}
use Rattle.orc_directory.specs.declared.fault.StripeFault.TheVariants.{Failed}
use Rattle.orc_json_printer.specs.LaidOut.{IsLaidOut}
use Rattle.orc_json_printer.specs.Layouts.{text_by}
use Rattle.orc_cli_rows.proofs.CursorLemmas.{filling_next, given_dropped, never_refused}
use Rattle.orc_cli_rows.proofs.lines.put_lines.Goals as goal

pub loop-cursor-preserved : goal.loop-cursor-preserved
loop-cursor-preserved g c =
    let found = rw c.if-not-branch.false at c.in_ok-push_next.ensures.found in
    record {
      filling = filling_next g.T.TextOutput.holds (text_by c.args.layout.now) c.args.cursor.now c.loop-cursor.cursor c.push_next.new.self c.args.out.now c.loop-cursor.out c.push_next.new.out c.put_byte.new.self
          c.loop-cursor.invariant.filling found (λ rest h. (let next = c.in_ok-push_next.ensures.only rest h in rw c.if-not-branch.false at next)) c.in_ok-put_byte.ensures.found;
      laid_out = subst (λ (s : Shape). IsLaidOut s c.args.layout.now) (sym c.in_ok-push_next.ensures.of_type) c.loop-cursor.invariant.laid_out;
      going = λ _. c.in_ok-push_next.ensures.going;
      met = λ fault meets. c.loop-cursor.invariant.met fault (c.in_ok-push_next.ensures.before fault meets);
    }

pub returns-in_err-push_next-clause-fault : goal.returns-in_err-push_next-clause-fault
returns-in_err-push_next-clause-fault g c = λ start.
    let p = err_from_is_err_and c.from_residual.result c.from_residual.ensures.1 in
    let going = c.loop-cursor.invariant.going start in
    rw (p.1, p.2) (λ other.
    let first : c.in_err-push_next.field-0.0 ≢ Failed = λ e. never_refused c.loop-cursor.cursor going (c.in_err-push_next.ensures.first e) in
    (first, c.loop-cursor.invariant.met c.in_err-push_next.field-0.0 (c.in_err-push_next.ensures.fault other first)))

pub returns-clause-only : goal.returns-clause-only
returns-clause-only g c = λ rows h.
    given_dropped g.T.TextOutput.holds (text_by c.args.layout.now) rows c.loop-cursor.cursor c.args.out.now c.loop-cursor.out (c.loop-cursor.invariant.filling.given rows h) c.loop-cursor-test.ensures.dropped
