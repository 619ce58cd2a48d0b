use Rattle.std.proofs.Common.{◌∙◌, Ok, arith}
use Rattle.std.proofs.lemmas.Result.{err_from_is_err_and}
use Rattle.orc_io.proofs.Leaving.{leaves_both}
use Rattle.orc_cli_rows.proofs.RowsLemmas.{printed_next, printed_all, ends_in}
use Rattle.orc_cli_rows.proofs.rows.print_rows.Goals as goal

pub returns-in_err-print_stripe-clause-refused : goal.returns-in_err-print_stripe-clause-refused
returns-in_err-print_stripe-clause-refused g c =
    let p = err_from_is_err_and c.from_residual.result c.from_residual.ensures.1 in
    let told = g.S.Source.told c.args.file.now.source in
    let inv = c.loop-number.invariant in
    let length = c.as_slice-number-end.ensures in
    let tail = c.tail.ensures in
    let lt = c.loop-number-test.true in
    let ends = c.in_err-print_stripe.ensures.refused in
    rw (p.1, p.2) (ends_in told c.args.file.now.tail c.args.first c.loop-number.number _ (g.W.Write.contents c.loop-number.out) _ c.in_err-print_stripe.field-0.0 inv.begun (rw (length, tail) at lt) inv.printed (rw (inv.source.told, inv.tail) at ends))

pub returns-in_err-print_stripe-clause-source : goal.returns-in_err-print_stripe-clause-source
returns-in_err-print_stripe-clause-source g c =
    let p = err_from_is_err_and c.from_residual.result c.from_residual.ensures.1 in
    rw (p.1, p.2) (leaves_both {first = tt} _ c.loop-number.invariant.source c.in_err-print_stripe.ensures.source)

pub loop-number-preserved : goal.loop-number-preserved
loop-number-preserved g c =
    let told = g.S.Source.told c.args.file.now.source in
    let start = c.args.file.now.tail in
    let inv = c.loop-number.invariant in
    let length = c.as_slice-number-end.ensures in
    let tail = c.tail.ensures in
    let lt = c.loop-number-test.true in
    let e = c.print_stripe.ensures in
    let own = c.in_ok-print_stripe.ensures.written in
    let begun = inv.begun in
    record {
      begun = omega (arith, begun);
      tail = e.tail ∙ inv.tail;
      cap = e.cap ∙ inv.cap;
      source = leaves_both (Ok tt) inv.source c.in_ok-print_stripe.ensures.source;
      printed = printed_next told start.schema start.stripes c.args.first c.loop-number.number _ (g.W.Write.contents c.loop-number.out) _ inv.begun (rw (length, tail) at lt) inv.printed (rw (inv.source.told, inv.tail) at own);
    }

pub returns-clause-written : goal.returns-clause-written
returns-clause-written g c =
    let told = g.S.Source.told c.args.file.now.source in
    let start = c.args.file.now.tail in
    let inv = c.loop-number.invariant in
    let length = c.as_slice-number-end.ensures in
    let tail = c.tail.ensures in
    let past = rw (length, tail) at c.loop-number-test.false in
    let most = rw (length, tail) at c.loop-number.auto.number-end in
    printed_all told start.schema start.stripes c.args.first c.loop-number.number _ _ (omega (arith, past, most)) inv.printed
