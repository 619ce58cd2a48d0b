use Rattle.std.proofs.lemmas.Result.{err_from_is_err_and}
use Rattle.orc_io.proofs.Leaving.{leaves_both}
use Rattle.orc_cli_rows.proofs.GroupLemmas.{from_both, ends_at_group, ends_later}
use Rattle.orc_cli_rows.proofs.printing.print_from.Goals as goal

pub returns-in_err-print_stripe-clause-refused : goal.returns-in_err-print_stripe-clause-refused
returns-in_err-print_stripe-clause-refused g c =
    let p = err_from_is_err_and c.from_residual.result c.from_residual.ensures.1 in
    let told = g.S.Source.told c.args.file.now.source in
    let lt = rw (c.as_slice.ensures, c.tail.ensures) at c.if-number-as_slice.false in
    rw (p.1, p.2) (ends_at_group told c.args.file.now.tail c.args.start.stripe c.args.start.group _ _ _ lt c.in_err-print_stripe.ensures.refused)

pub returns-clause-written : goal.returns-clause-written
returns-clause-written g c =
    let told = g.S.Source.told c.args.file.now.source in
    let lt = rw (c.as_slice.ensures, c.tail.ensures) at c.if-number-as_slice.false in
    let later = rw (c.in_ok-print_stripe.ensures.tail, c.in_ok-print_stripe.ensures.source.told) at c.print_rows.ensures.written in
    from_both told c.args.file.now.tail c.args.start.stripe c.args.start.group _ (g.W.Write.contents c.print_stripe.new.out) _ c.print_rows.result lt c.in_ok-print_stripe.ensures.written later

pub returns-clause-refused : goal.returns-clause-refused
returns-clause-refused g c =
    let told = g.S.Source.told c.args.file.now.source in
    let lt = rw (c.as_slice.ensures, c.tail.ensures) at c.if-number-as_slice.false in
    let ends = rw (c.in_ok-print_stripe.ensures.tail, c.in_ok-print_stripe.ensures.source.told) at c.print_rows.ensures.refused in
    ends_later told c.args.file.now.tail c.args.start.stripe c.args.start.group _ (g.W.Write.contents c.print_stripe.new.out) _ c.print_rows.result lt c.in_ok-print_stripe.ensures.written ends

pub returns-clause-source : goal.returns-clause-source
returns-clause-source g c = leaves_both c.print_rows.result c.in_ok-print_stripe.ensures.source c.print_rows.ensures.source
