use Rattle.std.proofs.lemmas.Result.{err_from_is_err_and}
use Rattle.orc_cli_rows.proofs.StripeLemmas.{unopened_ends, view_ends}
use Rattle.orc_cli_rows.proofs.rows.print_stripe.Goals as goal

pub returns-in_err-view-clause-refused : goal.returns-in_err-view-clause-refused
returns-in_err-view-clause-refused g c =
    let p = err_from_is_err_and c.from_residual-in_err-view.result c.from_residual-in_err-view.ensures.1 in
    let bytes = rw (← c.deref.ensures.value) at c.in_ok-load.ensures.loaded.bytes in
    let tail = c.in_ok-load.ensures.tail in
    let only = rw (c.tail.ensures, tail) at c.in_err-view.ensures.only in
    let fault = rw (c.tail.ensures, tail) at c.in_err-view.ensures.fault in
    rw (p.1, p.2) (unopened_ends _ _ _ _ _ _ c.in_err-view.field-0.0 bytes only fault)

pub returns-clause-refused : goal.returns-clause-refused
returns-clause-refused g c =
    let bytes = rw (← c.deref.ensures.value) at c.in_ok-load.ensures.loaded.bytes in
    let tail = c.in_ok-load.ensures.tail in
    let same = rw (c.tail.ensures, tail) at c.in_ok-view.ensures.same in
    let found = rw (c.tail.ensures, tail) at c.in_ok-view.ensures.found in
    view_ends _ _ _ _ same found c.print_view.result _ _ _ _ bytes c.print_view.ensures.refused
