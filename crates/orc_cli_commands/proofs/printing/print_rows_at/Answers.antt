use Rattle.std.proofs.Common.{◌≡◌, ℕ, List, Option, Err, true, false, inl, subst}
use Rattle.std.proofs.lemmas.Result.{err_from_is_err_and}
use Rattle.orc_cli_commands.specs.Places.{CanFail}
use Rattle.orc_cli_commands.specs.Commands.{AnswersRows}
use Rattle.orc_cli_commands.proofs.printing.print_rows_at.Goals as goal

pub returns-in_err-print_rows : goal.returns-in_err-print_rows
returns-in_err-print_rows g c =
    let p = err_from_is_err_and c.from_residual-in_err-print_rows.result c.from_residual-in_err-print_rows.ensures.1 in
    let old = g.W.Write.contents c.args.out.now in
    let new = g.W.Write.contents c.print_rows.new.out in
    let P : Option (List ℕ) → Type 0 = λ t. AnswersRows t c.args.from (CanFail g.P.Input.Source.failures) old new (Err c.in_err-print_rows.field-0.0) in
    let found : g.P.Place.lacks c.args.place.now c.args.path.now → ⊥ = λ lacks. let e = c.in_ok-source.ensures.lacking lacks in cc in
    rw (p.1, p.2) (inl (found, subst P c.in_ok-source.ensures.told c.in_err-print_rows.ensures))
