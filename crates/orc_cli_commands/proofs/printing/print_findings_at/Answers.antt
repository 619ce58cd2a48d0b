use Rattle.std.proofs.Common.{◌≡◌, ℕ, List, Option, Err, true, false, inl, subst}
use Rattle.std.proofs.lemmas.Result.{err_from_is_err_and}
use Rattle.orc_cli_commands.specs.Places.{CanFail}
use Rattle.orc_cli_commands.specs.Commands.{AnswersCheck}
use Rattle.orc_cli_commands.proofs.printing.print_findings_at.Goals as goal

pub returns-in_err-print_findings : goal.returns-in_err-print_findings
returns-in_err-print_findings g c =
    let p = err_from_is_err_and c.from_residual-in_err-print_findings.result c.from_residual-in_err-print_findings.ensures.1 in
    let old = g.W.Write.contents c.args.out.now in
    let new = g.W.Write.contents c.print_findings.new.out in
    let P : Option (List ℕ) → Type 0 = λ t. AnswersCheck t (CanFail g.P.Input.Source.failures) old new (Err c.in_err-print_findings.field-0.0) in
    let found : g.P.Place.lacks c.args.place.now c.args.path.now → ⊥ = λ lacks. let e = c.in_ok-source.ensures.lacking lacks in cc in
    rw (p.1, p.2) (inl (found, subst P c.in_ok-source.ensures.told c.in_err-print_findings.ensures))
