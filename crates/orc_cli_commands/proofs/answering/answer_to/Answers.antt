use Rattle.std.proofs.Common.{refl}
use Rattle.std.proofs.lemmas.Result.{err_from_is_err_and}
use Rattle.orc_cli_commands.proofs.answering.answer_to.Goals as goal

pub returns-in_err-print_ints-in-Ints-clause-answered : goal.returns-in_err-print_ints-in-Ints-clause-answered
returns-in_err-print_ints-in-Ints-clause-answered g c =
    let p = err_from_is_err_and c.from_residual.result c.from_residual.ensures.1 in
    rw (p.1, p.2, c.in-Ints.is) (refl, c.in_err-print_ints-in-Ints.ensures)

pub returns-in_ok-print_ints-in-Ints-clause-answered : goal.returns-in_ok-print_ints-in-Ints-clause-answered
returns-in_ok-print_ints-in-Ints-clause-answered g c = rw c.in-Ints.is (refl, c.in_ok-print_ints-in-Ints.ensures)
