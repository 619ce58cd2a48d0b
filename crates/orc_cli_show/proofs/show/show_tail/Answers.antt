use Rattle.std.proofs.Common.{inr}
use Rattle.std.proofs.lemmas.Result.{err_from_is_err_and, IfErr-weaker}
use Rattle.orc_cli_show.proofs.ShowLemmas.{show_memory, output_want}
use Rattle.orc_cli_show.proofs.show.show_tail.Goals as goal
use Rattle.orc_io.proofs.Told.{keeps_itself}

pub returns-in_err-lines-clause-refused : goal.returns-in_err-lines-clause-refused
returns-in_err-lines-clause-refused g c =
    let p = err_from_is_err_and c.from_residual.result c.from_residual.ensures.1 in
    rw (p.1, p.2) (inr (show_memory c.in_err-lines.field-0.0 c.in_err-lines.ensures.fault, keeps_itself (g.W.Write.contents c.args.out.now)))

pub returns-in_err-lines-clause-layer : goal.returns-in_err-lines-clause-layer
returns-in_err-lines-clause-layer g c =
    let p = err_from_is_err_and c.from_residual.result c.from_residual.ensures.1 in
    rw (p.1, p.2) (λ want. c.in_err-lines.ensures.fault)

pub returns-clause-layer : goal.returns-clause-layer
returns-clause-layer g c = IfErr-weaker c.write_out.result _ _ (λ fault failed want. output_want fault failed want) c.write_out.ensures.refused
