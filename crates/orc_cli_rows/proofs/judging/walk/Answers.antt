use Rattle.std.proofs.lemmas.Result.{IfErr-weaker}
use Rattle.orc_cli_rows.proofs.StripeLemmas.{no_stripe}
use Rattle.orc_cli_rows.proofs.judging.walk.Goals as goal

pub returns-clause-fault : goal.returns-clause-fault
returns-clause-fault c =
    let v = c.args.view.now in
    let fault = rw (c.tree.ensures, c.footer.ensures.same, c.in_ok-located.ensures.same, c.number_of_rows.ensures) at c.walk_columns.ensures.fault in
    let has = c.footer.ensures.there in
    IfErr-weaker c.walk_columns.result _ _ (λ why met other. no_stripe v why has (met other)) fault
