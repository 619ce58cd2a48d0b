use Rattle.std.proofs.Common.{rules, ◌≢◌, [], Some}
use Rattle.orc_c.proofs.printing.row_lines.Goals as goal
use Rattle.std.proofs.lemmas.Result.{IfOk-weaker}

pub returns-in-Ok-clause-printed : goal.returns-in-Ok-clause-printed
returns-in-Ok-clause-printed c =
    let some : c.args.from.now ≢ [] = search rules in
    IfOk-weaker c.lines_from-in-Ok.result _ _ (λ lines printed. (Some c.in-Ok.text, (some, c.in-Ok.ensures.cases.0), printed)) c.lines_from-in-Ok.ensures.printed
