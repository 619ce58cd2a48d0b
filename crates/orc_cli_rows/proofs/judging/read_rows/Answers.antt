use Rattle.orc_cli_rows.proofs.judging.read_rows.Goals as goal
use Rattle.orc_cli_rows.proofs.judging.read_rows.Goals.{in-Ok, in-Err}

pub returns-after-rows_from-clause-found : goal.returns-after-rows_from-clause-found
returns-after-rows_from-clause-found c =
    elim c.match-rows_from.branch [
      | in-Ok w ↦ rw (w.result-is, c.in-Some.is) (_, w.in-Ok.ensures.found)
      | in-Err w ↦ rw w.result-is tt
    ]
