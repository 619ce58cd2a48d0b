use Rattle.orc_cli_rows.proofs.pieces.Pieces.finish.Goals as goal

pub returns : goal.returns
returns g c = λ bytes h.
    let last = c.send_waiting.ensures.sent bytes h in
    rw c.send_waiting.ensures.none at last
