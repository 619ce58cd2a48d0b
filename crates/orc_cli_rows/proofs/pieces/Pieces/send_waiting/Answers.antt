use Rattle.orc_cli_rows.proofs.PieceLemmas.{sent_out, sent_kept, given_same}
use Rattle.orc_cli_rows.proofs.pieces.Pieces.send_waiting.Goals as goal
use Rattle.orc_cli_rows.proofs.pieces.Pieces.send_waiting.Goals.{then-not-self, else-not-self}

pub returns-clause-sent : goal.returns-clause-sent
returns-clause-sent g c = λ bytes h.
    let name = c.args.self.now.out.ghost_name in
    let out = g.W.Write.contents c.args.self.now.out.now in
    let waiting = c.args.self.now.waiting.items in
    elim c.if-not-self.branch [
      | then-not-self w ↦
          let next = g.W.Write.contents w.write_out.new.out in
          let going = rw w.if-not-self.true at h in
          let all = rw w.as_slice.ensures.value at w.write_out.ensures.all in
          let part = rw w.as_slice.ensures.value at w.write_out.ensures.part in
          rw (w.self-is, c.clear.ensures, w.is_err-self.ensures.value) (given_same name out next waiting _ _ _ bytes (λ start text sent. sent_out w.write_out.result start out next waiting text all part sent) going)
      | else-not-self w ↦
          rw (w.self-is) (given_same name out out waiting c.clear.new.self.items c.args.self.now.failed c.args.self.now.failed bytes (λ start text sent. sent_kept start out waiting c.clear.new.self.items text c.args.self.now.failed w.if-not-self.false sent) h)
    ]
