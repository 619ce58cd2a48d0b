use Rattle.orc_cli_rows.proofs.PieceLemmas.{sent_more, given_more, given_dropped}
use Rattle.orc_cli_rows.proofs.pieces.Pieces.send.Goals as goal

pub returns-then-not-self : goal.returns-then-not-self
returns-then-not-self g c = λ before h.
    let name = c.args.self.now.out.ghost_name in
    let out = g.W.Write.contents c.args.self.now.out.now in
    let next = g.W.Write.contents c.write_out.new.out in
    let waiting = c.args.self.now.waiting.items in
    let going = rw c.if-not-self.true at h in
    rw c.is_err-self.ensures.value (given_more name out next waiting waiting _ _ before c.args.bytes.now (λ start text sent. sent_more c.write_out.result start out next waiting text c.args.bytes.now c.requires.none c.write_out.ensures.all c.write_out.ensures.part sent) going)

pub returns-else-not-self : goal.returns-else-not-self
returns-else-not-self g c = λ before h. given_dropped c.args.self.now.out.ghost_name (g.W.Write.contents c.args.self.now.out.now) c.args.self.now.waiting.items before c.args.bytes.now c.args.self.now.failed c.if-not-self.false h
