use Rattle.std.proofs.Common.{[], ◌∷◌, sym, ◌∙◌, subst}
use Rattle.orc_cli_rows.specs.Pieces.{IsGiven}
use Rattle.orc_cli_rows.proofs.PieceLemmas.{ok_of, err_of, given_waits}
use Rattle.orc_cli_rows.proofs.pieces.PiecesTextOutput.put_byte.Goals as goal

pub returns-then-is_ok-clause-front : goal.returns-then-is_ok-clause-front
returns-then-is_ok-clause-front g c = λ before h.
    let s = c.args.self.now in
    let longer = ok_of c.try_push.result (sym c.is_ok.ensures.value ∙ c.if-is_ok.true) c.try_push.ensures.ok in
    (c.args.byte ∷ [], given_waits s.out.ghost_name (g.W.Write.contents s.out.now) s.waiting.items c.try_push.new.self.items (c.args.byte ∷ []) s.failed before longer h)

pub returns-clause-front : goal.returns-clause-front
returns-clause-front g c = λ before h.
    let s = c.args.self.now in
    let t = c.send_waiting.new.self in
    let same = err_of c.try_push.result (sym c.is_ok.ensures.value ∙ c.if-is_ok.false) c.try_push.ensures.err in
    let sent = c.send_waiting.ensures.sent before (subst (λ w. IsGiven s.out.ghost_name (g.W.Write.contents s.out.now) w.items s.failed before) (sym same) h) in
    (c.args.byte ∷ [], given_waits t.out.ghost_name (g.W.Write.contents t.out.now) t.waiting.items c.push.new.self.items (c.args.byte ∷ []) t.failed before c.push.ensures.items sent)
