use Rattle.std.proofs.Common.{sym, ◌∙◌, subst}
use Rattle.orc_cli_rows.specs.Pieces.{IsGiven}
use Rattle.orc_cli_rows.proofs.PieceLemmas.{ok_of, err_of, given_waits}
use Rattle.orc_cli_rows.proofs.pieces.PiecesTextOutput.put.Goals as goal

pub returns-then-is_ok-clause-front : goal.returns-then-is_ok-clause-front
returns-then-is_ok-clause-front g c = λ before h.
    let s = c.args.self.now in
    let longer = ok_of c.try_extend_from_slice.result (sym c.is_ok.ensures.value ∙ c.if-is_ok.true) c.try_extend_from_slice.ensures.ok in
    (c.args.bytes.now, given_waits s.out.ghost_name (g.W.Write.contents s.out.now) s.waiting.items c.try_extend_from_slice.new.self.items c.args.bytes.now s.failed before longer h)

pub returns-then-is_ok-2-clause-front : goal.returns-then-is_ok-2-clause-front
returns-then-is_ok-2-clause-front g c = λ before h.
    let s = c.args.self.now in
    let t = c.send_waiting.new.self in
    let same = err_of c.try_extend_from_slice.result (sym c.is_ok.ensures.value ∙ c.if-is_ok.false) c.try_extend_from_slice.ensures.err in
    let sent = c.send_waiting.ensures.sent before (subst (λ w. IsGiven s.out.ghost_name (g.W.Write.contents s.out.now) w.items s.failed before) (sym same) h) in
    let longer = ok_of c.try_extend_from_slice-2.result (sym c.is_ok-2.ensures.value ∙ c.if-is_ok-2.true) c.try_extend_from_slice-2.ensures.ok in
    (c.args.bytes.now, given_waits t.out.ghost_name (g.W.Write.contents t.out.now) t.waiting.items c.try_extend_from_slice-2.new.self.items c.args.bytes.now t.failed before longer sent)

pub returns-clause-front : goal.returns-clause-front
returns-clause-front g c = λ before h.
    let s = c.args.self.now in
    let t = c.send_waiting.new.self in
    let same = err_of c.try_extend_from_slice.result (sym c.is_ok.ensures.value ∙ c.if-is_ok.false) c.try_extend_from_slice.ensures.err in
    let sent = c.send_waiting.ensures.sent before (subst (λ w. IsGiven s.out.ghost_name (g.W.Write.contents s.out.now) w.items s.failed before) (sym same) h) in
    let still = err_of c.try_extend_from_slice-2.result (sym c.is_ok-2.ensures.value ∙ c.if-is_ok-2.false) c.try_extend_from_slice-2.ensures.err in
    (c.args.bytes.now, c.send.ensures before (subst (λ w. IsGiven t.out.ghost_name (g.W.Write.contents t.out.now) w.items t.failed before) (sym still) sent))
