use Rattle.std.proofs.Common.{◌≡◌, ◌∙◌, ◌==◌, ap, length, arith}
use Rattle.orc_cli_write.proofs.PieceLemmas.{goes_on, ends, is_last}
use Rattle.orc_cli_write.proofs.std_lines.read_line.Goals as goal

pub returns-in-Ended : goal.returns-in-Ended
returns-in-Ended g c =
    let t = rw c.in-Ended.is at c.in_ok-take_piece.ensures.taken in
    record { found = ends (g.I.Read.remaining c.args.input.now) (g.I.Read.remaining c.loop.input) (g.I.Read.remaining c.take_piece.new.input) c.loop.line.items t.0 c.take_piece.new.line.items c.loop.invariant t.1 t.2 }

pub returns-in-Nothing : goal.returns-in-Nothing
returns-in-Nothing g c =
    let t = rw c.in-Nothing.is at c.in_ok-take_piece.ensures.taken in
    let len : c.take_piece.new.line.len ≡ length c.take_piece.new.line.items = omega arith in
    let empty : c.is_empty.result ≡ (length c.take_piece.new.line.items == 0) = c.is_empty.ensures ∙ ap (λ n. n == 0) len in
    record { found = is_last (g.I.Read.remaining c.args.input.now) (g.I.Read.remaining c.loop.input) (g.I.Read.remaining c.take_piece.new.input) c.loop.line.items t.0 c.take_piece.new.line.items c.is_empty.result c.loop.invariant t.1 t.2 empty }

pub loop-preserved : goal.loop-preserved
loop-preserved g c =
    let t = rw c.in-Open.is at c.in_ok-take_piece.ensures.taken in
    goes_on (g.I.Read.remaining c.args.input.now) (g.I.Read.remaining c.loop.input) (g.I.Read.remaining c.take_piece.new.input) c.loop.line.items t.0 c.take_piece.new.line.items c.loop.invariant t.1 t.2
