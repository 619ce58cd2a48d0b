use Rattle.std.proofs.Common.{rules, [], ◌++◌}
use Rattle.orc_json_printer.specs.Layouts.{text_by}
use Rattle.orc_cli_rows.specs.Pieces.{text_lines}
use Rattle.orc_cli_rows.proofs.PieceLemmas.{given_behind, sent_good, sent_part}
use Rattle.orc_cli_rows.proofs.one_stripe.print_pieces.Goals as goal

pub returns-clause-written : goal.returns-clause-written
returns-clause-written g c = λ rows h.
    let lines = text_lines (text_by c.args.layout.now) rows in
    let front = c.args.front.now in
    let start = g.W.Write.contents c.args.out.now in
    let put = c.in-Ok-put_lines.ensures.only rows h _ (c.in-Ok.ensures.found _ c.new-pieces.ensures) in
    let given = given_behind _ c.finish-back.result.0.ghost_name start (g.W.Write.contents c.finish-back.result.0.now) [] c.finish-back.result.1 front lines (c.finish-back.ensures _ put) in
    let same = given.0 in
    let out = sent_good start (g.W.Write.contents c.finish-back.result.0.now) (front ++ lines) c.finish-back.result.1 c.if-failed.false given.1 in
    search rules

pub returns-then-failed-clause-part : goal.returns-then-failed-clause-part
returns-then-failed-clause-part g c = λ rows h.
    let lines = text_lines (text_by c.args.layout.now) rows in
    let front = c.args.front.now in
    let start = g.W.Write.contents c.args.out.now in
    let put = c.in-Ok-put_lines.ensures.only rows h _ (c.in-Ok.ensures.found _ c.new-pieces.ensures) in
    let given = given_behind _ c.finish-back.result.0.ghost_name start (g.W.Write.contents c.finish-back.result.0.now) [] c.finish-back.result.1 front lines (c.finish-back.ensures _ put) in
    let same = given.0 in
    let out = sent_part start (g.W.Write.contents c.finish-back.result.0.now) (front ++ lines) c.finish-back.result.1 c.if-failed.true given.1 in
    search rules

pub unreachable-requires : goal.unreachable-requires
unreachable-requires g c = let never = c.in-Err.ensures.memory in absurd (cc)

pub unreachable-requires-in-Err-put_lines : goal.unreachable-requires-in-Err-put_lines
unreachable-requires-in-Err-put_lines g c = let only = c.in-Err-put_lines.ensures.only c.requires.good.0 c.requires.good.1 in let never = only.1 in absurd (cc)
