use Rattle.std.proofs.Common.{refl}
use Rattle.orc_json_printer.specs.Layouts.{text_by}
use Rattle.orc_cli_rows.specs.Pieces.{text_lines}
use Rattle.orc_cli_rows.proofs.StripeLemmas.{all_answered, all_refused}
use Rattle.orc_cli_rows.proofs.one_stripe.print_judged.Goals as goal

pub returns-in-Ok-clause-written : goal.returns-in-Ok-clause-written
returns-in-Ok-clause-written g c =
    let found = c.in_ok-judge.ensures.found in
    let text = text_by c.args.layout.now in
    all_answered text c.args.view.now c.args.from c.args.number c.requires.distinct c.requires.prints c.print_pieces.result found.0 (text_lines text found.0) (g.W.Write.contents c.args.out.now) (g.W.Write.contents c.print_pieces.new.out) found.1 refl
    (c.print_pieces.ensures.written found.0 (c.in-Ok.ensures.stands found.0 found.1))

pub returns-in-Ok-clause-refused : goal.returns-in-Ok-clause-refused
returns-in-Ok-clause-refused g c =
    let found = c.in_ok-judge.ensures.found in
    let text = text_by c.args.layout.now in
    all_refused text c.args.view.now c.args.from c.args.number c.requires.distinct c.requires.prints c.print_pieces.result found.0 (text_lines text found.0) (g.W.Write.contents c.args.out.now) (g.W.Write.contents c.print_pieces.new.out) found.1 refl
    c.print_pieces.ensures.refused (c.print_pieces.ensures.part found.0 (c.in-Ok.ensures.stands found.0 found.1))
