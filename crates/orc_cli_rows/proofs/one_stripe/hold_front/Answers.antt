use Rattle.std.proofs.Common.{List, ℕ, [], ◌++◌, ap, ◌∙◌}
use Rattle.orc_json_printer.specs.Layouts.{text_by}
use Rattle.orc_cli_rows.specs.Pieces.{text_lines}
use Rattle.orc_cli_rows.proofs.CursorLemmas.{both_lines}
use Rattle.orc_cli_rows.proofs.one_stripe.hold_front.Goals as goal

pub returns-clause-all : goal.returns-clause-all
returns-clause-all c = λ ended.
    let put = c.in_ok-ended.ensures.all ended in
    (put.rows, c.in_ok-cursor.ensures.found put.rows put.stands, ap (λ v. v.items) c.into_text.ensures ∙ put.put [] c.new-held.ensures)

pub returns-clause-some : goal.returns-clause-some
returns-clause-some c = λ more rows are.
    let text = text_by c.args.layout.now in
    let put = c.in_ok-ended.ensures.front more rows (c.in_ok-cursor.ensures.stands rows are) in
    let held = ap (λ v. v.items) c.into_text.ensures ∙ put.put [] c.new-held.ensures in
    (put.rest, put.stands, ap (λ (t : List ℕ). t ++ text_lines text put.rest) held ∙ both_lines text rows put.front put.rest put.all_are)
