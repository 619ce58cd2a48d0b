use Rattle.std.proofs.lemmas.Result.{IfOk-weaker, MatchResult-weaker, MatchResult-from_both}
use Rattle.orc_values.specs.Views.{view}
use Rattle.orc_json.proofs.TextLemmas.{one_text_row, text_fits, only_want}
use Rattle.orc_json.proofs.row_reader.RowReader.read_row_over.Goals as goal

pub returns-in-Ok-clause-only : goal.returns-in-Ok-clause-only
returns-in-Ok-clause-only c = λ row spelled. one_text_row c.args.schema.now c.args.text.now (view c.read_straight.new.row) row c.in-Ok.ensures spelled

pub returns-in-Ok-clause-fits : goal.returns-in-Ok-clause-fits
returns-in-Ok-clause-fits c = text_fits c.args.schema.now c.args.text.now (view c.read_straight.new.row) c.in-Ok.ensures

pub returns-clause-only : goal.returns-clause-only
returns-clause-only c = λ row spelled.
    MatchResult-weaker c.row_by_value.result (MatchResult-from_both c.row_by_value.result _ _ c.row_by_value.ensures.found c.row_by_value.ensures.fault) (λ found h. one_text_row c.args.schema.now c.args.text.now (view found) row h spelled) (λ why stands. only_want c.args.schema.now c.args.text.now row why spelled stands)

pub returns-clause-fits : goal.returns-clause-fits
returns-clause-fits c = IfOk-weaker c.row_by_value.result _ _ (λ found h. text_fits c.args.schema.now c.args.text.now (view found) h) c.row_by_value.ensures.found
