use Rattle.std.proofs.lemmas.Result.{IfErr-weaker}
use Rattle.orc_cli_rows.proofs.RowsLemmas.{answered_only, not_asked, rows_want, no_place_layer}
use Rattle.orc_cli_rows.proofs.printing.rows_to.Goals as goal

pub returns-in-Ok-clause-only : goal.returns-in-Ok-clause-only
returns-in-Ok-clause-only g c = λ none.
    answered_only (g.S.Source.told c.args.source) c.args.from c.in-Ok.start _ _ c.print_file.result none c.in-Ok.ensures c.print_file.ensures.refused

pub returns-in-Err-clause-only : goal.returns-in-Err-clause-only
returns-in-Err-clause-only g c = λ none. not_asked (g.S.Source.told c.args.source) c.args.from c.in-Err.fault none c.in-Err.ensures

pub returns-in-Ok-clause-layer : goal.returns-in-Ok-clause-layer
returns-in-Ok-clause-layer g c = IfErr-weaker c.print_file.result _ _ (λ e layer want. rows_want e.0 layer want) c.print_file.ensures.layer

pub returns-in-Err-clause-layer : goal.returns-in-Err-clause-layer
returns-in-Err-clause-layer g c = λ want. rows_want c.in-Err.fault (no_place_layer c.args.from c.in-Err.fault c.in-Err.ensures) want
