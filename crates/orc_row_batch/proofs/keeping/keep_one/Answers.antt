use Rattle.std.proofs.Common.{◌≡◌, [], ◌∷◌, ap, ◌∙◌}
use Rattle.std.proofs.lemmas.Result.{on_ok_weaker}
use Rattle.orc_values.specs.Cells.{Cell}
use Rattle.orc_values.specs.Own.{own_cell}
use Rattle.orc_values.specs.Views.{view}
use Rattle.orc_row_batch.specs.Kept.{kept, with_cells}
use Rattle.orc_row_batch.proofs.BatchLemmas.{column_set}
use Rattle.orc_row_batch.proofs.KeptLemmas.{kept_childless}
use Rattle.orc_row_batch.proofs.keeping.keep_one.Goals as goal

pub returns-clause-kept : goal.returns-clause-kept
returns-clause-kept c =
    let cell = view c.args.cell.now in
    let old = c.index_mut.result.now in
    let new = c.push.new.self in
    on_ok_weaker c.push.result
    (λ (e : kept new ≡ with_cells (own_cell c.own_of.result ∷ []) (kept old)).
    column_set c.args.columns.now.items c.args.column old new cell c.requires c.index_mut.ensures.value
    (e ∙ ap (λ (x : Cell). with_cells (x ∷ []) (kept old)) c.own_of.ensures ∙ kept_childless cell (kept old)))
    c.push.ensures
