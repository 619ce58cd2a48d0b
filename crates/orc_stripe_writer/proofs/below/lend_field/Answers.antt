use Rattle.std.proofs.Common.{◌++◌, sym, ap, ◌∙◌, append-nil}
use Rattle.std.proofs.lemmas.List.{map-append}
use Rattle.orc_values.specs.Cells.{parts}
use Rattle.orc_values.specs.Lent.{lent_cells}
use Rattle.orc_values.specs.Views.{view}
use Rattle.orc_stripe_writer.proofs.below.lend_field.Goals as goal
use Rattle.orc_values.proofs.Lists.{cell_there, cell_missing}

pub returns : goal.returns
returns c =
    ap lent_cells c.in_ok-push.ensures.items ∙ map-append (λ r. view r.0.now) c.args.found.now.items _ ∙ ap (λ xs. lent_cells c.args.found.now.items ++ xs) (cell_there (parts (view c.args.row.now)) c.args.place (view c.in-Some.field.now) c.in-Some.ensures)

pub returns-in_default : goal.returns-in_default
returns-in_default c = sym (append-nil (lent_cells c.args.found.now.items)) ∙ ap (λ xs. lent_cells c.args.found.now.items ++ xs) (cell_missing (parts (view c.args.row.now)) c.args.place c.in_default.ensures)
