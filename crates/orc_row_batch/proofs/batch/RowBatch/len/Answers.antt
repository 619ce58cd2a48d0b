use Rattle.std.proofs.Common.{length, sym, ap, ◌∙◌}
use Rattle.std.specs.Prelude.{slice_get}
use Rattle.orc_row_batch.specs.Kept.{KeptColumn}
use Rattle.orc_row_batch.proofs.BatchLemmas.{rows_counted, first_column, no_column}
use Rattle.orc_row_batch.proofs.batch.RowBatch.len.Goals as goal

pub returns-in-Some : goal.returns-in-Some
returns-in-Some c s rows h =
    let first = first_column c.args.self.now.columns.items c.in-Some.column.now (c.in-Some.ensures.value ∙ ap (λ vs. slice_get vs 0) c.deref.ensures.value) in
    c.len.ensures ∙ ap (λ (k : KeptColumn). length k.cells) (sym first) ∙ rows_counted s rows c.args.self.now h

pub returns-in-None : goal.returns-in-None
returns-in-None c s rows h =
    let none = no_column c.args.self.now.columns.items (c.in-None.ensures.value ∙ ap (λ vs. slice_get vs 0) c.deref.ensures.value) in
    ap (λ (k : KeptColumn). length k.cells) (sym none) ∙ rows_counted s rows c.args.self.now h
