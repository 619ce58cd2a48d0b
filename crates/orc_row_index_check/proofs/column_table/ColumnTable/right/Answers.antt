use Rattle.std.specs.Prelude.{MatchBool}
use Rattle.std.proofs.Common.{List, ℕ, subst}
use Rattle.orc_row_index.specs.Positions.{ValuePositions}
use Rattle.orc_row_index_check.proofs.ColumnLemmas.{front_found, front_named, places_decided}
use Rattle.orc_row_index_check.proofs.column_table.ColumnTable.right.Goals as goal

pub returns-then-not-right : goal.returns-then-not-right
returns-then-not-right c = λ present content own before are counted there h.
    c.if-not-right.ensures (front_found present content own before c.args.positions.now c.split_at.result.0.now c.size-size.result c.args.counts.cells c.args.self.now.present (c.size-size.ensures present are.of_present) are.of_present
    counted.cells_are c.split_at.ensures.front h)

pub returns : goal.returns
returns c = λ present content own before are counted there.
    let size = c.size-size.result in
    let ps = c.args.positions.now in
    let b = c.own_right.result in
    places_decided present content own before ps size b (c.size-size.ensures present are.of_present)
    (front_named present before ps c.split_at.result.0.now size c.args.counts.cells c.args.self.now.present are.of_present there.in_present counted.cells_are c.split_at.ensures.front c.if-not-right.ensures)
    (subst (λ (t : List ℕ). MatchBool b (ValuePositions content own before t) (ValuePositions content own before t → ⊥)) c.split_at.ensures.back (c.own_right.ensures present content own before are counted there))
