use Rattle.std.proofs.Common.{◌≡◌, ◌<◌, length, sym, ap, ◌∙◌, arith}
use Rattle.std.proofs.lemmas.List.{with_items_is}
use Rattle.orc_row_batch.proofs.BatchLemmas.{none_left, none_below, below_set, all_below}
use Rattle.orc_row_batch.proofs.batch.RowBatch.clear.Goals as goal

pub loop-column-init : goal.loop-column-init
loop-column-init c = none_below c.deref_mut-column-items.result.now

pub loop-column-preserved : goal.loop-column-preserved
loop-column-preserved c =
    let l : c.loop-column.column-index < length c.loop-column.column-items = omega (arith, c.loop-column-test.true, c.loop-column.auto.column-items) in
    below_set c.loop-column.column-items c.loop-column.column-index c.clear.new.self c.loop-column.invariant c.clear.ensures l

pub returns-clause-columns : goal.returns-clause-columns
returns-clause-columns c =
    let vectors = c.loop-column.column-items in
    let long : length vectors ≡ length c.args.self.now.columns.items = c.loop-column.auto.column-items ∙ ap length c.deref_mut-column-items.ensures.value in
    ap length (with_items_is c.args.self.now.columns vectors (long ∙ sym c.args.self.now.columns.ok.0)) ∙ long

pub returns-clause-rows : goal.returns-clause-rows
returns-clause-rows c s wide =
    let vectors = c.loop-column.column-items in
    let long : length vectors ≡ length c.args.self.now.columns.items = c.loop-column.auto.column-items ∙ ap length c.deref_mut-column-items.ensures.value in
    none_left s _ vectors (with_items_is c.args.self.now.columns vectors (long ∙ sym c.args.self.now.columns.ok.0)) (long ∙ wide)
    (all_below vectors c.loop-column.column-index c.loop-column.invariant (omega (arith, c.loop-column-test.false, c.loop-column.auto.column-items)))
