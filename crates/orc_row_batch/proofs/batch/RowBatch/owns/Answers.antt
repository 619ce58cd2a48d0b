use Rattle.std.proofs.Common.{◌≡◌, ◌<◌, List, Vec, Global, IfOk, map, subst, sym, arith}
use Rattle.orc_values.specs.Cells.{Cell}
use Rattle.orc_values.specs.Own.{own_cell}
use Rattle.orc_values.specs.Shapes.{width}
use Rattle.orc_values.specs.declared.own.Own.{Own}
use Rattle.orc_row_batch.specs.Kept.{KeptColumn, told}
use Rattle.orc_row_batch.proofs.BatchLemmas.{column_here, column_said}
use Rattle.orc_row_batch.proofs.batch.RowBatch.owns.Goals as goal

pub returns-clause-cells : goal.returns-clause-cells
returns-clause-cells c =
    let here = column_here c.args.self.now.columns.items c.args.column c.index.result.now c.requires c.index.ensures in
    subst (λ (k : KeptColumn). IfOk c.owns.result (λ (owns : Vec Own Global). map own_cell owns.items ≡ told k)) (sym here) c.owns.ensures

pub returns-clause-rows : goal.returns-clause-rows
returns-clause-rows c s rows held =
    let there : c.args.column < width s = omega (arith, c.requires, held.columns) in
    subst (λ (cs : List Cell). IfOk c.owns.result (λ (owns : Vec Own Global). map own_cell owns.items ≡ cs))
    (column_said s rows c.args.self.now c.args.column held there) (returns-clause-cells c)
