use Rattle.std.proofs.Common.{◌≡◌, ◌++◌, map, drop}
use Rattle.orc_values.specs.Own.{own_cell}
use Rattle.orc_row_batch.specs.Kept.{cells_from, kept}
use Rattle.orc_row_batch.proofs.vector.ColumnVector.owns.Given as goal

-- the cells so far, before those that are left, are all
abbrev pub invariant-loop-cell : goal.invariant-loop-cell
invariant-loop-cell l =
    map own_cell l.owns.items ++ cells_from (drop l.cell-index l.cell-items) l.left.texts.now l.left.bytes.now
    ≡ cells_from l.cell-items (kept l.self).texts (kept l.self).bytes
