-- That a batch holds some rows has at most one proof, so that a value may keep it.
use Rattle.std.specs.Coded.{Unit-prop, ×_prop}
use Rattle.std.specs.Prelude.{List, [], ◌∷◌}
use Rattle.std.proofs.Props.{props}
use Rattle.orc_values.specs.Shapes.{Shape}
use Rattle.orc_values.specs.Cells.{Cell}
use Rattle.orc_values.specs.Fits.{RowsFit}
use Rattle.orc_row_batch.specs.Batch.{Holds}
use Rattle.orc_row_batch.specs.declared.batch.RowBatch.{RowBatch}

RowsFit-prop : (s : Shape) (rows : List Cell) → IsProp (RowsFit s rows)
RowsFit-prop s [] = Unit-prop
RowsFit-prop s (c ∷ cs) = ×_prop (Prim.hlevel props) (RowsFit-prop s cs)

pub Holds-prop : (s : Shape) (rows : List Cell) (batch : RowBatch) → IsProp (Holds s rows batch)
Holds-prop s rows batch = Prim.hlevel (props, RowsFit-prop)
