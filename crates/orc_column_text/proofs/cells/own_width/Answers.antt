use Rattle.std.proofs.Common.{refl}
use Rattle.orc_values.proofs.Views.{shape-Scalar}
use Rattle.orc_column_text.proofs.cells.own_width.Goals as goal

pub returns-in-Scalar : goal.returns-in-Scalar
returns-in-Scalar c = rw (c.in-Scalar.is, shape-Scalar c.in-Scalar.field-0 c.in-Scalar.field-1) refl
