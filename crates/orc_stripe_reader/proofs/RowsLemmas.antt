-- What no stripe has.
use Rattle.std.proofs.Common.{ℕ, ◌≤◌, ◌^◌, List, length, ap, arith}
use Rattle.orc_values.specs.Cells.{Cell}
use Rattle.orc_values.specs.Shapes.{Shape}
use Rattle.orc_column_reader.specs.Stripe.{Streams, SpellRows}
use Rattle.orc_values.proofs.Widths.{some_width}
use Rattle.orc_values.proofs.Deeper.{cells-zero}

pub rows_too_many : (s : Shape) (columns : ℕ → Streams) (count : ℕ) (all : List Cell) → 2 ^ 31 ≤ count → SpellRows s columns count all → ⊥
rows_too_many s columns count all many spelled =
    let w = some_width s in
    let own = spelled.column 0 (omega (arith, w)) in
    omega (arith, many, own.few, spelled.counted, ap length (cells-zero s all))
