-- Values of a column of a kind that contains no other, one after the other.
use Rattle.std.proofs.Common.{ℕ, List}
use Rattle.orc_values.specs.Cells.{Cell}
use Rattle.orc_values.specs.declared.kind.Scalar.{Scalar}
use Rattle.orc_column_reader.specs.Columns.{ScalarLeft}
use Rattle.orc_column_reader.specs.ReaderFaults.{ScalarMeets}
use Rattle.orc_column_reader.specs.declared.column.ValueSource.{ValueSource}
use Rattle.orc_column_walk.proofs.ReadLemmas.{Meets, AreRead}

abbrev pub ScalarMet : Scalar → ValueSource → Meets
ScalarMet kind source all n f = ScalarMeets kind source all n f

-- so many values were read
abbrev pub ScalarsRead : Scalar → ValueSource → ValueSource → ℕ → Type 0
ScalarsRead kind before after count =
    (values : List Cell) × AreRead (ScalarLeft kind before) (ScalarLeft kind after) (ScalarMet kind before) (ScalarMet kind after) count values
