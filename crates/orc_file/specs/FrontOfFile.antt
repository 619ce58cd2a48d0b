-- What an output has got if a writer failed, in the words of a file that is read (this project's).
use Rattle.std.specs.Prelude.{◌≡◌, ℕ, ◌+◌, List, ◌++◌, take, Option}
use Rattle.orc_values.specs.Shapes.{Shape}
use Rattle.orc_values.specs.Cells.{Cell}
use Rattle.orc_io.specs.Devices.{appended}
use Rattle.orc_file_reader.specs.FileRows.{FileIs}
use Rattle.orc_tail.specs.declared.tail.Tail.{Tail}

-- After the known bytes that the output had first, it has got a prefix of a file with the first `count` rows.
pub record IsFrontOfFile (s : Shape) (first told : Option (List ℕ)) (rows : List Cell) : Type 0 where
  pub mine : List ℕ
  pub rest : List ℕ
  pub count : ℕ
  pub tail : Tail
  pub told_is : told ≡ appended first mine
  pub file : FileIs (mine ++ rest) tail (take count rows)
  pub schema_is : tail.schema ≡ s
