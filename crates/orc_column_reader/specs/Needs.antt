-- How many values the cells of a column are, and how many cells the column below it has, as far as the streams store
-- it (ORC specification, "Column Encodings"). `first` holds for the marks or the lengths that come first in a stream,
-- whatever follows.
use Rattle.std.specs.Prelude.{◌≡◌, ℕ, suc, ℤ, pos, Bool, true, false, List, [], ◌∷◌, ◌++◌, length, replicate, map, sum}
use Rattle.orc_bits.specs.Packed.{digits}
use Rattle.orc_rle.specs.BitStream.{digit}
use Rattle.orc_rle.specs.ByteRun.{IsByteRun}
use Rattle.orc_column_reader.specs.Runs.{RunsBegin}
use Rattle.orc_column_reader.specs.RunFaults.{Needed}
use Rattle.orc_values.specs.Trues.{trues}

-- the booleans come first in the runs of the bytes
pub record BoolsBegin (bytes : List ℕ) (bools : List Bool) : Type 0 where
  pub packed : List ℕ
  pub runs : RunsBegin IsByteRun bytes packed
  pub more : List ℕ
  pub digits_are : digits 8 packed ≡ map digit bools ++ more

-- the marks come first in PRESENT; if it is empty, nothing is null
abbrev pub MarksBegin : List ℕ → List Bool → Type 0
MarksBegin [] marks = marks ≡ replicate (length marks) true
MarksBegin (b ∷ bs) marks = BoolsBegin (b ∷ bs) marks

-- n of the cells are values: the marks of all cells are known, or those of the first ones
pub record ValuesNeeded (all : Bool) (cells : ℕ) (first : List Bool → Type 0) (n : ℕ) : Type 0 where
  pub marks : List Bool
  pub come_first : first marks
  pub known : Needed all (length marks) cells
  pub counted : n ≡ trues marks

-- the lists or maps have n elements or pairs in all: the lengths of all are known, or those of the first ones
pub record ElementsNeeded (all : Bool) (lists : ℕ) (first : List ℤ → Type 0) (n : ℕ) : Type 0 where
  pub lengths : List ℕ
  pub come_first : first (map pos lengths)
  pub known : Needed all (length lengths) lists
  pub counted : n ≡ sum lengths
