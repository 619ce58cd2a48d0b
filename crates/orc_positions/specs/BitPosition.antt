-- Positions in streams of booleans (ORC specification, "Row Group Index").
use Rattle.std.specs.Prelude.{◌≡◌, ℕ, ◌+◌, ◌*◌, ◌/◌, ◌%◌, ◌<◌, ◌≤◌, List, ◌++◌, length, drop, map, Bool}
use Rattle.orc_bits.specs.Packed.{digits}
use Rattle.orc_rle.specs.BitStream.{digit, IsBitStream}
use Rattle.orc_rle.specs.ByteRun.{IsByteRun}
use Rattle.orc_rle.specs.Seeking.{SeeksBits}
use Rattle.orc_rle.specs.Stream.{RunsLeft}
use Rattle.orc_positions.specs.Position.{Begins, IsWriterPosition}

-- the position names boolean n of `total` ones: eight for each byte of the runs that is skipped, and 0 to 8 more
pub record BeginsBits (bytes : List ℕ) (total offset skip bits n : ℕ) : Type 0 where
  pub whole : ℕ
  pub begins : Begins IsByteRun bytes offset skip whole
  pub few : bits ≤ 8
  pub number_is : n ≡ 8 * whole + bits
  pub there : n ≤ total

-- the digits of the bytes that are left, without the skipped ones, are those of the booleans and fewer than eight to
-- spare
pub record BitsPending (pending rest : List ℕ) (bits : ℕ) (all : List Bool) : Type 0 where
  pub packed : List ℕ
  pub runs : RunsLeft IsByteRun pending rest packed
  pub spare : List ℕ
  pub few : length spare < 8
  pub digits_are : drop bits (digits 8 packed) ≡ map digit all ++ spare

-- the position can be sought, and from there on come these booleans
pub record BitsGoOn (bytes : List ℕ) (offset skip bits : ℕ) (all : List Bool) : Type 0 where
  pub at : ℕ
  pub left : List ℕ
  pub seeks : SeeksBits bytes offset skip bits at left
  pub goes_on : BitsPending left (drop at bytes) bits all

-- the position that a writer gives to boolean n of `total` ones
pub record IsWriterBitPosition (bytes : List ℕ) (total offset skip bits n : ℕ) : Type 0 where
  pub place : IsWriterPosition IsByteRun bytes offset skip (n / 8)
  pub bits_are : bits ≡ n % 8
  pub there : n ≤ total

-- the bytes are a stream of `total` booleans
abbrev pub HasBooleans : List ℕ → ℕ → Type 0
HasBooleans bytes total = (values : List Bool) × IsBitStream bytes values × (length values ≡ total)
