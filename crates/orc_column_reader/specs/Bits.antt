-- Streams of booleans (ORC specification, "Boolean Run Length Encoding").
use Rattle.std.specs.Prelude.{◌≡◌, ◌<◌, ◌++◌, ℕ, Bool, List, length, map}
use Rattle.orc_bits.specs.Packed.{bits, digits}
use Rattle.orc_rle.specs.BitStream.{digit}
use Rattle.orc_column_reader.specs.declared.bits.Bits.{Bits}
use Rattle.orc_column_reader.specs.Bytes.{BytesLeft, BytesFirst}

-- The booleans that a reader still has to give are the digits that are left of the byte that it holds, and those of
-- the bytes after it, except for fewer than eight spare ones at the end.
pub record BitsLeft (r : Bits) (all : List Bool) : Type 0 where
  pub packed : List ℕ
  pub spelled : BytesLeft r.bytes packed
  pub spare : List ℕ
  pub few : length spare < 8
  pub digits_are : bits r.held r.left ++ digits 8 packed ≡ map digit all ++ spare

-- the booleans that a reader gives first, whatever follows
pub record BitsFirst (r : Bits) (bools : List Bool) : Type 0 where
  pub packed : List ℕ
  pub bytes : BytesFirst r.bytes packed
  pub more : List ℕ
  pub digits_are : bits r.held r.left ++ digits 8 packed ≡ map digit bools ++ more
