-- Streams of a column that are read from their positions on (ORC specification, "Row Group Index").
use Rattle.std.specs.Prelude.{◌≡◌, ℕ, ◌≤◌, ℤ, Bool, List, length, drop, get_or}
use Rattle.orc_rle.specs.BitStream.{IsBitStream}
use Rattle.orc_rle.specs.ByteRun.{IsByteRun}
use Rattle.orc_rle.specs.Stream.{IsStream}
use Rattle.orc_column_reader.specs.Bits.{BitsLeft}
use Rattle.orc_column_reader.specs.Bytes.{BytesLeft}
use Rattle.orc_column_reader.specs.Numbers.{is_run, NumbersLeft}
use Rattle.orc_row_index.specs.Positions.{IsPosition, reader}
use Rattle.orc_row_index.specs.RunStreams.{RunStream, no_stream, bit_runs, byte_runs, number_runs}
use Rattle.orc_group_reader.specs.Entering.{AgreeFrom}
use Rattle.orc_group_reader.specs.declared.entered.Entered.{Entered}
use Rattle.orc_group_reader.specs.declared.entered.Entered.TheVariants as entered

-- two streams of runs of the same kind, whose bytes are the same from an offset on
abbrev pub RunsAgree : ℕ → RunStream → RunStream → Type 0
RunsAgree offset no_stream no_stream = Unit {0}
RunsAgree offset (bit_runs a) (bit_runs b) = AgreeFrom offset a b
RunsAgree offset (byte_runs a) (byte_runs b) = AgreeFrom offset a b
RunsAgree offset (number_runs w t a) (number_runs v s b) = (w ≡ v) × (t ≡ s) × AgreeFrom offset a b
RunsAgree offset _ _ = ⊥

-- the values of a stream from value n on are left
abbrev pub LeftFrom : RunStream → ℕ → Entered → Type 0
LeftFrom no_stream n entered.Nothing = Unit {0}
LeftFrom (bit_runs b) n (entered.Bits r) =
    (all : List Bool) → IsBitStream b all → n ≤ length all → BitsLeft r (drop n all)
LeftFrom (byte_runs b) n (entered.Bytes r) =
    (all : List ℕ) → IsStream IsByteRun b all → BytesLeft r (drop n all)
LeftFrom (number_runs v s b) n (entered.Numbers r) =
    (all : List ℤ) → IsStream (is_run v s) b all → NumbersLeft r (drop n all)
LeftFrom _ n _ = ⊥

-- the bytes are a stream, and one of booleans has at least n
abbrev pub HasSome : RunStream → ℕ → Type 0
HasSome no_stream n = Unit {0}
HasSome (bit_runs b) n = (all : List Bool) × IsBitStream b all × (n ≤ length all)
HasSome (byte_runs b) n = (all : List ℕ) × IsStream IsByteRun b all
HasSome (number_runs v s b) n = (all : List ℤ) × IsStream (is_run v s) b all

-- For every stream that agrees from the position's offset on and in which the position names value n, its values from
-- n on are left.
abbrev pub Enters : RunStream → List ℕ → Entered → Type 0
Enters stream positions e =
    (other : RunStream) (n : ℕ) → IsPosition reader other n positions
    → RunsAgree (get_or positions 0 0) stream other
    → LeftFrom other n e

-- no stream that agrees from the position's offset on has the value which the position names
abbrev pub NeverEnters : RunStream → List ℕ → Type 0
NeverEnters stream positions =
    (other : RunStream) (n : ℕ) → IsPosition reader other n positions
    → RunsAgree (get_or positions 0 0) stream other
    → HasSome other n → ⊥
