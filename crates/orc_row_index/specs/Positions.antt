-- The positions of a column after some of its cells, in the order of its streams (ORC specification, "Row Group
-- Index").
use Rattle.std.specs.Prelude.{◌≡◌, ℕ, Option, Some, None, List, [], ◌∷◌, ◌++◌, length}
use Rattle.orc_rle.specs.ByteRun.{IsByteRun}
use Rattle.orc_positions.specs.Position.{Begins, IsWriterPosition}
use Rattle.orc_positions.specs.BitPosition.{BeginsBits, IsWriterBitPosition}
use Rattle.orc_values.specs.Cells.{Cell, values}
use Rattle.orc_values.specs.Shapes.{Shape}
use Rattle.orc_column_reader.specs.Numbers.{is_run}
use Rattle.orc_column_reader.specs.Stripe.{Streams, in_present}
use Rattle.orc_row_index.specs.RunStreams.{RunStream, no_stream, bit_runs, byte_runs, number_runs, present_runs, value_runs, value_bytes}
use Rattle.orc_row_groups.specs.Counts.{octets}

-- A position among runs is two numbers: an offset, at which a run begins or the stream ends, and how many of the
-- values from there on are skipped.
abbrev pub RunPosition : (ℕ → ℕ → ℕ → Type 0) → ℕ → List ℕ → Type 0
RunPosition is n positions = (offset : ℕ) × (skip : ℕ) × (positions ≡ offset ∷ skip ∷ []) × is offset skip n

-- A position among booleans is three numbers: an offset and a number of bytes, as for the bytes that the booleans are
-- packed in, and then how many booleans are skipped.
abbrev pub BitsPosition : (ℕ → ℕ → ℕ → ℕ → Type 0) → ℕ → List ℕ → Type 0
BitsPosition is n positions =
    (offset : ℕ) × (skip : ℕ) × (bits : ℕ) × (positions ≡ offset ∷ skip ∷ bits ∷ []) × is offset skip bits n

-- for a reader, any position from which it goes on; a writer's position is the one that this writer stores
pub data Whose : Type 0 where
  reader : Whose
  writer : Whose

-- The position names value n of the stream. The bytes of a stream of booleans don't determine how many it has, since
-- there may be spare digits. So n is taken for that number here; that the stream has n booleans follows from the
-- column's cells.
abbrev pub IsPosition : Whose → RunStream → ℕ → List ℕ → Type 0
IsPosition whose no_stream n positions = positions ≡ []
IsPosition reader (bit_runs stream) n positions = BitsPosition (BeginsBits stream n) n positions
IsPosition writer (bit_runs stream) n positions = BitsPosition (IsWriterBitPosition stream n) n positions
IsPosition reader (byte_runs stream) n positions = RunPosition (Begins IsByteRun stream) n positions
IsPosition writer (byte_runs stream) n positions = RunPosition (IsWriterPosition IsByteRun stream) n positions
IsPosition reader (number_runs version sign stream) n positions =
    RunPosition (Begins (is_run version sign) stream) n positions
IsPosition writer (number_runs version sign stream) n positions =
    RunPosition (IsWriterPosition (is_run version sign) stream) n positions

-- how many numbers a position of the stream has
abbrev pub position_size : RunStream → ℕ
position_size no_stream = 0
position_size (bit_runs stream) = 3
position_size (byte_runs stream) = 2
position_size (number_runs version sign stream) = 2

-- a position in plain bytes is one number: how many bytes come before
abbrev pub octets_position : Option (List ℕ) → ℕ → List ℕ
octets_position None n = []
octets_position (Some stream) n = n ∷ []

-- how many numbers a position in plain bytes has: one, if there is such a stream
abbrev pub octets_size : Option (List ℕ) → ℕ
octets_size None = 0
octets_size (Some stream) = 1

-- The positions of an entry after these cells: that in PRESENT, which counts all of them, that in plain bytes, and
-- that in the runs besides PRESENT, which counts the cells that are not null.
pub record ArePositions (whose : Whose) (present : RunStream) (content : Option (List ℕ)) (own : RunStream)
    (before : List Cell) (positions : List ℕ) : Type 0 where
  pub first : List ℕ
  pub last : List ℕ
  pub parts : positions ≡ first ++ (octets_position content (octets before) ++ last)
  pub present_position : IsPosition whose present (length before) first
  pub value_position : IsPosition whose own (length (values before)) last

-- the positions of a column from which a reader goes on with the cells that come next
abbrev pub AreReadPositions : Shape → Streams → List Cell → List ℕ → Type 0
AreReadPositions s x before positions =
    ArePositions reader (present_runs (in_present x)) (value_bytes s x) (value_runs s x) before positions

-- the positions of a column that a writer stores
abbrev pub AreWrittenPositions : Shape → Streams → List Cell → List ℕ → Type 0
AreWrittenPositions s x before positions =
    ArePositions writer (present_runs (in_present x)) (value_bytes s x) (value_runs s x) before positions

-- a reader's positions after those of PRESENT
abbrev pub ValuePositions : Option (List ℕ) → RunStream → List Cell → List ℕ → Type 0
ValuePositions content own before positions =
    (last : List ℕ)
    × (positions ≡ octets_position content (octets before) ++ last)
    × IsPosition reader own (length (values before)) last

-- such numbers were put after the old ones
abbrev pub AddsPositions : (List ℕ → Type 0) → List ℕ → List ℕ → Type 0
AddsPositions are old new = (more : List ℕ) × are more × (new ≡ old ++ more)
