-- Positions in streams that may be invalid after them (ORC specification, "Row Group Index", "Column Encodings").
use Rattle.std.specs.Prelude.{◌≡◌, ℕ, ◌+◌, ◌*◌, ◌≤◌, Bool, true, false, List, [], ◌++◌, length, map}
use Rattle.orc_rle.specs.ByteRun.{IsByteRun}
use Rattle.orc_rle.specs.Stream.{IsStream}
use Rattle.orc_values.specs.Cells.{Cell, is_value, parts, pairs_in, values}
use Rattle.orc_values.specs.Shapes.{Shape, scalar, list_of, map_of, struct_of}
use Rattle.orc_values.specs.declared.kind.Scalar.{Scalar}
use Rattle.orc_values.specs.declared.kind.Scalar.TheVariants as kind
use Rattle.orc_column_reader.specs.Faults.{lengths_of}
use Rattle.orc_column_reader.specs.Needs.{MarksBegin}
use Rattle.orc_column_reader.specs.Numbers.{is_run}
use Rattle.orc_column_reader.specs.RunFaults.{IntegersFirst}
use Rattle.orc_column_reader.specs.Spellings.{size, concatenated}
use Rattle.orc_column_reader.specs.Stripe.{Streams, has_dictionary, in_present, in_data}
use Rattle.orc_row_index.specs.Positions.{RunPosition, BitsPosition, octets_position}
use Rattle.orc_row_groups.specs.Counts.{octets}
use Rattle.orc_row_index.specs.RunStreams.{RunStream, no_stream, bit_runs, byte_runs, number_runs, present_runs, value_runs, value_bytes}

-- The position leads to value n, whatever comes then: its offset is the start of a run or the stream's end, and n is
-- the number of values before the offset plus `skip`.
pub record LeadsTo {A : Type 0} (is_run : List ℕ → List A → Type 0) (bytes : List ℕ) (offset skip n : ℕ) : Type 0 where
  pub front : List ℕ
  pub rest : List ℕ
  pub before : List A
  pub parts : bytes ≡ front ++ rest
  pub stream : IsStream is_run front before
  pub offset_is : offset ≡ length front
  pub number_is : n ≡ length before + skip

-- the position leads to boolean n: eight for each byte before the offset or skipped, and 0 to 8 more
pub record LeadsToBit (bytes : List ℕ) (offset skip bits n : ℕ) : Type 0 where
  pub whole : ℕ
  pub byte : LeadsTo IsByteRun bytes offset skip whole
  pub few : bits ≤ 8
  pub number_is : n ≡ 8 * whole + bits

-- the positions lead to value n of the stream
abbrev pub LeadsIn : RunStream → ℕ → List ℕ → Type 0
LeadsIn no_stream n positions = positions ≡ []
LeadsIn (bit_runs stream) n positions = BitsPosition (LeadsToBit stream) n positions
LeadsIn (byte_runs stream) n positions = RunPosition (LeadsTo IsByteRun stream) n positions
LeadsIn (number_runs version sign stream) n positions = RunPosition (LeadsTo (is_run version sign) stream) n positions

-- as many byte strings as there are values come first in LENGTH and DATA, with `count` bytes in all
abbrev pub StringsBegin : Streams → List Cell → ℕ → Type 0
StringsBegin x vs count =
    (strings : List (List ℕ)) × (rest : List ℕ)
    × (length strings ≡ length vs)
    × (length (concatenated strings) ≡ count)
    × IntegersFirst (lengths_of x) (map size strings)
    × (in_data x ≡ concatenated strings ++ rest)

-- texts in a dictionary have no plain bytes
abbrev pub TextsBegin : Bool → Streams → List Cell → ℕ → Type 0
TextsBegin true x vs count = Unit {0}
TextsBegin false x vs count = StringsBegin x vs count

-- the values come first in plain bytes, with `count` bytes in all, if the kind has plain bytes
abbrev pub ScalarsBegin : Scalar → Streams → List Cell → ℕ → Type 0
ScalarsBegin kind.Binary x vs count = StringsBegin x vs count
ScalarsBegin kind.String x vs count = TextsBegin (has_dictionary x) x vs count
ScalarsBegin _ x vs count = Unit {0}

-- the sizes of the values come first in the column's streams: of byte strings and texts, which have `count` bytes in
-- all, and of lists and maps
abbrev pub SizesBegin : Shape → Streams → List Cell → ℕ → Type 0
SizesBegin (scalar k o) x vs count = ScalarsBegin k x vs count
SizesBegin (list_of s o) x vs count = IntegersFirst (lengths_of x) (map (λ v. size (parts v)) vs)
SizesBegin (map_of k v o) x vs count = IntegersFirst (lengths_of x) (map (λ m. size (pairs_in m)) vs)
SizesBegin (struct_of fs o) x vs count = Unit {0}

-- The positions are those of a column after these cells, whatever its streams have after them.
pub record IsBehind (s : Shape) (x : Streams) (before : List Cell) (positions : List ℕ) : Type 0 where
  pub first : List ℕ
  pub last : List ℕ
  pub parts : positions ≡ first ++ (octets_position (value_bytes s x) (octets before) ++ last)
  pub present_position : LeadsIn (present_runs (in_present x)) (length before) first
  pub value_position : LeadsIn (value_runs s x) (length (values before)) last
  pub marks : MarksBegin (in_present x) (map is_value before)
  pub sizes : SizesBegin s x (values before) (octets before)
