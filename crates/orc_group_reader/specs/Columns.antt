-- Columns that are read from their positions on (ORC specification, "Row Group Index", "Column Encodings").
use Rattle.std.specs.Prelude.{◌≡◌, ℕ, ◌≤◌, Bool, true, false, Option, Some, None, List, [], ◌∷◌, ◌++◌, length, map, drop, get_or}
use Rattle.orc_values.specs.Cells.{Cell, is_value, parts, pairs_in, values}
use Rattle.orc_values.specs.Shapes.{Shape, scalar, list_of, map_of, struct_of}
use Rattle.std.specs.declared.vec.Vec.{Vec}
use Rattle.std.specs.declared.alloc.Global.{Global}
use Rattle.orc_values.specs.declared.kind.Scalar.{Scalar}
use Rattle.orc_values.specs.declared.kind.Scalar.TheVariants as kind
use Rattle.orc_column_reader.specs.Columns.{MarksLeft, ScalarLeft, entry_bytes}
use Rattle.orc_column_reader.specs.Numbers.{NumbersLeft}
use Rattle.orc_column_reader.specs.Spellings.{size}
use Rattle.orc_column_reader.specs.Stripe.{Streams, IsColumn, IsDictionary, SpellsValues, has_dictionary, in_present, in_length, in_dictionary}
use Rattle.orc_values.specs.Limits.{most_cells}
use Rattle.orc_column_reader.specs.declared.bits.Bits.{Bits}
use Rattle.orc_column_reader.specs.declared.column.ColumnReader.{ColumnReader}
use Rattle.orc_column_reader.specs.declared.entry.Entry.{Entry}
use Rattle.orc_column_reader.specs.declared.column.ValueSource.{ValueSource}
use Rattle.orc_row_index.specs.Positions.{AreReadPositions, IsPosition, reader}
use Rattle.orc_row_groups.specs.Counts.{octets}
use Rattle.orc_row_index.specs.Walking.{HasOctets}
use Rattle.orc_row_index.specs.RunStreams.{bit_runs, present_runs, value_runs, value_bytes}
use Rattle.orc_group_reader.specs.Entering.{AgreeFrom}
use Rattle.orc_group_reader.specs.Streams.{RunsAgree, Enters}
use Rattle.orc_group_reader.specs.declared.entered.Entered.{Entered}
use Rattle.orc_group_reader.specs.declared.entered.Entered.TheVariants as entered

-- the marks from the positions of PRESENT on; without bytes it has none
abbrev pub EntersMarks : List ℕ → List ℕ → Option Bits → Type 0
EntersMarks [] positions None = positions ≡ []
EntersMarks [] positions (Some bits) = ⊥
EntersMarks (b ∷ bs) positions None = ⊥
EntersMarks (b ∷ bs) positions (Some bits) = Enters (bit_runs (b ∷ bs)) positions (entered.Bits bits)

-- plain bytes from their position on, which lies within them, and the positions after it
abbrev pub CutsOctets : Option (List ℕ) → List ℕ → List ℕ → List ℕ → Type 0
CutsOctets None positions rest last = last ≡ positions
CutsOctets (Some bytes) positions rest last =
    (offset : ℕ) × (positions ≡ offset ∷ last) × (rest ≡ drop offset bytes) × (offset ≤ length bytes)

-- the source has the stream that is read from its positions on, and the plain bytes
abbrev pub IsSource : Entered → List ℕ → ValueSource → Type 0
IsSource entered.Nothing rest source = source.octets.rest.now ≡ rest
IsSource (entered.Bits bits) rest source = (source.bits ≡ bits) × (source.octets.rest.now ≡ rest)
IsSource (entered.Bytes bytes) rest source = (source.bytes ≡ bytes) × (source.octets.rest.now ≡ rest)
IsSource (entered.Numbers numbers) rest source = (source.numbers ≡ numbers) × (source.octets.rest.now ≡ rest)

-- plain bytes without the first n, if a column has them
abbrev pub IsWithoutFront : Option (List ℕ) → ℕ → List ℕ → Type 0
IsWithoutFront None n rest = Unit {0}
IsWithoutFront (Some content) n rest = rest ≡ drop n content

-- the entries of the dictionary, if the column has one
abbrev pub HasDictionaryEntries : Bool → Streams → Option (Vec Entry Global) → Type 0
HasDictionaryEntries true x (Some entries) = IsDictionary x (map entry_bytes entries.items)
HasDictionaryEntries true x None = ⊥
HasDictionaryEntries false x (Some entries) = ⊥
HasDictionaryEntries false x None = Unit {0}

-- for a column of texts, the entries of the dictionary, if it has one
abbrev pub ScalarEntries : Scalar → Streams → Option (Vec Entry Global) → Type 0
ScalarEntries kind.String x entries = HasDictionaryEntries (has_dictionary x) x entries
ScalarEntries _ x entries = Unit {0}

-- the entries of a column's dictionary, if it has one
abbrev pub EntriesOf : Shape → Streams → Option (Vec Entry Global) → Type 0
EntriesOf (scalar k o) x entries = ScalarEntries k x entries
EntriesOf _ x entries = Unit {0}

-- the plain bytes agree from an offset on
abbrev pub OctetsAgree : ℕ → Option (List ℕ) → Option (List ℕ) → Type 0
OctetsAgree offset None None = Unit {0}
OctetsAgree offset None (Some b) = ⊥
OctetsAgree offset (Some a) None = ⊥
OctetsAgree offset (Some a) (Some b) = AgreeFrom offset a b

-- The positions are right in streams x after these cells. Streams y have the same bytes from the positions' offsets
-- on, and the same encoding and dictionary.
pub record AgreeFromPositions (s : Shape) (x y : Streams) (before : List Cell) (positions : List ℕ) : Type 0 where
  pub places : AreReadPositions s x before positions
  pub encoded : y.encoding ≡ x.encoding
  pub present_same : RunsAgree (get_or places.first 0 0) (present_runs (in_present y)) (present_runs (in_present x))
  pub content_same : OctetsAgree (octets before) (value_bytes s y) (value_bytes s x)
  pub own_same : RunsAgree (get_or places.last 0 0) (value_runs s y) (value_runs s x)
  pub dictionary_same : has_dictionary x ≡ true → (in_length y ≡ in_length x) × (in_dictionary y ≡ in_dictionary x)

-- Streams x store cells before and after the positions. Streams y are read from these positions on.
pub record Turns (s : Shape) (x y : Streams) (before after : List Cell) (positions : List ℕ) : Type 0 where
  pub spelled : IsColumn s x (before ++ after)
  pub agree : AgreeFromPositions s x y before positions

-- the same for the streams besides PRESENT
pub record OwnTurns (s : Shape) (x y : Streams) (before after : List Cell) (last : List ℕ) : Type 0 where
  pub spelled : SpellsValues s x (values before ++ values after)
  pub place : IsPosition reader (value_runs s x) (length (values before)) last
  pub encoded : y.encoding ≡ x.encoding
  pub there : HasOctets (value_bytes s x) (octets before)
  pub content_same : OctetsAgree (octets before) (value_bytes s y) (value_bytes s x)
  pub own_same : RunsAgree (get_or last 0 0) (value_runs s y) (value_runs s x)
  pub dictionary_same : has_dictionary x ≡ true → (in_length y ≡ in_length x) × (in_dictionary y ≡ in_dictionary x)

-- the values that are left in the streams of a column alone: for lists and maps their sizes, for structs nothing
abbrev pub EnteredValuesLeft : Shape → ValueSource → List Cell → Type 0
EnteredValuesLeft (scalar k o) source vs = ScalarLeft k source vs
EnteredValuesLeft (list_of s o) source vs =
    NumbersLeft source.numbers (map (λ v. size (parts v)) vs) × (source.room ≡ most_cells)
EnteredValuesLeft (map_of k v o) source vs =
    NumbersLeft source.numbers (map (λ m. size (pairs_in m)) vs) × (source.room ≡ most_cells)
EnteredValuesLeft (struct_of fs o) source vs = Unit {0}

-- the cells that the reader of a column alone still has to give
pub record ColumnIsLeft (s : Shape) (reader : ColumnReader) (column : List Cell) : Type 0 where
  pub marks : MarksLeft reader.present (map is_value column)
  pub spelled : EnteredValuesLeft s reader.source (values column)
