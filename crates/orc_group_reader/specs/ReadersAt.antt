-- Readers that are at their positions (ORC specification, "Row Group Index", "Column Encodings").
use Rattle.std.specs.Prelude.{◌≡◌, ℕ, zero, suc, ◌-◌, Option, Some, None, List, [], ◌∷◌, length, take, drop, slice_get}
use Rattle.orc_rle.specs.ByteRun.{IsByteRun}
use Rattle.orc_rle.specs.Seeking.{Seeks, SeeksBits}
use Rattle.orc_rle.specs.declared.sign.Rle.{Rle}
use Rattle.orc_rle.specs.declared.sign.Sign.{Sign}
use Rattle.orc_values.specs.Shapes.{Shape, width, shape_at}
use Rattle.orc_wire.specs.declared.row_index.RowIndexEntry.{RowIndexEntry}
use Rattle.orc_column_reader.specs.Numbers.{is_run}
use Rattle.orc_column_reader.specs.Stripe.{Streams, in_present}
use Rattle.orc_values.specs.Limits.{most_cells}
use Rattle.orc_column_reader.specs.declared.bits.Bits.{Bits}
use Rattle.orc_column_reader.specs.declared.bytes.RunLengthBytes.{RunLengthBytes}
use Rattle.orc_column_reader.specs.declared.column.ColumnReader.{ColumnReader}
use Rattle.orc_column_reader.specs.declared.column.ValueSource.{ValueSource}
use Rattle.orc_column_reader.specs.declared.numbers.Numbers.{Numbers}
use Rattle.orc_row_index.specs.RunStreams.{RunStream, no_stream, bit_runs, byte_runs, number_runs, value_runs, value_bytes}
use Rattle.orc_group_reader.specs.Columns.{CutsOctets, IsSource, EntriesOf}
use Rattle.orc_group_reader.specs.Refusals.{present_size, positions_size}
use Rattle.orc_group_reader.specs.RunsPassed.{IsLastRun}
use Rattle.orc_group_reader.specs.declared.entered.Entered.{Entered}
use Rattle.orc_group_reader.specs.declared.entered.Entered.TheVariants as entered

-- A reader of integers at a position: it has the stream's bytes, has passed the runs from the offset on that the
-- position needs, and has the start of the last of these.
pub record NumbersAt (v : Rle) (s : Sign) (bytes : List ℕ) (offset skip : ℕ) (r : Numbers) : Type 0 where
  pub version_is : r.version ≡ v
  pub sign_is : r.sign ≡ s
  pub bytes_are : r.bytes.now ≡ bytes
  pub seeks : Seeks (is_run v s) bytes offset skip skip r.at (drop r.used r.run.values)
  pub last : IsLastRun (is_run v s) bytes offset r.start r.at

-- a reader of bytes in runs at a position
pub record BytesAt (bytes : List ℕ) (offset skip : ℕ) (r : RunLengthBytes) : Type 0 where
  pub bytes_are : r.bytes.now ≡ bytes
  pub seeks : Seeks IsByteRun bytes offset skip skip r.at (drop r.used r.run.values)
  pub last : IsLastRun IsByteRun bytes offset r.start r.at

-- if digits are skipped, the reader holds the first of the bytes that are left, without these digits
abbrev pub HoldsFirst : List ℕ → ℕ → Bits → Type 0
HoldsFirst left zero r = (r.left ≡ 0) × (drop r.bytes.used r.bytes.run.values ≡ left)
HoldsFirst [] (suc bits) r = ⊥
HoldsFirst (byte ∷ more) (suc bits) r =
    (r.held ≡ byte) × (r.left ≡ 8 - suc bits) × (drop r.bytes.used r.bytes.run.values ≡ more)

-- a reader of booleans at a position
pub record BitsAt (bytes : List ℕ) (offset skip bits : ℕ) (r : Bits) : Type 0 where
  pub bytes_are : r.bytes.bytes.now ≡ bytes
  pub left : List ℕ
  pub seeks : SeeksBits bytes offset skip bits r.bytes.at left
  pub holds : HoldsFirst left bits r
  pub last : IsLastRun IsByteRun bytes offset r.bytes.start r.bytes.at

-- a stream of runs from its positions on, which are as many numbers as a position of it has
abbrev pub StreamAt : RunStream → List ℕ → Entered → Type 0
StreamAt no_stream positions entered.Nothing = positions ≡ []
StreamAt (bit_runs b) positions (entered.Bits r) =
    (offset : ℕ) × (skip : ℕ) × (bits : ℕ) × (positions ≡ offset ∷ skip ∷ bits ∷ []) × BitsAt b offset skip bits r
StreamAt (byte_runs b) positions (entered.Bytes r) =
    (offset : ℕ) × (skip : ℕ) × (positions ≡ offset ∷ skip ∷ []) × BytesAt b offset skip r
StreamAt (number_runs v s b) positions (entered.Numbers r) =
    (offset : ℕ) × (skip : ℕ) × (positions ≡ offset ∷ skip ∷ []) × NumbersAt v s b offset skip r
StreamAt _ positions _ = ⊥

-- PRESENT from its positions on; without bytes it has none
abbrev pub MarksAt : List ℕ → List ℕ → Option Bits → Type 0
MarksAt [] positions None = positions ≡ []
MarksAt [] positions (Some bits) = ⊥
MarksAt (b ∷ bs) positions None = ⊥
MarksAt (b ∷ bs) positions (Some bits) = StreamAt (bit_runs (b ∷ bs)) positions (entered.Bits bits)

-- the source of a column's values, from the positions of its streams besides PRESENT on; its dictionary is read whole
pub record SourceAt (s : Shape) (x : Streams) (c : ℕ) (positions : List ℕ) (source : ValueSource) : Type 0 where
  pub own : Entered
  pub rest : List ℕ
  pub last : List ℕ
  pub cut : CutsOctets (value_bytes s x) positions rest last
  pub entered : StreamAt (value_runs s x) last own
  pub source_is : IsSource own rest source
  pub entries : EntriesOf s x source.entries
  pub room : source.room ≡ most_cells
  pub column : source.column ≡ c

-- the reader of a column alone, from its positions on, which are as many as its streams have
pub record ColumnAt (s : Shape) (x : Streams) (c : ℕ) (positions : List ℕ) (reader : ColumnReader) : Type 0 where
  pub counted : length positions ≡ positions_size s x
  pub marks : MarksAt (in_present x) (take (present_size x) positions) reader.present
  pub source : SourceAt s x c (drop (present_size x) positions) reader.source

-- the readers of all columns, one for each, from the positions of its entry on
pub record ReadersAt (s : Shape) (y : ℕ → Streams) (entries : List RowIndexEntry)
    (readers : List ColumnReader) : Type 0 where
  pub listed : length entries ≡ width s
  pub counted : length readers ≡ width s
  pub column : (c : ℕ) (entry : RowIndexEntry) (reader : ColumnReader)
      → slice_get entries c ≡ Some entry
      → slice_get readers c ≡ Some reader
      → ColumnAt (shape_at s c) (y c) c entry.positions reader
