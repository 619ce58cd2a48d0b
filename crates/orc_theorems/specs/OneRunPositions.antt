-- Positions from which at most one run is read (ORC specification, "Row Group Index").
use Rattle.std.specs.Prelude.{◌≡◌, ℕ, ◌+◌, ◌<◌, ◌≤◌, Some, List, [], ◌++◌, length, drop, slice_get}
use Rattle.orc_rle.specs.ByteRun.{IsByteRun}
use Rattle.orc_rle.specs.Seeking.{bytes_needed}
use Rattle.orc_positions.specs.Position.{IsWriterPosition}
use Rattle.orc_positions.specs.BitPosition.{IsWriterBitPosition, HasBooleans}
use Rattle.orc_wire.specs.declared.row_index.RowIndexEntry.{RowIndexEntry}
use Rattle.orc_wire.specs.declared.row_index.RowIndexMsg.{RowIndexMsg}
use Rattle.orc_wire.specs.declared.stripe_footer.StripeFooter.{StripeFooter}
use Rattle.orc_values.specs.Cells.{Cell, values}
use Rattle.orc_values.specs.Columns.{cells}
use Rattle.orc_values.specs.Shapes.{Shape, width, shape_at}
use Rattle.orc_column_reader.specs.Numbers.{is_run}
use Rattle.orc_column_reader.specs.Stripe.{Streams, HasFooter, columns_of, in_present}
use Rattle.orc_row_groups.specs.Bounds.{before_group}
use Rattle.orc_row_index.specs.Positions.{RunPosition, BitsPosition, octets_position}
use Rattle.orc_row_groups.specs.Counts.{octets}
use Rattle.orc_row_index.specs.RunStreams.{RunStream, no_stream, bit_runs, byte_runs, number_runs, present_runs, value_runs, value_bytes}
use Rattle.orc_row_groups.specs.Groups.{starts_of_groups, bounds_of}
use Rattle.orc_stripe_reader.specs.Opened.{Opened}
use Rattle.orc_stripe_reader.specs.RowIndexes.{HasIndex}
use Rattle.orc_tail.specs.Stripes.{stripe_at, stripe_bytes}
use Rattle.orc_file_reader.specs.FileRows.{opened_stripe, cut_rows}
use Rattle.orc_tail.specs.declared.tail.Tail.{Tail}
use Rattle.orc_check.specs.Findings.{rows_at}

-- What `seek` promises about the count of runs that it reads, if `need` values are needed from an offset on. The
-- count rises by at most `need`, and by at most one if the run at the offset has `need` values.
pub record SeekCounts {A : Type 0} (is_run : List ℕ → List A → Type 0) (bytes : List ℕ)
    (offset need old new : ℕ) : Type 0 where
  pub count : new ≤ old + need
  pub one_run : (front rest : List ℕ) (v : List A)
      → is_run front v
      → drop offset bytes ≡ front ++ rest
      → need ≤ length v
      → new ≤ old + 1

-- the position that a writer records for value n of a stream of integers or bytes, from which `seek` reads at most
-- one run
pub record NeedsOneRun {A : Type 0} (is_run : List ℕ → List A → Type 0) (bytes : List ℕ)
    (offset skip n : ℕ) : Type 0 where
  pub place : IsWriterPosition is_run bytes offset skip n
  pub one_run : (old new : ℕ) → SeekCounts is_run bytes offset skip old new → new ≤ old + 1

-- the position that a writer records for value n of a stream of booleans, from which `seek` reads at most one run
pub record NeedsOneBitRun (bytes : List ℕ) (offset skip bits n : ℕ) : Type 0 where
  pub total : ℕ
  pub has : HasBooleans bytes total
  pub place : IsWriterBitPosition bytes total offset skip bits n
  pub one_run : (old new : ℕ) → SeekCounts IsByteRun bytes offset (bytes_needed skip bits) old new → new ≤ old + 1

-- The position that a writer records for value n of a stream, from which `seek` reads at most one run. A column
-- without such a stream has no positions.
abbrev pub IsOneRunPosition : RunStream → ℕ → List ℕ → Type 0
IsOneRunPosition no_stream n positions = positions ≡ []
IsOneRunPosition (bit_runs stream) n positions = BitsPosition (NeedsOneBitRun stream) n positions
IsOneRunPosition (byte_runs stream) n positions = RunPosition (NeedsOneRun IsByteRun stream) n positions
IsOneRunPosition (number_runs version sign stream) n positions =
    RunPosition (NeedsOneRun (is_run version sign) stream) n positions

-- A column's positions after these cells. From each of them in a stream of runs `seek` reads at most one run. Between
-- that of PRESENT and that of the other stream of runs comes that of the column's plain bytes, if it has any.
pub record AreOneRunPositions (s : Shape) (x : Streams) (before : List Cell) (positions : List ℕ) : Type 0 where
  pub first : List ℕ
  pub last : List ℕ
  pub parts : positions ≡ first ++ (octets_position (value_bytes s x) (octets before) ++ last)
  pub present_position : IsOneRunPosition (present_runs (in_present x)) (length before) first
  pub value_position : IsOneRunPosition (value_runs s x) (length (values before)) last

-- Each entry of column c's row index, as it is read from a stripe of these rows, has such positions: those after the
-- column's cells before the entry's group.
abbrev pub ColumnReadsOneRun : Opened → List Cell → ℕ → Type 0
ColumnReadsOneRun view rows c =
    (message : RowIndexMsg) → HasIndex view.footer view.bytes c message
    → (g : ℕ) (entry : RowIndexEntry) → slice_get message.entries g ≡ Some entry
    → AreOneRunPositions (shape_at view.schema c) (columns_of view.footer view.bytes c)
    (before_group (cells view.schema c rows) (bounds_of view.schema c rows (starts_of_groups view.stride (length rows))) g)
    entry.positions

-- From each position in each row index of a file with these rows `seek` reads at most one run.
abbrev pub ReadsOneRun : List ℕ → Tail → List Cell → Type 0
ReadsOneRun bytes tail rows =
    0 < tail.stride → (n : ℕ) → n < length tail.stripes → (footer : StripeFooter)
    → HasFooter tail.schema (stripe_at tail.stripes n) (stripe_bytes (stripe_at tail.stripes n) bytes) footer
    → (c : ℕ) → c < width tail.schema
    → ColumnReadsOneRun (opened_stripe tail n (stripe_bytes (stripe_at tail.stripes n) bytes) footer)
    (rows_at (cut_rows tail.stripes rows) n) c
