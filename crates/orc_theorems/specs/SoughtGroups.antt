-- What seeking the positions of a row group finds (ORC specification, "Row Group Index").
use Rattle.std.specs.Prelude.{◌≡◌, ◌⊎◌, ℕ, ℤ, ◌%◌, ◌<◌, ◌≤◌, Bool, Option, List, [], ◌∷◌, length, drop}
use Rattle.orc_rle.specs.ByteRun.{IsByteRun}
use Rattle.orc_rle.specs.BitStream.{IsBitStream}
use Rattle.orc_rle.specs.Stream.{IsStream, RunsLeft}
use Rattle.orc_positions.specs.BitPosition.{BitsPending}
use Rattle.orc_wire.specs.declared.row_index.RowIndexMsg.{RowIndexMsg}
use Rattle.orc_wire.specs.declared.stripe_footer.StripeFooter.{StripeFooter}
use Rattle.orc_values.specs.Cells.{Cell, values}
use Rattle.orc_values.specs.Columns.{cells}
use Rattle.orc_values.specs.Shapes.{Shape, width, shape_at}
use Rattle.orc_column_reader.specs.Numbers.{is_run}
use Rattle.orc_column_reader.specs.Stripe.{Streams, HasFooter, columns_of, in_present}
use Rattle.orc_directory.specs.declared.fault.StripeFault.{StripeFault}
use Rattle.orc_row_groups.specs.Bounds.{before_group}
use Rattle.orc_row_groups.specs.Groups.{starts_of_groups, bounds_of}
use Rattle.orc_row_index.specs.RunStreams.{RunStream, no_stream, bit_runs, byte_runs, number_runs, present_runs, value_runs}
use Rattle.orc_row_batch.specs.declared.options.Options.{Options}
use Rattle.orc_stripe_reader.specs.Opened.{Opened}
use Rattle.orc_stripe_reader.specs.RowIndexes.{HasIndex}
use Rattle.orc_tail.specs.Stripes.{stripe_at, stripe_bytes}
use Rattle.orc_tail.specs.declared.tail.Tail.{Tail}
use Rattle.orc_tail.specs.declared.fault.FileFault.{FileFault}
use Rattle.orc_tail.specs.declared.fault.FileFault.TheVariants.{BadStripe, Stripe, SourceFailed, OutOfMemory}
use Rattle.orc_file_reader.specs.FileRows.{opened_stripe, cut_rows}
use Rattle.orc_file_writer.specs.Writing.{WroteWholeFile}
use Rattle.orc_check.specs.Findings.{rows_at}
use Rattle.orc_merger.specs.Merging.{IsMerge}
use Rattle.orc_merger.specs.Outcomes.{IsAnswer}
use Rattle.orc_theorems.specs.RunsRead.{runs_read}
use Rattle.orc_theorems.specs.declared.fault.CallFault.{CallFault}
use Rattle.orc_theorems.specs.declared.fault.CallFault.TheVariants.{File, Merge}
use Rattle.orc_theorems.specs.declared.seeking.Sought.{Sought}
use Rattle.orc_theorems.specs.declared.seeking.Sought.TheVariants as sought
use Rattle.orc_theorems.specs.declared.seeking.ColumnSought.{ColumnSought}

-- What is left of the run that was read last, followed by the values of the runs after it, are the stream's values from
-- value n on. A stream of booleans has eight in a byte, and of the first byte those before value n are skipped.
abbrev pub HoldsFrom : RunStream → ℕ → Sought → Type 0
HoldsFrom no_stream n sought.Nothing = Unit {0}
HoldsFrom (byte_runs stream) n (sought.Bytes run) =
    (all : List ℕ) → IsStream IsByteRun stream all
    → (rest : List ℕ) × RunsLeft IsByteRun run.values rest (drop n all)
HoldsFrom (number_runs version sign stream) n (sought.Numbers run) =
    (all : List ℤ) → IsStream (is_run version sign) stream all
    → (rest : List ℕ) × RunsLeft (is_run version sign) run.values rest (drop n all)
HoldsFrom (bit_runs stream) n (sought.Bytes run) =
    (all : List Bool) → IsBitStream stream all → n ≤ length all
    → (rest : List ℕ) × BitsPending run.values rest (n % 8) (drop n all)
HoldsFrom _ n _ = ⊥

-- value n of a stream was found, and at most one run was read
pub record IsSought (stream : RunStream) (n : ℕ) (found : Sought) : Type 0 where
  pub one_run : runs_read found ≤ 1
  pub leads : HoldsFrom stream n found

-- in each of a column's streams of runs the first value after these cells was found
pub record IsColumnSought (s : Shape) (x : Streams) (before : List Cell) (found : ColumnSought) : Type 0 where
  pub present : IsSought (present_runs (in_present x)) (length before) found.present
  pub own : IsSought (value_runs s x) (length (values before)) found.own

-- Column c of an opened stripe of these rows has a row index with an entry of group g, and in each of the column's
-- streams of runs the group's first value was found.
pub record IsGroupSought (view : Opened) (rows : List Cell) (c g : ℕ) (found : ColumnSought) : Type 0 where
  pub column : c < width view.schema
  pub message : RowIndexMsg
  pub index : HasIndex view.footer view.bytes c message
  pub group : g < length message.entries
  pub sought : IsColumnSought (shape_at view.schema c) (columns_of view.footer view.bytes c)
      (before_group (cells view.schema c rows)
      (bounds_of view.schema c rows (starts_of_groups view.stride (length rows))) g) found

-- In stripe n of a file with these rows, column c has a row index with an entry of group g, and in each of the column's
-- streams of runs the group's first value was found.
pub record IsSoughtInFile (bytes : List ℕ) (tail : Tail) (rows : List Cell) (n c g : ℕ)
    (found : ColumnSought) : Type 0 where
  pub there : n < length tail.stripes
  pub footer : StripeFooter
  pub has_footer : HasFooter tail.schema (stripe_at tail.stripes n)
      (stripe_bytes (stripe_at tail.stripes n) bytes) footer
  pub group : IsGroupSought (opened_stripe tail n (stripe_bytes (stripe_at tail.stripes n) bytes) footer)
      (rows_at (cut_rows tail.stripes rows) n) c g found

-- A writer writes a file of these rows, and in it the first value of group g was found in each stream of runs of column
-- c in stripe n.
abbrev pub IsSoughtInWritten : Options → Shape → List Cell → ℕ → ℕ → ℕ → ColumnSought → Type 0
IsSoughtInWritten options s rows n c g found =
    (tail : Tail) × (first : Option (List ℕ)) × (told : Option (List ℕ))
    × (finish_wrote : WroteWholeFile options s tail first told rows)
    × IsSoughtInFile finish_wrote.bytes tail rows n c g found

-- Why a group isn't found in a file with this tail: there is no stripe n, memory or the source failed, or stripe n is
-- refused.
abbrev pub IsSeekFault : Tail → ℕ → FileFault → Type 0
IsSeekFault tail n fault =
    ((fault ≡ BadStripe n) × (length tail.stripes ≤ n))
    ⊎ ((fault ≡ OutOfMemory)
    ⊎ ((fault ≡ SourceFailed)
    ⊎ ((n < length tail.stripes) × ((why : StripeFault) × (fault ≡ Stripe n why)))))

-- why a group isn't found in a file that two files are joined into: they aren't merged, or it isn't found in their
-- merged file
abbrev pub IsJoinSeekFault : List ℕ → List ℕ → ℕ → CallFault → Type 0
IsJoinSeekFault first second n (File why) =
    (tail : Tail) × (out : List ℕ) × IsMerge (first ∷ second ∷ []) tail out × IsSeekFault tail n why
IsJoinSeekFault first second n (Merge why) = IsAnswer (first ∷ second ∷ []) why
