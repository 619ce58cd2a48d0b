-- The table of a stream's runs, in which positions are looked up (ORC specification, "Row Group Index").
use Rattle.std.specs.Prelude.{◌≡◌, ℕ, ◌<◌, ◌^◌, List, [], length}
use Rattle.orc_rle.specs.ByteRun.{IsByteRun, NoByteRun}
use Rattle.orc_rle.specs.Stream.{IsStream, StopsWithin}
use Rattle.orc_rle.specs.declared.fault.RunFault.{RunFault}
use Rattle.orc_positions.specs.RunTable.{ArePlaces, Names, NamesBit}
use Rattle.orc_column_reader.specs.Numbers.{is_run}
use Rattle.orc_column_reader.specs.RunFaults.{no_run}
use Rattle.orc_row_index.specs.Positions.{RunPosition, BitsPosition}
use Rattle.orc_row_index.specs.RunStreams.{RunStream, no_stream, bit_runs, byte_runs, number_runs}
use Rattle.orc_row_groups.specs.Counts.{most}
use Rattle.orc_row_index_check.specs.declared.stream_table.StreamTable.{StreamTable}
use Rattle.orc_row_index_check.specs.declared.stream_table.StreamTable.TheVariants as table

-- the table has the places of the stream's runs and of its end
abbrev pub IsTable : RunStream → StreamTable → Type 0
IsTable no_stream table.Nothing = Unit {0}
IsTable (bit_runs stream) (table.Bits places) = ArePlaces IsByteRun stream places
IsTable (byte_runs stream) (table.Runs places) = ArePlaces IsByteRun stream places
IsTable (number_runs version sign stream) (table.Runs places) = ArePlaces (is_run version sign) stream places
IsTable _ _ = ⊥

-- the bytes are a stream of fewer than 2^64 values
abbrev pub HasFew : {A : Type 0} → (List ℕ → List A → Type 0) → List ℕ → Type 0
HasFew {A = A} is_run stream = (values : List A) × IsStream is_run stream values × (length values < 2 ^ 64)

-- the stream of runs has fewer than 2^64 values
abbrev pub IsFew : RunStream → Type 0
IsFew no_stream = Unit {0}
IsFew (bit_runs stream) = HasFew IsByteRun stream
IsFew (byte_runs stream) = HasFew IsByteRun stream
IsFew (number_runs version sign stream) = HasFew (is_run version sign) stream

-- why the bytes have no table
abbrev pub TableRunsFail : RunStream → RunFault → Type 0
TableRunsFail no_stream fault = ⊥
TableRunsFail (bit_runs stream) fault = StopsWithin IsByteRun NoByteRun most stream fault
TableRunsFail (byte_runs stream) fault = StopsWithin IsByteRun NoByteRun most stream fault
TableRunsFail (number_runs version sign stream) fault =
    StopsWithin (is_run version sign) (no_run version sign) most stream fault

-- the numbers are a position that the table finds for value n
abbrev pub TablePosition : StreamTable → ℕ → List ℕ → Type 0
TablePosition table.Nothing n positions = positions ≡ []
TablePosition (table.Bits places) n positions = BitsPosition (NamesBit places) n positions
TablePosition (table.Runs places) n positions = RunPosition (Names places) n positions
