-- Why a column can't be read from its positions on (ORC specification, "Row Group Index", "Column Encodings").
use Rattle.std.specs.Prelude.{◌≡◌, ◌≢◌, ℕ, ◌+◌, ◌<◌, Option, Some, None, List, [], ◌∷◌, length, take, drop, ◌⊎◌}
use Rattle.orc_rle.specs.ByteRun.{IsByteRun, NoByteRun}
use Rattle.orc_rle.specs.Seeking.{SeekFails, BitSeekFails}
use Rattle.orc_rle.specs.declared.fault.RunFault.{RunFault}
use Rattle.orc_rle.specs.declared.fault.RunFault.TheVariants as run
use Rattle.orc_values.specs.Shapes.{Shape}
use Rattle.orc_column_reader.specs.Faults.{DictionaryFails}
use Rattle.orc_column_reader.specs.Numbers.{is_run}
use Rattle.orc_column_reader.specs.RunFaults.{no_run}
use Rattle.orc_column_reader.specs.Stripe.{Streams, has_dictionary, in_present}
use Rattle.orc_directory.specs.declared.fault.Spot.TheVariants as spot
use Rattle.orc_directory.specs.declared.fault.StreamKind.{StreamKind}
use Rattle.orc_directory.specs.declared.fault.StreamKind.TheVariants as stream
use Rattle.orc_directory.specs.declared.fault.StripeFault.{StripeFault}
use Rattle.orc_directory.specs.declared.fault.StripeFault.TheVariants as fault
use Rattle.orc_row_index.specs.Positions.{octets_size, position_size}
use Rattle.orc_row_index.specs.RunStreams.{RunStream, no_stream, bit_runs, byte_runs, number_runs, present_runs, value_runs, value_bytes, kind_of_values}

-- the numbers are no position of the stream, or an invalid run is met on the way; if there aren't as many numbers as
-- a position has, every cause counts
abbrev pub EnteredStreamFails : RunStream → List ℕ → RunFault → Type 0
EnteredStreamFails no_stream positions cause = positions ≡ [] → ⊥
EnteredStreamFails (bit_runs b) positions cause =
    (offset skip bits : ℕ) → positions ≡ offset ∷ skip ∷ bits ∷ [] → BitSeekFails b offset skip bits cause
EnteredStreamFails (byte_runs b) positions cause =
    (offset skip : ℕ) → positions ≡ offset ∷ skip ∷ [] → SeekFails IsByteRun NoByteRun b offset skip cause
EnteredStreamFails (number_runs v s b) positions cause =
    (offset skip : ℕ) → positions ≡ offset ∷ skip ∷ [] → SeekFails (is_run v s) (no_run v s) b offset skip cause

-- the plain bytes end before the position, if there is a position
abbrev pub EndsBefore : Option (List ℕ) → List ℕ → Type 0
EndsBefore None positions = ⊥
EndsBefore (Some bytes) positions = (offset : ℕ) (last : List ℕ) → positions ≡ offset ∷ last → length bytes < offset

-- the error of a column for a cause in its stream: that the stream has no such position, or the error of the run
abbrev pub IsEnteringFault : ℕ → StreamKind → RunFault → StripeFault → Type 0
IsEnteringFault c k (run.BadPosition place) f = f ≡ fault.BadPosition (spot.Stream c k)
IsEnteringFault c k run.OutOfMemory f = f ≡ fault.OutOfMemory
IsEnteringFault c k (run.Short place) f = f ≡ fault.Run c k (run.Short place)
IsEnteringFault c k (run.BadVarint place) f = f ≡ fault.Run c k (run.BadVarint place)
IsEnteringFault c k (run.ValueRange place) f = f ≡ fault.Run c k (run.ValueRange place)
IsEnteringFault c k (run.BadDelta place) f = f ≡ fault.Run c k (run.BadDelta place)
IsEnteringFault c k (run.PatchOrder place) f = f ≡ fault.Run c k (run.PatchOrder place)
IsEnteringFault c k (run.PatchPlace place) f = f ≡ fault.Run c k (run.PatchPlace place)
IsEnteringFault c k (run.PatchRange place) f = f ≡ fault.Run c k (run.PatchRange place)
IsEnteringFault c k (run.TooFew place) f = f ≡ fault.Run c k (run.TooFew place)
IsEnteringFault c k (run.TooMany place) f = f ≡ fault.Run c k (run.TooMany place)

-- a stream of a column can't be read from its positions on
abbrev pub FailsToEnter : ℕ → StreamKind → RunStream → List ℕ → StripeFault → Type 0
FailsToEnter c k stream positions f = (cause : RunFault) × EnteredStreamFails stream positions cause × IsEnteringFault c k cause f

-- one of the streams besides PRESENT can't be read from its positions on, or the dictionary is invalid
abbrev pub OwnRefused : Shape → Streams → ℕ → List ℕ → StripeFault → Type 0
OwnRefused s x c positions f =
    ((f ≡ fault.BadPosition (spot.Stream c stream.Data)) × EndsBefore (value_bytes s x) positions)
    ⊎ (FailsToEnter c (kind_of_values s (has_dictionary x)) (value_runs s x)
    (drop (octets_size (value_bytes s x)) positions) f
    ⊎ DictionaryFails s x c f)

-- how many numbers the position in PRESENT has
abbrev pub present_size : Streams → ℕ
present_size x = position_size (present_runs (in_present x))

-- how many numbers the positions of a column have
abbrev pub positions_size : Shape → Streams → ℕ
positions_size s x = present_size x + (octets_size (value_bytes s x) + position_size (value_runs s x))

-- there aren't as many numbers as the column's positions have; or there are, and one of its streams can't be read
-- from there on
abbrev pub ColumnRefused : Shape → Streams → ℕ → List ℕ → StripeFault → Type 0
ColumnRefused s x c positions f =
    ((f ≡ fault.BadPosition (spot.Column c)) × (length positions ≢ positions_size s x))
    ⊎ ((length positions ≡ positions_size s x)
    × (FailsToEnter c stream.Present (present_runs (in_present x)) (take (present_size x) positions) f
    ⊎ OwnRefused s x c (drop (present_size x) positions) f))
