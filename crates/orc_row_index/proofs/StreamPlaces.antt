-- Places in one stream, whatever its runs are of.
use Rattle.std.proofs.Common.{◌≡◌, ℕ, ◌≤◌, List, [], ◌∷◌, sym, ◌∙◌, arith}
use Rattle.orc_rle.specs.ByteRun.{IsByteRun}
use Rattle.orc_rle.proofs.ByteLaws.{one_byte_run, byte_run_some}
use Rattle.orc_positions.specs.RunStarts.{start_of_stream}
use Rattle.orc_positions.specs.declared.run_start.RunStart.{RunStart}
use Rattle.orc_positions.proofs.PositionLemmas.{one_place}
use Rattle.orc_positions.proofs.RunStartLemmas.{mark_start}
use Rattle.orc_positions.proofs.BitPositionLemmas.{bit_place_begins, one_bit_place}
use Rattle.orc_column_reader.specs.Numbers.{is_run}
use Rattle.orc_column_reader.proofs.NumbersLemmas.{laws_of}
use Rattle.orc_row_index.specs.RunStreams.{RunStream, no_stream, bit_runs, byte_runs, number_runs}
use Rattle.orc_row_index.specs.Positions.{IsPosition, reader, writer}
use Rattle.orc_row_index.specs.Walking.{HasPosition, BeginsBefore}

-- a writer's place is right for a reader
pub place_read : (c : RunStream) (n : ℕ) (ps : List ℕ) → IsPosition writer c n ps → IsPosition reader c n ps
place_read no_stream n ps h = h
place_read (bit_runs b) n ps h = (h.0, h.1, h.2, h.3, bit_place_begins b n h.0 h.1 h.2 n h.4)
place_read (byte_runs b) n ps h = (h.0, h.1, h.2, h.3.begins)
place_read (number_runs v sign b) n ps h = (h.0, h.1, h.2, h.3.begins)

-- a value has one place
pub one_stream_place : (c : RunStream) (n : ℕ) (ps qs : List ℕ) → IsPosition writer c n ps → IsPosition writer c n qs → ps ≡ qs
one_stream_place no_stream n ps qs h k = h ∙ sym k
one_stream_place (bit_runs b) n ps qs h k =
    let same = one_bit_place b n h.0 k.0 h.1 k.1 h.2 k.2 n h.4 k.4 in
    h.3 ∙ (λ i. same.0.offset i ∷ same.0.skip i ∷ same.1 i ∷ []) ∙ sym k.3
one_stream_place (byte_runs b) n ps qs h k =
    let same = one_place IsByteRun one_byte_run byte_run_some b h.0 k.0 h.1 k.1 n h.3 k.3 in
    h.2 ∙ (λ i. same.offset i ∷ same.skip i ∷ []) ∙ sym k.2
one_stream_place (number_runs v sign b) n ps qs h k =
    let law = laws_of v sign in
    let same = one_place (is_run v sign) law.one law.some b h.0 k.0 h.1 k.1 n h.3 k.3 in
    h.2 ∙ (λ i. same.offset i ∷ same.skip i ∷ []) ∙ sym k.2

-- a walk begins at the stream's start
pub starts_before : (c : RunStream) (n m : ℕ) → HasPosition c n → BeginsBefore c start_of_stream m
starts_before no_stream n m h = tt
starts_before (bit_runs b) n m h = (mark_start IsByteRun b h.0 h.1, omega arith)
starts_before (byte_runs b) n m h = (mark_start IsByteRun b h.0 h.1, omega arith)
starts_before (number_runs v sign b) n m h = (mark_start (is_run v sign) b h.0 h.1, omega arith)

-- what is not behind a value is not behind a later one
pub later_before : (c : RunStream) (run_start : RunStart) (n m : ℕ) → n ≤ m → BeginsBefore c run_start n → BeginsBefore c run_start m
later_before no_stream run_start n m le h = tt
later_before (bit_runs b) run_start n m le h = (h.0, omega (arith, le, h.1))
later_before (byte_runs b) run_start n m le h = (h.0, omega (arith, le, h.1))
later_before (number_runs v sign b) run_start n m le h = (h.0, omega (arith, le, h.1))
