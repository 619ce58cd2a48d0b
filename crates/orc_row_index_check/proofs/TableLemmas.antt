-- What is looked up among the places of a stream's runs is what its positions name.
use Rattle.std.specs.Prelude.{MatchBool}
use Rattle.std.proofs.Common.{ℕ, ◌/◌, ◌≤◌, Bool, true, false, List, arith}
use Rattle.orc_rle.specs.ByteRun.{IsByteRun}
use Rattle.orc_positions.specs.Position.{HasValues}
use Rattle.orc_positions.proofs.PlaceLemmas as seek
use Rattle.orc_column_reader.specs.Numbers.{is_run}
use Rattle.orc_column_reader.proofs.NumbersLemmas.{laws_of, byte_laws}
use Rattle.orc_row_index.specs.Positions.{IsPosition, reader}
use Rattle.orc_row_index.specs.RunStreams.{RunStream, no_stream, bit_runs, byte_runs, number_runs}
use Rattle.orc_row_index.specs.Walking.{HasPosition}
use Rattle.orc_row_index_check.specs.Tables.{IsTable, TablePosition}
use Rattle.orc_row_index_check.specs.declared.stream_table.StreamTable.{StreamTable}
use Rattle.orc_row_index_check.specs.declared.stream_table.StreamTable.TheVariants as table

-- what decides one decides what is the same
pub match_by : {P Q : Type 0} (b : Bool) → (P → Q) → (Q → P) → MatchBool b P (P → ⊥) → MatchBool b Q (Q → ⊥)
match_by true f g h = f h
match_by false f g h = λ q. h (g q)

fewer : {A : Type 0} (R : List ℕ → List A → Type 0) (bytes : List ℕ) (n m : ℕ) → m ≤ n → HasValues R bytes n → HasValues R bytes m
fewer R bytes n m le h = (h.0, h.1, omega (arith, le, h.2))

-- a position that is found names the value
pub place_named : (r : RunStream) (t : StreamTable) (n : ℕ) (ps : List ℕ) → IsTable r t → HasPosition r n → TablePosition t n ps → IsPosition reader r n ps
place_named no_stream table.Nothing n ps is has h = h
place_named no_stream (table.Bits p) n ps is has h = absurd is
place_named no_stream (table.Runs p) n ps is has h = absurd is
place_named (bit_runs b) table.Nothing n ps is has h = absurd is
place_named (bit_runs b) (table.Bits p) n ps is has h =
    let found = h.4 in
    let le : found.0 ≤ n / 8 = omega (arith, found.2) in (
      h.0,
      h.1,
      h.2,
      h.3,
      record {
        whole = found.0;
        begins = seek.named IsByteRun byte_laws.one byte_laws.some b p h.0 h.1 found.0 is (fewer IsByteRun b (n / 8) found.0 le has) found.3;
        few = found.1;
        number_is = found.2;
        there = omega arith;
      },
    )
place_named (bit_runs b) (table.Runs p) n ps is has h = absurd is
place_named (byte_runs b) table.Nothing n ps is has h = absurd is
place_named (byte_runs b) (table.Bits p) n ps is has h = absurd is
place_named (byte_runs b) (table.Runs p) n ps is has h = (h.0, h.1, h.2, seek.named IsByteRun byte_laws.one byte_laws.some b p h.0 h.1 n is has h.3)
place_named (number_runs v sign b) table.Nothing n ps is has h = absurd is
place_named (number_runs v sign b) (table.Bits p) n ps is has h = absurd is
place_named (number_runs v sign b) (table.Runs p) n ps is has h =
    let law = laws_of v sign in (h.0, h.1, h.2, seek.named (is_run v sign) law.one law.some b p h.0 h.1 n is has h.3)

-- and one that names it is found
pub place_found : (r : RunStream) (t : StreamTable) (n : ℕ) (ps : List ℕ) → IsTable r t → IsPosition reader r n ps → TablePosition t n ps
place_found no_stream table.Nothing n ps is h = h
place_found no_stream (table.Bits p) n ps is h = absurd is
place_found no_stream (table.Runs p) n ps is h = absurd is
place_found (bit_runs b) table.Nothing n ps is h = absurd is
place_found (bit_runs b) (table.Bits p) n ps is h =
    let k = h.4 in (h.0, h.1, h.2, h.3, (k.whole, k.few, k.number_is, seek.begins_named IsByteRun byte_laws.one byte_laws.some b p h.0 h.1 k.whole is k.begins))
place_found (bit_runs b) (table.Runs p) n ps is h = absurd is
place_found (byte_runs b) table.Nothing n ps is h = absurd is
place_found (byte_runs b) (table.Bits p) n ps is h = absurd is
place_found (byte_runs b) (table.Runs p) n ps is h = (h.0, h.1, h.2, seek.begins_named IsByteRun byte_laws.one byte_laws.some b p h.0 h.1 n is h.3)
place_found (number_runs v sign b) table.Nothing n ps is h = absurd is
place_found (number_runs v sign b) (table.Bits p) n ps is h = absurd is
place_found (number_runs v sign b) (table.Runs p) n ps is h =
    let law = laws_of v sign in (h.0, h.1, h.2, seek.begins_named (is_run v sign) law.one law.some b p h.0 h.1 n is h.3)

pub place_decided : (r : RunStream) (t : StreamTable) (n : ℕ) (ps : List ℕ) (b : Bool) → IsTable r t → HasPosition r n → MatchBool b (TablePosition t n ps) (TablePosition t n ps → ⊥)
    → MatchBool b (IsPosition reader r n ps) (IsPosition reader r n ps → ⊥)
place_decided r t n ps b is has h = match_by {P = TablePosition t n ps} {Q = IsPosition reader r n ps} b (place_named r t n ps is has) (place_found r t n ps is) h
