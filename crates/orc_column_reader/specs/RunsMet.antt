-- Which error a reader of runs meets if it still has to give n values (ORC specification, "Run Length Encoding").
use Rattle.std.specs.Prelude.{◌≡◌, ℕ, ◌+◌, ◌-◌, ◌<◌, ◌≤◌, List, [], ◌++◌, length, drop, Option, Some, None, ◌⊎◌}
use Rattle.orc_bits.specs.Packed.{packed_len}
use Rattle.orc_rle.specs.ByteRun.{IsByteRun, NoByteRun}
use Rattle.orc_rle.specs.Stream.{IsStream, at_place}
use Rattle.orc_rle.specs.declared.fault.RunFault.{RunFault}
use Rattle.orc_rle.specs.declared.fault.RunFault.TheVariants as run
use Rattle.orc_column_reader.specs.declared.bits.Bits.{Bits}
use Rattle.orc_column_reader.specs.declared.bytes.RunLengthBytes.{RunLengthBytes}
use Rattle.orc_column_reader.specs.declared.numbers.Numbers.{Numbers}
use Rattle.orc_column_reader.specs.Numbers.{is_run}
use Rattle.orc_column_reader.specs.RunFaults.{no_run}

-- the bytes end, and there are fewer than n values
abbrev pub EndsThere : List ℕ → ℕ → ℕ → ℕ → RunFault → Type 0
EndsThere rest count n total f = (rest ≡ []) × (count < n) × (f ≡ run.TooFew total)

-- there are bytes that have no run at their start
abbrev pub BreaksThere : (List ℕ → RunFault → Type 0) → List ℕ → ℕ → RunFault → Type 0
BreaksThere fails rest place f = (cause : RunFault) × (rest ≡ [] → ⊥) × fails rest cause × (f ≡ at_place cause place)

-- there is a run that goes past n values
abbrev pub PassesThere : {A : Type 0} → (List ℕ → List A → Type 0) → List ℕ → ℕ → ℕ → ℕ → RunFault → Type 0
PassesThere {A = A} is_run rest count n place f =
    (text : List ℕ) × (more : List ℕ) × (past : List A)
    × is_run text past
    × (rest ≡ text ++ more)
    × (n < count + length past)
    × (f ≡ run.TooMany place)

-- reading stops here: the bytes end, no run begins, or the run goes past the needed values
abbrev pub StopsThere : {A : Type 0} → (List ℕ → List A → Type 0) → (List ℕ → RunFault → Type 0)
    → List ℕ → ℕ → ℕ → ℕ → ℕ → RunFault → Type 0
StopsThere is_run fails rest count n place total f =
    EndsThere rest count n total f ⊎ (BreaksThere fails rest place f ⊎ PassesThere is_run rest count n place f)

-- reading stops in the bytes from the place on, after the pending values and some runs
pub record StopsLater {A : Type 0} (is_run : List ℕ → List A → Type 0) (fails : List ℕ → RunFault → Type 0)
    (pending : List A) (bytes : List ℕ) (at total n : ℕ) (f : RunFault) : Type 0 where
  pub front : List ℕ
  pub rest : List ℕ
  pub values : List A
  pub parts : bytes ≡ front ++ rest
  pub stream : IsStream is_run front values
  pub few : length pending + length values ≤ n
  pub reason : StopsThere is_run fails rest (length pending + length values) n (at + length front) total f

-- the run that was read last, which begins at `start`, goes past the needed values
abbrev pub PassesNow : {A : Type 0} → List A → ℕ → ℕ → RunFault → Type 0
PassesNow pending start n f = (n < length pending) × (f ≡ run.TooMany start)

-- an error that a reader of runs meets: after its pending values, or in them
abbrev pub RunsMeet : {A : Type 0} → (List ℕ → List A → Type 0) → (List ℕ → RunFault → Type 0)
    → List A → List ℕ → ℕ → ℕ → ℕ → ℕ → RunFault → Type 0
RunsMeet is_run fails pending bytes start at total n f =
    StopsLater is_run fails pending bytes at total n f ⊎ PassesNow pending start n f

-- an error that a reader of integers meets from its place on
abbrev pub NumbersMeet : Numbers → ℕ → RunFault → Type 0
NumbersMeet r n f =
    RunsMeet (is_run r.version r.sign) (no_run r.version r.sign) (drop r.used r.run.values)
    (drop r.at r.bytes.now) r.start r.at (length r.bytes.now) n f

-- an error that a reader of bytes in runs meets from its place on
abbrev pub BytesMeet : RunLengthBytes → ℕ → RunFault → Type 0
BytesMeet r n f =
    RunsMeet IsByteRun NoByteRun (drop r.used r.run.values) (drop r.at r.bytes.now)
    r.start r.at (length r.bytes.now) n f

-- an error of the booleans after those of the held byte; if all digits of that byte are left, they are of the last
-- run
abbrev pub BitsMeet : Bits → ℕ → RunFault → Type 0
BitsMeet r n f = BytesMeet r.bytes (packed_len 1 (n - r.left)) f ⊎ ((8 ≤ r.left) × (f ≡ run.TooMany r.bytes.start))

-- an error of marks; without PRESENT there is none
abbrev pub MarksMeet : Option Bits → ℕ → RunFault → Type 0
MarksMeet None n f = ⊥
MarksMeet (Some bits) n f = BitsMeet bits n f
