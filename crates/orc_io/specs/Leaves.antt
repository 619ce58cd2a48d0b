-- What a call that reads a source or writes to a sink changes of it (this project's).
use Rattle.std.specs.Prelude.{◌≡◌, ◌+◌, ◌⊎◌, ℕ, List, Option, Result, Ok, Err, OnOk, IfErr, IsErrOf, MatchResult}

-- A call that reads a source; `old` and `new` are the source before and after it. `tells`, `size_of` and `failures_of`
-- give a source's known bytes, its length and its count of failures, and `source_failed` is the fault that says that
-- the source failed.
pub record LeavesSource {S T E : Type 0} (tells : S → Option (List ℕ)) (size_of failures_of : S → ℕ)
    (source_failed : E) (old new : S) (result : Result T E) : Type 0 where
  -- The call changes neither what is known of the source's bytes nor its length.
  pub told : tells new ≡ tells old
  pub size : size_of new ≡ size_of old
  -- The source's count of failures rises by one if the fault says that the source failed, and is unchanged if the call
  -- succeeds or has any other fault.
  pub kept : OnOk result (failures_of new ≡ failures_of old)
  pub failed : IsErrOf result source_failed → failures_of new ≡ failures_of old + 1
  pub others : IfErr result (λ fault. (fault ≡ source_failed) ⊎ (failures_of new ≡ failures_of old))

-- A call that takes a source returns it, in its answer or beside the fault, and has changed it no more than this.
abbrev pub HandsBackSource : {S T E : Type 0} → (S → Option (List ℕ)) → (S → ℕ) → (S → ℕ) → E → (T → S) → S
    → Result T (E × S) → Type 0
HandsBackSource {S} {T} {E} tells size_of failures_of source_failed back_of source result = MatchResult result
    (λ done. LeavesSource {T = T} {E = E} tells size_of failures_of source_failed source (back_of done) (Ok done))
    (λ e. LeavesSource {T = T} {E = E} tells size_of failures_of source_failed source e.1 (Err e.0))

-- A call that writes to a sink; `old` and `new` are the sink before and after it. `failures_of` gives a sink's count of
-- failures, and `sink_failed` is the fault that says that the sink failed.
pub record LeavesSink {W T E : Type 0} (failures_of : W → ℕ) (sink_failed : E) (old new : W) (result : Result T E)
    : Type 0 where
  -- The sink's count of failures rises by one if the fault says that the sink failed, and is unchanged if the call
  -- succeeds or has any other fault.
  pub kept : OnOk result (failures_of new ≡ failures_of old)
  pub failed : IsErrOf result sink_failed → failures_of new ≡ failures_of old + 1
  pub others : IfErr result (λ fault. (fault ≡ sink_failed) ⊎ (failures_of new ≡ failures_of old))

-- A call that takes a sink returns it, in its answer or beside the fault, and has changed its count no more than this.
abbrev pub HandsBackSink : {W T E : Type 0} → (W → ℕ) → E → (T → W) → W → Result T (E × W) → Type 0
HandsBackSink {W} {T} {E} failures_of sink_failed back_of sink result = MatchResult result
    (λ done. LeavesSink {T = T} {E = E} failures_of sink_failed sink (back_of done) (Ok done))
    (λ e. LeavesSink {T = T} {E = E} failures_of sink_failed sink e.1 (Err e.0))
