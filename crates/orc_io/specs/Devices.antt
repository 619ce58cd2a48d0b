-- What is known of the bytes of sources and sinks, and how these count failures (this project's).
use Rattle.std.specs.Prelude.{ℕ, ◌+◌, List, ◌++◌, take, drop, Option, Result, Ok, Err, Bool, true, ◌==◌, ◌&&◌, nat_lt, if◌then◌else◌}
use Rattle.std.specs.Option.{option_map}

-- the n bytes from a place on, or as many as there are
abbrev pub bytes_at : ℕ → ℕ → List ℕ → List ℕ
bytes_at at n bytes = take n (drop at bytes)

-- the count of failures after a call: one more if the call fails, unchanged if it succeeds
abbrev pub failures_after : {T E : Type 0} → Result T E → ℕ → ℕ
failures_after (Ok _) before = before
failures_after (Err _) before = before + 1

-- known bytes with these bytes added at their end; unknown bytes stay unknown
abbrev pub appended : Option (List ℕ) → List ℕ → Option (List ℕ)
appended told bytes = option_map (λ old. old ++ bytes) told

-- the number of bytes that a write took: none if it failed
abbrev pub taken_of : {E : Type 0} → Result ℕ E → ℕ
taken_of (Ok n) = n
taken_of (Err _) = 0

-- a write of `len` bytes counts as a failure: it failed, or took nothing although there were bytes
abbrev pub has_failed : {E : Type 0} → Result ℕ E → ℕ → Bool
has_failed (Ok n) len = n == 0 && nat_lt 0 len
has_failed (Err _) len = true

-- the count of failures after a write of `len` bytes
abbrev pub write_failures : {E : Type 0} → Result ℕ E → ℕ → ℕ → ℕ
write_failures written len before = if has_failed written len then before + 1 else before
