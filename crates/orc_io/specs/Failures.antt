-- How often a device has failed: not at all, or once more than before (this project's).
use Rattle.std.specs.Prelude.{ℕ, ◌+◌, Option, Some, None}
use Rattle.std.specs.declared.snapshot.Snapshot.{Snapshot}

-- the number of failures
abbrev pub failures_counted : Option (Snapshot ℕ) → ℕ
failures_counted None = 0
failures_counted (Some before) = before.value + 1
