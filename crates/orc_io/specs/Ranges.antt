-- How reading a range changes its source's count of failures (this project's).
use Rattle.std.specs.Prelude.{ℕ, ◌+◌, Result, Ok, Err}
use Rattle.orc_io.specs.declared.range_fault.RangeFault.{RangeFault}
use Rattle.orc_io.specs.declared.range_fault.RangeFault.TheVariants.{SourceFailed, OutOfMemory}

-- the count of failures after a range was read: one more if the source failed, unchanged after a success and if there
-- was no memory
abbrev pub range_failures : {T : Type 0} → Result T RangeFault → ℕ → ℕ
range_failures (Ok _) before = before
range_failures (Err SourceFailed) before = before + 1
range_failures (Err OutOfMemory) before = before
