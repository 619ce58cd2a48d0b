-- What holds after a merge (own).
use Rattle.std.specs.Prelude.{◌≡◌, ◌⊎◌, ℕ, ◌+◌, ◌<◌, ◌^◌, List, length, set, slice_index, Option}
use Rattle.orc_io.specs.Devices.{appended}
use Rattle.orc_tail.specs.declared.tail.Tail.{Tail}
use Rattle.orc_merger.specs.declared.fault.MergeFault.{MergeFault}
use Rattle.orc_merger.specs.declared.fault.MergeFault.TheVariants.{SourceFailed}
use Rattle.orc_merger.specs.Merging.{IsMerge}
use Rattle.orc_merger.specs.Faults.{IsMergeRefused, IsDeviceFault}
use Rattle.orc_merger.specs.Copies.{WroteSome}

-- a device or memory failed, or the inputs are refused with this fault
abbrev pub IsAnswer : List (List ℕ) → MergeFault → Type 0
IsAnswer files fault = IsDeviceFault fault ⊎ IsMergeRefused files fault

-- the merged file, of fewer than 2^64 bytes, was appended to the output's bytes
pub record WroteMerge (files : List (List ℕ)) (tail : Tail) (old new : Option (List ℕ)) : Type 0 where
  pub bytes : List ℕ
  pub merge : IsMerge files tail bytes
  pub few : length bytes < 2 ^ 64
  pub told_is : new ≡ appended old bytes

-- the output's bytes are unchanged, or a prefix of the merged file was appended to them
abbrev pub WrotePart : List (List ℕ) → Option (List ℕ) → Option (List ℕ) → Type 0
WrotePart files old new =
    (new ≡ old) ⊎ ((tail : Tail) × (bytes : List ℕ) × IsMerge files tail bytes × WroteSome old new bytes)

-- the counts of failures of all sources after a merge that failed with this fault: one more than before for the source
-- that failed, if one did, and unchanged for all others
abbrev pub counts_after : MergeFault → List ℕ → List ℕ
counts_after (SourceFailed i) counts = set counts i (slice_index counts i + 1)
counts_after _ counts = counts
