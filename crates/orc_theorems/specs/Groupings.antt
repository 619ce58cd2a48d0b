-- Groupings of two files and of three (own).
use Rattle.std.specs.Prelude.{◌⊎◌, ℕ, List}
use Rattle.orc_tail.specs.declared.tail.Tail.{Tail}
use Rattle.orc_merger.specs.declared.fault.MergeFault.{MergeFault}
use Rattle.orc_merger.specs.Merging.{IsMerge}
use Rattle.orc_merger.specs.Faults.{IsDeviceFault}
use Rattle.orc_merge_laws.specs.Grouping.{Group, input, merge, one, and, StepRefused}

-- one merge of two files
abbrev pub pair : List ℕ → List ℕ → Group
pair a b = merge (and (input a) (one (input b)))

-- one merge of three files
abbrev pub at_once : List ℕ → List ℕ → List ℕ → Group
at_once a b c = merge (and (input a) (and (input b) (one (input c))))

-- the merge of the first two of three files, and then of the result and the third
abbrev pub first_two : List ℕ → List ℕ → List ℕ → Group
first_two a b c = merge (and (pair a b) (one (input c)))

-- the merge of the last two of three files, and then of the first and the result
abbrev pub last_two : List ℕ → List ℕ → List ℕ → Group
last_two a b c = merge (and (input a) (one (pair b c)))

-- a device or memory failed, or some step of the grouping is refused
abbrev pub IsStepAnswer : Group → MergeFault → Type 0
IsStepAnswer group fault = IsDeviceFault fault ⊎ StepRefused group fault

-- the files have this merged file, with some tail
abbrev pub MergedTo : List (List ℕ) → List ℕ → Type 0
MergedTo files out = (tail : Tail) × IsMerge files tail out
