-- Why files are not merged: the first test that fails, input by input (own).
use Rattle.std.specs.Prelude.{◌≡◌, ◌≢◌, ◌⊎◌, ℕ, ◌<◌, List, [], ◌∷◌, ◌++◌, length}
use Rattle.orc_tail.specs.Tests.{AreAlike}
use Rattle.orc_tail.specs.Tails.{IsTail, TailOpenFault, IsOfTail}
use Rattle.orc_tail.specs.Images.{IsWithinLimits}
use Rattle.orc_tail.specs.declared.tail.Tail.{Tail}
use Rattle.orc_tail.specs.declared.fault.FileFault.{FileFault}
use Rattle.orc_tail.specs.declared.fault.FileFault.TheVariants as file_fault
use Rattle.orc_merger.specs.declared.fault.MergeFault.{MergeFault}
use Rattle.orc_merger.specs.declared.fault.MergeFault.TheVariants.{NoInput, File, SchemaDiffers, VersionDiffers, StrideDiffers, OtherFooterFields}
use Rattle.orc_merger.specs.declared.fault.MergeFault.TheVariants.{UserMetadataConflict, NoStripeStatistics, Limit, SourceFailed, WriteFailed, OutOfMemory}
use Rattle.orc_merger.specs.Merging.{SameVersion, HasStatistics, CanMerge, Agree, all_pairs, merged, AreOpened}

-- the first input's tail, with which the next one is compared
abbrev pub first_of : List Tail → Tail → Tail
first_of [] tail = tail
first_of (first ∷ rest) tail = first

-- a test, the fault if it fails, and the tests after it
abbrev pub Tested : Type 0 → MergeFault → MergeFault → Type 0 → Type 0
Tested Holds fails fault Rest = ((Holds → ⊥) × (fault ≡ fails)) ⊎ (Holds × Rest)

-- The tests of the next input after those gathered so far, in order. If the last one passes, no fault is left.
abbrev pub NextFault : List Tail → Tail → MergeFault → Type 0
NextFault before tail fault =
    let first = first_of before tail in let i = length before in let all = before ++ tail ∷ [] in
    Tested (tail.schema ≡ first.schema) (SchemaDiffers i) fault (
    Tested (SameVersion first tail) (VersionDiffers i) fault (
    Tested (tail.stride ≡ first.stride) (StrideDiffers i) fault (
    Tested (tail.other ≡ first.other) (OtherFooterFields i) fault (
    Tested (Agree (all_pairs all)) (UserMetadataConflict i) fault (
    Tested (HasStatistics tail) (NoStripeStatistics i) fault (
    Tested (IsWithinLimits (merged first all)) (Limit i) fault ⊥))))))

-- the inputs gathered so far can be merged
abbrev pub AreGathered : List Tail → Type 0
AreGathered [] = Unit {0}
AreGathered (first ∷ rest) = CanMerge first (first ∷ rest)

-- this input isn't a file that opens, or it is refused after those before it
abbrev pub InputFault : List Tail → List ℕ → MergeFault → Type 0
InputFault before bytes fault =
    ((why : FileFault) × TailOpenFault bytes why × (fault ≡ File (length before) why))
    ⊎ ((tail : Tail) × IsTail bytes tail × NextFault before tail fault)

-- the inputs before this one can be merged, and this one is refused
pub record IsRefusedAt (inputs : List (List ℕ)) (fault : MergeFault) : Type 0 where
  pub front : List (List ℕ)
  pub bytes : List ℕ
  pub rest : List (List ℕ)
  pub tails : List Tail
  pub parts : inputs ≡ front ++ bytes ∷ rest
  pub opened : AreOpened front tails
  pub gathered : AreGathered tails
  pub fails : InputFault tails bytes fault

-- there is no input, or one of them is the first that is refused
abbrev pub IsMergeRefused : List (List ℕ) → MergeFault → Type 0
IsMergeRefused inputs fault = ((inputs ≡ []) × (fault ≡ NoInput)) ⊎ IsRefusedAt inputs fault

-- two faults are equal, except that a fault of a file's types may be described in several ways
abbrev pub AreOne : MergeFault → MergeFault → Type 0
AreOne e f = (e ≡ f) ⊎ ((i : ℕ) × (a : FileFault) × (b : FileFault) × AreAlike a b × (e ≡ File i a) × (f ≡ File i b))

-- a source, the output or memory failed
abbrev pub IsDeviceFault : MergeFault → Type 0
IsDeviceFault (SourceFailed i) = Unit {0}
IsDeviceFault WriteFailed = Unit {0}
IsDeviceFault OutOfMemory = Unit {0}
IsDeviceFault _ = ⊥

-- An input's fault is neither want of memory nor a failed source: the merger has errors of its own for these.
pub record IsOfBytes (why : FileFault) : Type 0 where
  pub no_memory : why ≢ file_fault.OutOfMemory
  pub no_source : why ≢ file_fault.SourceFailed

-- the number of an input other than the first
abbrev pub IsLater : ℕ → ℕ → Type 0
IsLater inputs i = (0 < i) × (i < inputs)

-- A fault that a merge of `inputs` inputs may have, whatever the bytes of the sources and of the output are.
abbrev pub IsOfMerge : ℕ → MergeFault → Type 0
IsOfMerge inputs NoInput = inputs ≡ 0
IsOfMerge inputs (File i why) = (i < inputs) × IsOfTail why × IsOfBytes why
IsOfMerge inputs (SchemaDiffers i) = IsLater inputs i
IsOfMerge inputs (VersionDiffers i) = IsLater inputs i
IsOfMerge inputs (StrideDiffers i) = IsLater inputs i
IsOfMerge inputs (OtherFooterFields i) = IsLater inputs i
IsOfMerge inputs (UserMetadataConflict i) = i < inputs
IsOfMerge inputs (NoStripeStatistics i) = i < inputs
IsOfMerge inputs (Limit i) = i < inputs
IsOfMerge inputs (SourceFailed i) = i < inputs
IsOfMerge inputs WriteFailed = 0 < inputs
IsOfMerge inputs OutOfMemory = 0 < inputs
