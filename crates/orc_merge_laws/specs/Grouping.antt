-- Groupings: ordered trees with inputs at the leaves, and at each inner node a merge of its children, in order (own).
use Rattle.std.specs.Prelude.{◌≡◌, ◌⊎◌, ℕ, ◌^◌, ◌<◌, List, [], ◌∷◌, ◌++◌, length}
use Rattle.std.specs.List.{AllByRecursion, AllZip}
use Rattle.orc_values.specs.Cells.{Cell}
use Rattle.orc_file_reader.specs.FileRows.{FileIs}
use Rattle.orc_file_reader.specs.Honest.{Honest}
use Rattle.orc_tail.specs.declared.tail.Tail.{Tail}
use Rattle.orc_merger.specs.declared.fault.MergeFault.{MergeFault}
use Rattle.orc_merger.specs.declared.fault.MergeFault.TheVariants.{UserMetadataConflict, Limit}
use Rattle.orc_merger.specs.Merging.{IsLike, AreOpened, IsMerge}
use Rattle.orc_merger.specs.Faults.{IsMergeRefused}

mutual
  -- an input, or a merge of groups
  pub data Group : Type 0 where
    input : List ℕ → Group
    merge : Groups → Group

  -- a list of at least one group
  pub data Groups : Type 0 where
    one : Group → Groups
    and : Group → Groups → Groups

-- the inputs of a group, in order
abbrev mutual
  pub leaves : Group → List (List ℕ)
  leaves (input bytes) = bytes ∷ []
  leaves (merge groups) = all_leaves groups

  pub all_leaves : Groups → List (List ℕ)
  all_leaves (one g) = leaves g
  all_leaves (and g gs) = leaves g ++ all_leaves gs

-- the file that a group gives: an input itself, or the merged file of the files that its children give
abbrev mutual
  pub Gives : Group → List ℕ → Type 0
  Gives (input bytes) out = out ≡ bytes
  Gives (merge groups) out = (files : List (List ℕ)) × (tail : Tail) × AllGive groups files × IsMerge files tail out

  pub AllGive : Groups → List (List ℕ) → Type 0
  AllGive (one g) files = (out : List ℕ) × Gives g out × (files ≡ out ∷ [])
  AllGive (and g gs) files =
      (out : List ℕ) × (rest : List (List ℕ)) × Gives g out × AllGive gs rest × (files ≡ out ∷ rest)

-- some step of a group is refused with this fault
abbrev mutual
  pub StepRefused : Group → MergeFault → Type 0
  StepRefused (input bytes) fault = ⊥
  StepRefused (merge groups) fault =
      SomeRefused groups fault
      ⊎ ((files : List (List ℕ)) × AllGive groups files × IsMergeRefused files fault)

  pub SomeRefused : Groups → MergeFault → Type 0
  SomeRefused (one g) fault = StepRefused g fault
  SomeRefused (and g gs) fault = StepRefused g fault ⊎ SomeRefused gs fault

-- each file that a step of a group gives has fewer than 2^64 bytes
abbrev mutual
  pub AreShort : Group → Type 0
  AreShort (input bytes) = Unit {0}
  AreShort (merge groups) = ((out : List ℕ) → Gives (merge groups) out → length out < 2 ^ 64) × AllShort groups

  pub AllShort : Groups → Type 0
  AllShort (one g) = AreShort g
  AllShort (and g gs) = AreShort g × AllShort gs

-- the file that a group gives if each of its steps wrote a file of fewer than 2^64 bytes, as `merge` does
abbrev mutual
  pub Wrote : Group → List ℕ → Type 0
  Wrote (input bytes) out = out ≡ bytes
  Wrote (merge groups) out =
      (files : List (List ℕ)) × (tail : Tail) × AllWrote groups files × IsMerge files tail out
      × (length out < 2 ^ 64)

  pub AllWrote : Groups → List (List ℕ) → Type 0
  AllWrote (one g) files = (out : List ℕ) × Wrote g out × (files ≡ out ∷ [])
  AllWrote (and g gs) files =
      (out : List ℕ) × (rest : List (List ℕ)) × Wrote g out × AllWrote gs rest × (files ≡ out ∷ rest)

-- each input is a file with these rows
abbrev pub HaveRows : List (List ℕ) → List (List Cell) → Type 0
HaveRows = AllZip (λ (bytes : List ℕ) (rows : List Cell). (tail : Tail) × FileIs bytes tail rows)

-- each input is a file with these rows, and its stripe statistics are those of the rows
abbrev pub AreHonestFiles : List (List ℕ) → List (List Cell) → Type 0
AreHonestFiles =
    AllZip (λ (bytes : List ℕ) (rows : List Cell). (tail : Tail) × FileIs bytes tail rows × Honest tail rows)

-- The inputs are files that agree, so that only user metadata and limits can keep them from being merged.
pub record AreFellows (inputs : List (List ℕ)) : Type 0 where
  pub first : Tail
  pub rest : List Tail
  pub opened : AreOpened inputs (first ∷ rest)
  pub alike : AllByRecursion (IsLike first) (first ∷ rest)

-- the fault is a conflict of user metadata or a limit
abbrev pub ComesOfJoining : MergeFault → Type 0
ComesOfJoining (UserMetadataConflict i) = Unit {0}
ComesOfJoining (Limit i) = Unit {0}
ComesOfJoining _ = ⊥

-- one merge of all inputs is refused for user metadata or a limit
abbrev pub IsFlatRefused : Groups → Type 0
IsFlatRefused groups = (fault : MergeFault) × ComesOfJoining fault × IsMergeRefused (all_leaves groups) fault

-- some step of the grouping is refused for user metadata or a limit
abbrev pub IsStepRefused : Groups → Type 0
IsStepRefused groups = (fault : MergeFault) × ComesOfJoining fault × StepRefused (merge groups) fault
