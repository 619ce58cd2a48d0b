-- What holds once the first inputs are gathered, and what holds of failures of their sources (own).
use Rattle.std.specs.Prelude.{◌≡◌, ℕ, ◌<◌, List, [], ◌∷◌, length, map, take, slice_index, Option, Some}
use Rattle.std.specs.List.{AllByRecursion}
use Rattle.orc_tail.specs.Stripes.{AllBefore}
use Rattle.orc_tail.specs.Images.{IsWithinLimits}
use Rattle.orc_tail.specs.declared.tail.Tail.{Tail}
use Rattle.orc_merger.specs.declared.gathered.Gathered.{Gathered}
use Rattle.orc_merger.specs.declared.fault.MergeFault.{MergeFault}
use Rattle.orc_merger.specs.declared.fault.MergeFault.TheVariants.{File, SourceFailed, WriteFailed}
use Rattle.orc_merger.specs.Merging.{CanMerge, AreOpened}
use Rattle.orc_merger.specs.Faults.{IsOfBytes}
use Rattle.orc_merger.specs.SoFar.{HasGathered}

-- the stripes of each tail end within its input; the inputs have these sizes
abbrev pub EndWithinInputs : List ℕ → List Tail → Type 0
EndWithinInputs sizes [] = Unit {0}
EndWithinInputs [] (t ∷ ts) = ⊥
EndWithinInputs (n ∷ sizes) (t ∷ ts) = AllBefore n t.stripes × EndWithinInputs sizes ts

-- the tails of the first `number` inputs, which are within the limits; the inputs have these bytes and sizes
pub record AreTailsOf (told : List (Option (List ℕ))) (sizes : List ℕ) (number : ℕ) (tails : List Tail) : Type 0 where
  pub many : length tails ≡ number
  pub limits : AllByRecursion IsWithinLimits tails
  pub within : EndWithinInputs sizes tails
  pub opened : (files : List (List ℕ)) → told ≡ map Some files → AreOpened (take number files) tails

-- the first `number` inputs, which have these bytes and sizes, are gathered
pub record IsGatheredOf (told : List (Option (List ℕ))) (sizes : List ℕ) (number : ℕ) (g : Gathered) : Type 0 where
  pub first : Tail
  pub rest : List Tail
  pub tails_are : AreTailsOf told sizes number (first ∷ rest)
  pub merges : CanMerge first (first ∷ rest)
  pub gathered : HasGathered first (first ∷ rest) g

-- `SourceFailed` comes only if that source's count of failures rose, `WriteFailed` doesn't come, and the fault in
-- `File` is one of the input's bytes
abbrev pub CountsFailure : List ℕ → List ℕ → MergeFault → Type 0
CountsFailure old new (File i e) = IsOfBytes e
CountsFailure old new (SourceFailed i) = slice_index old i < slice_index new i
CountsFailure old new WriteFailed = ⊥
CountsFailure old new _ = Unit {0}
