use Rattle.std.specs.Prelude.{◌≡◌, ℕ, List, ◌⊎◌, Option, Some, None}
use Rattle.std.proofs.Common.{inl, inr}
use Rattle.std.specs.Option.{IfSome}
use Rattle.orc_tail.specs.Tails.{ReadFault}
use Rattle.orc_tail.specs.Caps.{capped_tests, IsCappedTail, CappedFault}
use Rattle.orc_tail.specs.declared.tail.Tail.{Tail}
use Rattle.orc_tail.specs.declared.fault.FileFault.{FileFault}
use Rattle.orc_tail.specs.declared.fault.FileFault.TheVariants.{SourceFailed, OutOfMemory}
use Rattle.orc_file_reader.proofs.file.OrcFile.open_capped.Goals as goal

only_found : (told : Option (List ℕ)) (cap : ℕ) (a : Tail) → IfSome told (λ bytes. IsCappedTail cap bytes a) → IfSome told (λ bytes. (tail : Tail) → IsCappedTail cap bytes tail → a ≡ tail)
only_found None cap a h = tt
only_found (Some bytes) cap a h = λ tail is. (capped_tests cap bytes).one a tail h is

only_failed : (told : Option (List ℕ)) (cap : ℕ) (fault : FileFault) → ReadFault told fault (λ bytes. CappedFault cap bytes fault)
    → IfSome told (λ bytes. (tail : Tail) → IsCappedTail cap bytes tail → (fault ≡ OutOfMemory) ⊎ (fault ≡ SourceFailed))
only_failed None cap fault h = tt
only_failed (Some bytes) cap fault (inl memory) = λ tail is. inl memory
only_failed (Some bytes) cap fault (inr (inl source)) = λ tail is. inr source
only_failed (Some bytes) cap fault (inr (inr bad)) = λ tail is. absurd ((capped_tests cap bytes).none tail fault bad is)

pub returns-in-Ok-clause-only : goal.returns-in-Ok-clause-only
returns-in-Ok-clause-only g c = only_found (g.S.Source.told c.args.source) c.args.cap c.in-Ok.tail c.in-Ok.ensures.found

pub returns-in-Err-clause-only : goal.returns-in-Err-clause-only
returns-in-Err-clause-only g c = only_failed (g.S.Source.told c.args.source) c.args.cap c.in-Err.fault c.in-Err.ensures.fault
