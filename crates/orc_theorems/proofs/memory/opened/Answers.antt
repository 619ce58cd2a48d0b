use Rattle.std.proofs.Common.{◌≡◌, ◌⊎◌, ◌∙◌, ℕ, List}
use Rattle.orc_io.proofs.Told.{at_told}
use Rattle.orc_tail.specs.Tails.{IsTail}
use Rattle.orc_tail.specs.declared.tail.Tail.{Tail}
use Rattle.orc_tail.specs.declared.fault.FileFault.TheVariants.{SourceFailed, OutOfMemory}
use Rattle.orc_theorems.proofs.memory.opened.Goals as goal

pub returns-in-Ok-clause-found : goal.returns-in-Ok-clause-found
returns-in-Ok-clause-found c = at_told _ c.args.bytes.now (λ (b : List ℕ). IsTail b c.in-Ok.file.tail) c.new.ensures.told c.in-Ok.ensures.found

pub returns-in-Ok-clause-told : goal.returns-in-Ok-clause-told
returns-in-Ok-clause-told c = c.in-Ok.ensures.source.told ∙ c.new.ensures.told

pub returns-in-Err-clause-only : goal.returns-in-Err-clause-only
returns-in-Err-clause-only c =
    at_told _ c.args.bytes.now (λ (b : List ℕ). (tail : Tail) → IsTail b tail → (c.in-Err.fault ≡ OutOfMemory) ⊎ (c.in-Err.fault ≡ SourceFailed)) c.new.ensures.told c.in-Err.ensures.only
