use Rattle.std.proofs.Common.{◌≡◌, ◌∙◌, inl, inr, rules}
use Rattle.orc_tail.specs.declared.fault.FileFault.TheVariants.{SourceFailed, OutOfMemory}
use Rattle.orc_merger.proofs.InputsRead.{tail_unfound}
use Rattle.orc_merger.proofs.gathering.tail_of.Goals as goal

pub returns-in-Err-clause-fault : goal.returns-in-Err-clause-fault
returns-in-Err-clause-fault g c =
    let source : c.in-Err.fault ≡ SourceFailed → ⊥ = search rules in
    let memory : c.in-Err.fault ≡ OutOfMemory → ⊥ = search rules in
    tail_unfound c.args.number _ c.in-Err.fault source memory c.in-Err.ensures.fault c.in-Err.ensures.named

pub returns-in-Err-clause-source : goal.returns-in-Err-clause-source
returns-in-Err-clause-source g c =
    let e = c.in-Err.ensures.source in
    let rest = c.rest.ensures in
    let source : c.in-Err.fault ≡ SourceFailed → ⊥ = search rules in
    record {
      told = rest.told ∙ e.told;
      size = rest.size ∙ e.size;
      kept = tt;
      failed = λ is. cc;
      others = elim e.others [ inl is ↦ absurd (source is) | inr same ↦ inr (rest.failures ∙ same) ];
    }
