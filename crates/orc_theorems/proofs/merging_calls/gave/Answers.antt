use Rattle.std.proofs.Common.{◌∙◌, sym}
use Rattle.orc_theorems.proofs.merging_calls.gave.Goals as goal

pub returns-in-Ok-clause-gave : goal.returns-in-Ok-clause-gave
returns-in-Ok-clause-gave c =
    let same = c.is_same.ensures in
    (c.in-Ok.done, c.in-Ok.is, (λ yes. sym c.deref.ensures.value ∙ same.0 yes, λ is. same.1 (c.deref.ensures.value ∙ is)))
