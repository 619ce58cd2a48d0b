use Rattle.orc_theorems.proofs.StepLemmas.{last_two_wrote, last_step, last_last_step}
use Rattle.orc_theorems.proofs.merging_calls.join_from_the_last.Goals as goal
use Rattle.std.proofs.lemmas.Result.{IfOk-weaker, IfErr-weaker}

pub returns-in-Ok-clause-wrote : goal.returns-in-Ok-clause-wrote
returns-in-Ok-clause-wrote c = IfOk-weaker c.join_two-in-Ok.result _ _ (λ done w.
    last_two_wrote c.args.first.now c.args.second.now c.args.third.now c.in-Ok.back.bytes.items c.deref.result.now done.bytes.items c.in-Ok.back.tail done.tail
    c.in-Ok.ensures.wrote c.deref.ensures.value w) c.join_two-in-Ok.ensures.wrote

pub returns-in-Ok-clause-step : goal.returns-in-Ok-clause-step
returns-in-Ok-clause-step c = IfErr-weaker c.join_two-in-Ok.result _ _ (λ e answer.
    last_last_step c.args.first.now c.args.second.now c.args.third.now c.in-Ok.back.bytes.items c.deref.result.now c.in-Ok.back.tail e
    c.in-Ok.ensures.wrote c.deref.ensures.value answer) c.join_two-in-Ok.ensures.refused

pub returns-in-Err-clause-step : goal.returns-in-Err-clause-step
returns-in-Err-clause-step c = last_step c.args.first.now c.args.second.now c.args.third.now c.in-Err.fault c.in-Err.ensures.refused

pub returns-in-Err-clause-wrote : goal.returns-in-Err-clause-wrote
returns-in-Err-clause-wrote c = tt
