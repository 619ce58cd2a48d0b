use Rattle.orc_theorems.proofs.StepLemmas.{steps_wrote, first_refuses, last_refuses, first_step, first_last_step}
use Rattle.orc_theorems.proofs.merging_calls.join_in_steps.Goals as goal
use Rattle.std.proofs.lemmas.Result.{IfOk-weaker, IfErr-weaker}

pub returns-in-Ok-clause-wrote : goal.returns-in-Ok-clause-wrote
returns-in-Ok-clause-wrote c = IfOk-weaker c.join_two-in-Ok.result _ _ (λ done w.
    (steps_wrote c.merge_theorem.ensures.answered c.args.first.now c.args.second.now c.args.third.now c.in-Ok.front.bytes.items c.deref.result.now done.bytes.items
    c.in-Ok.front.tail done.tail c.in-Ok.ensures.wrote c.deref.ensures.value w).0) c.join_two-in-Ok.ensures.wrote

pub returns-in-Ok-clause-merged : goal.returns-in-Ok-clause-merged
returns-in-Ok-clause-merged c = IfOk-weaker c.join_two-in-Ok.result _ _ (λ done w.
    (steps_wrote c.merge_theorem.ensures.answered c.args.first.now c.args.second.now c.args.third.now c.in-Ok.front.bytes.items c.deref.result.now done.bytes.items
    c.in-Ok.front.tail done.tail c.in-Ok.ensures.wrote c.deref.ensures.value w).1) c.join_two-in-Ok.ensures.wrote

pub returns-in-Ok-clause-refused : goal.returns-in-Ok-clause-refused
returns-in-Ok-clause-refused c = IfErr-weaker c.join_two-in-Ok.result _ _ (λ e answer.
    last_refuses c.merge_theorem.ensures.refused c.args.first.now c.args.second.now c.args.third.now c.in-Ok.front.bytes.items c.deref.result.now c.in-Ok.front.tail e
    c.in-Ok.ensures.wrote c.deref.ensures.value answer) c.join_two-in-Ok.ensures.refused

pub returns-in-Err-clause-refused : goal.returns-in-Err-clause-refused
returns-in-Err-clause-refused c =
    first_refuses c.merge_theorem.ensures.refused c.args.first.now c.args.second.now c.args.third.now c.in-Err.fault c.in-Err.ensures.refused

pub returns-in-Ok-clause-step : goal.returns-in-Ok-clause-step
returns-in-Ok-clause-step c = IfErr-weaker c.join_two-in-Ok.result _ _ (λ e answer.
    first_last_step c.args.first.now c.args.second.now c.args.third.now c.in-Ok.front.bytes.items c.deref.result.now c.in-Ok.front.tail e
    c.in-Ok.ensures.wrote c.deref.ensures.value answer) c.join_two-in-Ok.ensures.refused

pub returns-in-Err-clause-step : goal.returns-in-Err-clause-step
returns-in-Err-clause-step c = first_step c.args.first.now c.args.second.now c.args.third.now c.in-Err.fault c.in-Err.ensures.refused

pub returns-in-Err-clause-wrote : goal.returns-in-Err-clause-wrote
returns-in-Err-clause-wrote c = tt

pub returns-in-Err-clause-merged : goal.returns-in-Err-clause-merged
returns-in-Err-clause-merged c = tt
