use Rattle.std.proofs.Common.{[], ◌∷◌, inl, inr}
use Rattle.std.proofs.lemmas.Result.{err_from_is_err_and}
use Rattle.orc_merge_laws.specs.Grouping.{input, one, and}
use Rattle.orc_theorems.specs.Groupings.{pair}
use Rattle.orc_theorems.proofs.Told.{three_told}
use Rattle.orc_theorems.proofs.StepLemmas.{only_step}
use Rattle.orc_theorems.proofs.merging_calls.join_both_ways.Goals as goal

pub returns-in-Ok-clause-wrote : goal.returns-in-Ok-clause-wrote
returns-in-Ok-clause-wrote g c = c.in_ok-steps.ensures.wrote

pub returns-in-Ok-clause-bytes : goal.returns-in-Ok-clause-bytes
returns-in-Ok-clause-bytes g c =
    let a = c.args.first.now in
    let b = c.args.second.now in
    let d = c.args.third.now in
    let told = three_told _ _ _ a b d c.new.ensures.told c.new-2.ensures.told c.new-3.ensures.told in
    c.merge_theorem.ensures.bytes (and (pair a b) (one (input d))) _ c.in_ok-steps.steps.bytes.items _ _ c.in_ok-steps.ensures.wrote (c.in-Ok.ensures.merged (a ∷ b ∷ d ∷ []) told)

pub returns-in-Ok-clause-merged : goal.returns-in-Ok-clause-merged
returns-in-Ok-clause-merged g c =
    let a = c.args.first.now in
    let b = c.args.second.now in
    let d = c.args.third.now in
    c.merge_theorem.ensures.merged (and (pair a b) (one (input d))) c.in_ok-steps.steps.bytes.items c.in_ok-steps.ensures.wrote

pub returns-in-Err-clause-refused : goal.returns-in-Err-clause-refused
returns-in-Err-clause-refused g c =
    let a = c.args.first.now in
    let b = c.args.second.now in
    let d = c.args.third.now in
    let told = three_told _ _ _ a b d c.new.ensures.told c.new-2.ensures.told c.new-3.ensures.told in
    inr (only_step a b d c.in-Err.fault (c.in-Err.ensures.refused (a ∷ b ∷ d ∷ []) told))

pub returns-in_err-steps-clause-refused : goal.returns-in_err-steps-clause-refused
returns-in_err-steps-clause-refused g c =
    let p = err_from_is_err_and c.from_residual.result c.from_residual.ensures.1 in
    rw (p.1, p.2) (inl c.in_err-steps.ensures.step)
