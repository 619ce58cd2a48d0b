use Rattle.std.proofs.Common.{[], ◌∷◌, refl, inr}
use Rattle.orc_theorems.proofs.Told.{two_told}
use Rattle.orc_theorems.proofs.StepLemmas.{two_wrote, gave_vector}
use Rattle.orc_theorems.proofs.merging_calls.in_two_steps.Goals as goal
use Rattle.std.proofs.lemmas.Result.{IfOk-weaker, IfErr-weaker}

pub returns-clause-merged : goal.returns-clause-merged
returns-clause-merged g c =
    let first = c.in_ok-first.first.items in
    let second = c.in_ok-second.second.items in
    let told = two_told _ _ _ _ _ _ c.new.ensures.told c.deref.ensures.value c.new-2.ensures.told c.deref-2.ensures.value in
    IfOk-weaker c.merge.result _ _ (λ tail w xs ys left right.
    let one = c.in_ok-first.ensures.merged xs left in
    let two = c.in_ok-second.ensures.merged ys right in
    two_wrote c.merge_theorem.ensures.answered xs ys one.0 two.0 tail first second _ _ _ _ _ _ refl refl one.1 refl refl two.1 (w (first ∷ second ∷ []) told)) c.merge.ensures.merged

pub returns-clause-refused : goal.returns-clause-refused
returns-clause-refused g c =
    let first = c.in_ok-first.first.items in
    let second = c.in_ok-second.second.items in
    let told = two_told _ _ _ _ _ _ c.new.ensures.told c.deref.ensures.value c.new-2.ensures.told c.deref-2.ensures.value in
    IfErr-weaker c.merge.result _ _ (λ e answer xs ys left right.
    let one = c.in_ok-first.ensures.merged xs left in
    let two = c.in_ok-second.ensures.merged ys right in
    inr (inr (first, second, gave_vector xs one.0 _ _ first refl refl one.1, gave_vector ys two.0 _ _ second refl refl two.1, answer (first ∷ second ∷ []) told))) c.merge.ensures.refused
