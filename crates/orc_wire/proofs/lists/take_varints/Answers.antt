use Rattle.std.proofs.Common.{inr, arith, ◌^◌, length-drop, ap, ◌∙◌, ℕ, ◌++◌, ◌∷◌, []}
use Rattle.orc_wire.proofs.ListLemmas.{appends_next, large_next}
use Rattle.orc_wire.proofs.lists.take_varints.Goals as goal

pub returns-in-Err-try_from-clause-fault : goal.returns-in-Err-try_from-clause-fault
returns-in-Err-try_from-clause-fault c =
    let h = c.in-Err-try_from.ensures in
    let is = rw c.split_at.ensures.back at c.in-Ok.ensures.found in
    inr (large_next (2 ^ 32) c.args.slot.now c.loop-at.slot c.args.bytes.now c.loop-at.at c.in-Ok.found.1 c.in-Ok.found.0 c.args.place c.loop-at.invariant.appends is (omega (arith, h)))

pub loop-at-preserved : goal.loop-at-preserved
loop-at-preserved c =
    let is = rw c.split_at.ensures.back at c.in-Ok.ensures.found in
    let within = rw c.split_at.ensures.back at c.in-Ok.ensures.within in
    let h = c.in-Ok-try_from.ensures in
    record {
      within = omega (arith, within, length-drop c.loop-at.at c.args.bytes.now);
      appends = appends_next (2 ^ 32) c.args.slot.now c.loop-at.slot c.push.new.self c.args.bytes.now c.loop-at.at c.in-Ok.found.1 c.in-Ok.found.0 c.loop-at.invariant.appends is h.0 (c.in_ok-push.ensures.ok ∙ ap (λ (t : ℕ). c.loop-at.slot ++ t ∷ []) h.1);
    }
