use Rattle.std.proofs.Common.{rules, ◌≡◌, ◌+◌, take, sym, ap, ◌∙◌, subst}
use Rattle.orc_stripe_writer.proofs.EachOnceLemmas.{AreFound, new_item, old_item, all_found, too_many, absent_by, present_by}
use Rattle.orc_stripe_writer.proofs.dictionary.each_once.Goals as goal
use Rattle.orc_stripe_writer.proofs.dictionary.each_once.Goals.{then-branch+in_ok-push, else-branch}

pub loop-item-preserved : goal.loop-item-preserved
loop-item-preserved g c =
    let item = c.item-item.result in
    let items = c.args.items.now in
    let i = c.loop-item.item-index in
    let old = c.loop-item.seen.keys in
    let new = c.insert.new.self.keys in
    elim c.if-branch.branch [
      | then-branch+in_ok-push w ↦
          let found = new_item g.met.K.Eq.laws items old new c.loop-item.few.items i item (search rules) (search rules) c.loop-item.invariant (absent_by _ _ c.in_ok-insert.ensures.added w.if-branch.true) c.in_ok-insert.ensures.updates.0 in
          subst (λ few. AreFound g.met.K.Eq.laws (take (i + 1) items) new few) (sym (ap (λ v. v.items) w.few-is ∙ w.in_ok-push.ensures.items)) found
      | else-branch w ↦
          let found = old_item g.met.K.Eq.laws items old c.loop-item.few.items i item (search rules) (search rules) c.loop-item.invariant (present_by _ _ c.in_ok-insert.ensures.added w.if-branch.false) in
          let same : new ≡ old = search (rules, c.in_ok-insert.ensures.unchanged, w.if-branch.false) in
          subst (λ few. AreFound g.met.K.Eq.laws (take (i + 1) items) new few) (sym (ap (λ v. v.items) w.few-is)) (subst (λ keys. AreFound g.met.K.Eq.laws (take (i + 1) items) keys c.loop-item.few.items) (sym same) found)
    ]

pub returns-then-not-is_worth : goal.returns-then-not-is_worth
returns-then-not-is_worth g c = too_many g.met.K.Eq.laws c.args.items.now c.loop-item.seen.keys c.loop-item.few.items c.loop-item.item-index c.loop-item.invariant (search rules)

pub returns : goal.returns
returns g c = all_found g.met.K.Eq.laws c.args.items.now c.loop-item.seen.keys c.loop-item.few.items c.loop-item.item-index (search rules) c.loop-item.invariant
