use Rattle.std.proofs.Common.{refl, sym, ◌∙◌, inr}
use Rattle.orc_wire.specs.declared.footer.UserMetadataItem.{UserMetadataItem}
use Rattle.orc_merger.specs.declared.user_pairs.UserPairs.{UserPairs}
use Rattle.orc_merger.proofs.Pairs.{pairs_new, pairs_same, pairs_conflict}
use Rattle.orc_merger.proofs.user_pairs.UserPairs.add_pair.Goals as goal

pub returns-in-None-clause-added : goal.returns-in-None-clause-added
returns-in-None-clause-added c = λ before h.
    let kept : UserPairs = c.args.self.now in
    pairs_new before kept c.push.new.self c.args.pair h (rw c.as_slice.ensures at (c.in-None.ensures.none h.places)) c.in_ok-push-in-None.ensures.pairs (c.in_ok-push-in-None.ensures.places h.places)

pub returns-then-is_same-clause-added : goal.returns-then-is_same-clause-added
returns-then-is_same-clause-added c = λ before h.
    let q : UserMetadataItem = c.in-Some.same.now in
    let found = c.in-Some.ensures.found h.places in
    pairs_same before c.args.self.now c.args.pair q h found.0 (found.1 ∙ c.as_slice.ensures)
    (sym c.as_slice-in-Some-2.ensures ∙ c.if-is_same.ensures.yes ∙ c.as_slice-in-Some.ensures)

pub returns-clause-fault : goal.returns-clause-fault
returns-clause-fault c = inr (
  refl,
  λ before more h.
      let q : UserMetadataItem = c.in-Some.same.now in
      let found = c.in-Some.ensures.found h.places in
      pairs_conflict before more c.args.self.now c.args.pair q h found.0 (found.1 ∙ c.as_slice.ensures)
      (λ e. c.if-is_same.ensures.no (c.as_slice-in-Some-2.ensures ∙ e ∙ sym c.as_slice-in-Some.ensures)),
)
