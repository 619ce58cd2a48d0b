use Rattle.std.proofs.Common.{◌≡◌, List, ◌∷◌, ◌++◌, sym, ap, ◌∙◌, subst, append_assoc, inl, inr}
use Rattle.orc_wire.specs.declared.footer.UserMetadataItem.{UserMetadataItem}
use Rattle.orc_merger.specs.Merging.{Agree}
use Rattle.orc_merger.proofs.user_pairs.UserPairs.add_pairs.Goals as goal

pub returns-in-Err-clause-fault : goal.returns-in-Err-clause-fault
returns-in-Err-clause-fault c = elim c.in-Err.ensures.fault [
  | inl e ↦ inl e
  | inr p ↦ inr (
    p.0,
    λ before h a.
        let rest : List UserMetadataItem = c.next.new.self.rest.items in
        let cut : c.loop-pair.pair-iterator.rest.items ≡ c.in-Some.pair ∷ rest = c.in-Some.ensures.steps.0 in
        p.1 (before ++ c.loop-pair.yielded) rest (c.loop-pair.invariant.pairs before h)
        (subst Agree (ap (λ xs. before ++ xs) (sym c.loop-pair.invariant.whole ∙ ap (λ xs. c.loop-pair.yielded ++ xs) cut) ∙ sym (append_assoc before c.loop-pair.yielded (c.in-Some.pair ∷ rest))) a),
  )
]
