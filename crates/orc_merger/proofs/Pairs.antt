-- Pairs of user metadata are added one after the other.
use Rattle.std.proofs.Common.{◌≡◌, ◌≢◌, inl, inr, List, [], ◌∷◌, ◌++◌, Bool, true, false, refl, sym, ap, ◌∙◌, subst, arith, append-nil}
use Rattle.std.specs.Prelude.{Contains, not, cond}
use Rattle.std.specs.List.{All}
use Rattle.std.specs.Cmp.Lexicographic.{same_text, other_text}
use Rattle.std.proofs.lemmas.List.Elements.{filter-append, Contains-append_left, Contains-append_right, Contains-append_cases}
use Rattle.orc_wire.specs.declared.footer.UserMetadataItem.{UserMetadataItem}
use Rattle.orc_merger.specs.Merging.{same_name, without, distinct, Agree}
use Rattle.orc_merger.specs.PairPlaces.{ArePairPlaces}
use Rattle.orc_merger.specs.Gathering.{HasPairs}
use Rattle.orc_merger.specs.declared.user_pairs.UserPairs.{UserPairs}
use Rattle.orc_merger.proofs.Names.{distinct-without, in_cons, in_head, in_tail, in_distinct, into_distinct}

differ_by : (p q : UserMetadataItem) → (p.name ≡ q.name → ⊥) → (b : Bool) → same_name p q ≡ b → b ≡ false
differ_by p q ne true e = absurd (ne (same_text p.name q.name (sym e)))
differ_by p q ne false e = refl

same_by : (p q : UserMetadataItem) → p.name ≡ q.name → (b : Bool) → same_name p q ≡ b → b ≡ true
same_by p q n true e = refl
same_by p q n false e = absurd (other_text p.name q.name (sym e) n)

other_stays : (p q : UserMetadataItem) → (p.name ≡ q.name → ⊥) → without p (q ∷ []) ≡ q ∷ []
other_stays p q ne = ap (λ (b : Bool). cond (not b) (q ∷ []) []) (differ_by p q ne (same_name p q) refl)

same_goes : (p q : UserMetadataItem) → p.name ≡ q.name → without p (q ∷ []) ≡ []
same_goes p q n = ap (λ (b : Bool). cond (not b) (q ∷ []) []) (same_by p q n (same_name p q) refl)

distinct-push_new : (xs : List UserMetadataItem) (p : UserMetadataItem) → ((r : UserMetadataItem) → Contains xs r → r.name ≡ p.name → ⊥)
    → distinct (xs ++ p ∷ []) ≡ distinct xs ++ p ∷ []
distinct-push_new [] p ne = refl
distinct-push_new (q ∷ xs) p ne =
    let t : UserMetadataItem → Bool = λ x. not (same_name q x) in
    ap (λ (r : List UserMetadataItem). q ∷ without q r) (distinct-push_new xs p (λ r h. ne r (in_tail q xs r h)))
    ∙ ap (λ (r : List UserMetadataItem). q ∷ r) (filter-append t (distinct xs) (p ∷ []) ∙ ap (λ (r : List UserMetadataItem). without q (distinct xs) ++ r) (other_stays q p (ne q (in_head q xs))))

distinct-push_old : (xs : List UserMetadataItem) (p q : UserMetadataItem) → Contains xs q → q.name ≡ p.name → distinct (xs ++ p ∷ []) ≡ distinct xs
distinct-push_old [] p q h n = absurd (omega (arith, h.1))
distinct-push_old (x ∷ xs) p q h n =
    let t : UserMetadataItem → Bool = λ y. not (same_name x y) in
    elim (in_cons x xs q h) [
      | inl e ↦
          ap (λ (r : List UserMetadataItem). x ∷ r) (sym (distinct-without x (xs ++ p ∷ []))
          ∙ ap distinct (filter-append t xs (p ∷ []) ∙ ap (λ (r : List UserMetadataItem). without x xs ++ r) (same_goes x p (ap (λ (y : UserMetadataItem). y.name) e ∙ n)) ∙ append-nil (without x xs))
          ∙ distinct-without x xs)
      | inr c ↦ ap (λ (r : List UserMetadataItem). x ∷ without x r) (distinct-push_old xs p q c n)
    ]

single : (p q : UserMetadataItem) → Contains (p ∷ []) q → p ≡ q
single p q c = elim (in_cons p [] q c) [ inl e ↦ e | inr h ↦ absurd (omega (arith, h.1)) ]

agree_push : (xs : List UserMetadataItem) (p : UserMetadataItem) → Agree xs → ((r : UserMetadataItem) → Contains xs r → r.name ≡ p.name → r.value ≡ p.value) → Agree (xs ++ p ∷ [])
agree_push xs p a w = λ q r c d n. elim (Contains-append_cases xs (p ∷ []) q c) [
  | inl cq ↦ elim (Contains-append_cases xs (p ∷ []) r d) [
    | inl cr ↦ a q r cq cr n
    | inr cr ↦ let e = single p r cr in w q cq (n ∙ ap (λ (x : UserMetadataItem). x.name) (sym e)) ∙ ap (λ (x : UserMetadataItem). x.value) e
  ]
  | inr cq ↦ let e = single p q cq in elim (Contains-append_cases xs (p ∷ []) r d) [
    | inl cr ↦ sym (w r cr (sym n ∙ ap (λ (x : UserMetadataItem). x.name) (sym e)) ∙ ap (λ (x : UserMetadataItem). x.value) e)
    | inr cr ↦ ap (λ (x : UserMetadataItem). x.value) (sym e ∙ single p r cr)
  ]
]

-- no pair that is kept has the name, and this one is put behind them
pub pairs_new : (before : List UserMetadataItem) (old new : UserPairs) (p : UserMetadataItem) → HasPairs before old → All (λ (q : UserMetadataItem). q.name ≢ p.name) old.pairs.items
    → new.pairs.items ≡ old.pairs.items ++ p ∷ [] → ArePairPlaces new.pairs.items new.places → HasPairs (before ++ p ∷ []) new
pairs_new before old new p h all more places =
    let kept : List UserMetadataItem = old.pairs.items in
    let none : (r : UserMetadataItem) → Contains before r → r.name ≡ p.name → ⊥ = λ r c n.
    let k : Contains kept r = subst (λ (xs : List UserMetadataItem). Contains xs r) (sym h.kept_are) (into_distinct before r h.agree c) in
    all k.0 r k.1 (ap (λ (x : UserMetadataItem). x.name) k.2 ∙ n) in
    record {
      agree = agree_push before p h.agree (λ r c n. absurd (none r c n));
      kept_are = more ∙ ap (λ (xs : List UserMetadataItem). xs ++ p ∷ []) h.kept_are ∙ sym (distinct-push_new before p none);
      places = places;
    }

-- one does, with the same value
pub pairs_same : (before : List UserMetadataItem) (kept : UserPairs) (p q : UserMetadataItem) → HasPairs before kept → Contains kept.pairs.items q → q.name ≡ p.name → q.value ≡ p.value
    → HasPairs (before ++ p ∷ []) kept
pairs_same before kept p q h c n v =
    let there : Contains before q = in_distinct before q (subst (λ (xs : List UserMetadataItem). Contains xs q) h.kept_are c) in
    record {
      agree = agree_push before p h.agree (λ r d m. h.agree r q d there (m ∙ sym n) ∙ v);
      kept_are = h.kept_are ∙ sym (distinct-push_old before p q there n);
      places = h.places;
    }

-- one does, with another value
pub pairs_conflict : (before more : List UserMetadataItem) (kept : UserPairs) (p q : UserMetadataItem) → HasPairs before kept → Contains kept.pairs.items q → q.name ≡ p.name → (q.value ≡ p.value → ⊥)
    → Agree (before ++ p ∷ more) → ⊥
pairs_conflict before more kept p q h c n ne a =
    let there : Contains before q = in_distinct before q (subst (λ (xs : List UserMetadataItem). Contains xs q) h.kept_are c) in
    ne (a q p (Contains-append_left before (p ∷ more) q there) (Contains-append_right before (p ∷ more) p (in_head p more)) n)
