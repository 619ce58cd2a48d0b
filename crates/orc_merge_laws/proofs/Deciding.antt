-- Whether user metadata agrees can be decided.
use Rattle.std.proofs.Common.{◌≡◌, inl, inr, List, [], ◌∷◌, sym, ap, ◌∙◌, arith}
use Rattle.std.specs.Prelude.{Contains}
use Rattle.orc_wire.specs.declared.footer.UserMetadataItem.{UserMetadataItem}
use Rattle.orc_types.proofs.Decisions.{Decided, same_numbers}
use Rattle.orc_merger.specs.Merging.{Agree}
use Rattle.orc_merger.proofs.Names.{in_cons, in_head, in_tail, Agree-tail}

implies : {P Q : Type 0} → Decided P → Decided Q → Decided (P → Q)
implies (inl p) (inl q) = inl (λ h. q)
implies (inl p) (inr n) = inr (λ h. n (h p))
implies (inr n) d = inl (λ p. absurd (n p))

abbrev AgreesWith : UserMetadataItem → List UserMetadataItem → Type 0
AgreesWith p xs = (q : UserMetadataItem) → Contains xs q → p.name ≡ q.name → p.value ≡ q.value

agrees_cons : (p x : UserMetadataItem) (xs : List UserMetadataItem) → (p.name ≡ x.name → p.value ≡ x.value) → AgreesWith p xs → AgreesWith p (x ∷ xs)
agrees_cons p x xs here rest = λ q h n. elim (in_cons x xs q h) [
  | inl e ↦ here (n ∙ ap (λ (r : UserMetadataItem). r.name) (sym e)) ∙ ap (λ (r : UserMetadataItem). r.value) e
  | inr c ↦ rest q c n
]

with_more : (p x : UserMetadataItem) (xs : List UserMetadataItem) → Decided (p.name ≡ x.name → p.value ≡ x.value) → Decided (AgreesWith p xs)
    → Decided (AgreesWith p (x ∷ xs))
with_more p x xs (inl here) (inl rest) = inl (agrees_cons p x xs here rest)
with_more p x xs (inl here) (inr no_rest) = inr (λ a. no_rest (λ q h n. a q (in_tail x xs q h) n))
with_more p x xs (inr not_here) d = inr (λ a. not_here (λ n. a x (in_head x xs) n))

agrees_with : (p : UserMetadataItem) (xs : List UserMetadataItem) → Decided (AgreesWith p xs)
agrees_with p [] = inl (λ q h n. absurd (omega (arith, h.1)))
agrees_with p (x ∷ xs) = with_more p x xs (implies (same_numbers p.name x.name) (same_numbers p.value x.value)) (agrees_with p xs)

agree_cons : (p : UserMetadataItem) (xs : List UserMetadataItem) → AgreesWith p xs → Agree xs → Agree (p ∷ xs)
agree_cons p xs w a = λ q r c d n. elim (in_cons p xs q c) [
  | inl e ↦ elim (in_cons p xs r d) [
    | inl k ↦ ap (λ (x : UserMetadataItem). x.value) (sym e ∙ k)
    | inr k ↦ ap (λ (x : UserMetadataItem). x.value) (sym e) ∙ w r k (ap (λ (x : UserMetadataItem). x.name) e ∙ n)
  ]
  | inr e ↦ elim (in_cons p xs r d) [
    | inl k ↦ sym (w q e (ap (λ (x : UserMetadataItem). x.name) k ∙ sym n)) ∙ ap (λ (x : UserMetadataItem). x.value) k
    | inr k ↦ a q r e k n
  ]
]

agree_more : (p : UserMetadataItem) (xs : List UserMetadataItem) → Decided (AgreesWith p xs) → Decided (Agree xs) → Decided (Agree (p ∷ xs))
agree_more p xs (inl w) (inl a) = inl (agree_cons p xs w a)
agree_more p xs (inl w) (inr n) = inr (λ a. n (Agree-tail p xs a))
agree_more p xs (inr n) d = inr (λ a. n (λ q h e. a p q (in_head p xs) (in_tail p xs q h) e))

pub agreeing : (xs : List UserMetadataItem) → Decided (Agree xs)
agreeing [] = inl (λ p q c d n. absurd (omega (arith, c.1)))
agreeing (p ∷ xs) = agree_more p xs (agrees_with p xs) (agreeing xs)
