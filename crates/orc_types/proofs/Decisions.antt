-- What can be decided: it holds, or it leads to a contradiction.
use Rattle.std.proofs.Common.{◌≡◌, ℕ, ◌≤◌, List, [], ◌∷◌, refl, arith, inl, inr}
use Rattle.std.specs.Prelude.{◌⊎◌}
use Rattle.std.proofs.lemmas.Bool.Decides.{eqb_tells, leb_tells}

abbrev pub Decided : Type 0 → Type 0
Decided P = P ⊎ (P → ⊥)

pub both : {P Q : Type 0} → Decided P → Decided Q → Decided (P × Q)
both (inl p) (inl q) = inl (p, q)
both (inl p) (inr q) = inr (λ h. q h.1)
both (inr p) q = inr (λ h. p h.0)

pub same_number : (m n : ℕ) → Decided (m ≡ n)
same_number m n = elim (eqb_tells m n) [ inl p ↦ inl p.1 | inr p ↦ inr p.1 ]

pub at_most : (m n : ℕ) → Decided (m ≤ n)
at_most m n = elim (leb_tells m n) [ inl p ↦ inl p.1 | inr p ↦ inr (λ le. omega (arith, p.1, le)) ]

pub same_list : {X : Type 0} → ((x y : X) → Decided (x ≡ y)) → (xs ys : List X) → Decided (xs ≡ ys)
same_list same [] [] = inl refl
same_list same [] (y ∷ ys) = inr (λ e. cc)
same_list same (x ∷ xs) [] = inr (λ e. cc)
same_list {X} same (x ∷ xs) (y ∷ ys) = by (same x y) (same_list same xs ys) where
  by : Decided (x ≡ y) → Decided (xs ≡ ys) → Decided (x ∷ xs ≡ y ∷ ys)
  by (inr other) q = inr (λ e. let first : x ≡ y = cc in other first)
  by (inl p) (inr other) = inr (λ e. let rest : xs ≡ ys = cc in other rest)
  by (inl p) (inl q) = inl (rw (p, q) refl)

pub same_numbers : (xs ys : List ℕ) → Decided (xs ≡ ys)
same_numbers = same_list same_number
