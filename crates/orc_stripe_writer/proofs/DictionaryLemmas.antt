-- Dictionaries of texts as they are written.
use Rattle.std.proofs.Common.{◌≡◌, ℕ, zero, suc, List, [], ◌∷◌, map, nat_eq, refl, sym, ap, subst, ◌∙◌, arith, inl, inr, ◌⊎◌}
use Rattle.std.specs.List.{Contains, AllByRecursion, dedup}
use Rattle.std.specs.List.Sorted.{IsStrictlySortedBy, IsSorted, IsPermutation}
use Rattle.std.specs.List.Retain.{IsFiltered, DiffersFromLast}
use Rattle.std.specs.Ordering.{nat_cmp, ordering_index, ordering_reverse}
use Rattle.std.specs.declared.cmp.Ordering.{Ordering}
use Rattle.std.specs.declared.cmp.Ordering.TheVariants.{Less, Equal, Greater}
use Rattle.std.specs.Cmp.{on_equiv, unsigned_ties}
use Rattle.std.specs.Cmp.Lexicographic.{slice_cmp, pointwise, same_text, lists_ties, on_texts}
use Rattle.std.proofs.lemmas.Cmp.{tied_itself, nat_list_eq_equiv, nat_list_cmp_total}
use Rattle.std.proofs.lemmas.Map.Lookups.{exact_bytes}
use Rattle.std.proofs.lemmas.List.Filters.{dedup_is}
use Rattle.std.proofs.lemmas.List.Kept.{IsStrictlySortedBy-dedup, Any-dedup, Contains-from_dedup}
use Rattle.std.proofs.lemmas.List.Sorted.{Contains-permutation, IsPermutation-sym}
use Rattle.orc_stripe_writer.specs.Dictionary.{AreDistinct}

-- an element whose image is there
pub record Image {X Y : Type 0} (f : X → Y) (xs : List X) (t : Y) : Type 0 where
  pub of : X
  pub there : Contains xs of
  pub is : f of ≡ t

pub from_map : {X Y : Type 0} (f : X → Y) (xs : List X) (t : Y) → Contains (map f xs) t → Image f xs t
from_map f [] t h = absurd (omega (arith, h.1))
from_map f (x ∷ xs) t (zero, lt, e) = record { of = x; there = (zero, omega arith, refl); is = e }
from_map f (x ∷ xs) t (suc k, lt, e) =
    let r = from_map f xs t (k, omega (arith, lt), e) in
    record { of = r.of; there = (suc r.there.0, omega (arith, r.there.1), r.there.2); is = r.is }

pub to_map : {X Y : Type 0} (f : X → Y) (xs : List X) (x : X) → Contains xs x → Contains (map f xs) (f x)
to_map f [] x h = absurd (omega (arith, h.1))
to_map f (y ∷ xs) x (zero, lt, e) = (zero, omega arith, ap f e)
to_map f (y ∷ xs) x (suc k, lt, e) =
    let r = to_map f xs x (k, omega (arith, lt), e) in
    (suc r.0, omega (arith, r.1), r.2)

less_map : {X Y : Type 0} (f : X → Y) (c : Y → Y → Ordering) (x : X) (xs : List X) → AllByRecursion (λ y. c (f x) (f y) ≡ Less) xs → AllByRecursion (λ y. c (f x) y ≡ Less) (map f xs)
less_map f c x [] h = tt
less_map f c x (y ∷ xs) h = (h.0, less_map f c x xs h.1)

sorted_map : {X Y : Type 0} (f : X → Y) (c : Y → Y → Ordering) (xs : List X) → IsStrictlySortedBy (λ x y. c (f x) (f y)) xs → IsStrictlySortedBy c (map f xs)
unfolding IsStrictlySortedBy
sorted_map f c [] h = tt
sorted_map f c (x ∷ xs) h = (less_map f c x xs h.0, sorted_map f c xs h.1)

-- after a sort and a dedup each text is there once
pub distinct_are : {X : Type 0} (now : X → List ℕ) (old sorted new : List X) → IsPermutation old sorted → IsSorted (λ x y. slice_cmp nat_cmp (now x) (now y)) sorted
    → IsFiltered (DiffersFromLast (λ x y. pointwise nat_eq (now x) (now y))) [] sorted new → AreDistinct (map now old) (map now new)
distinct_are {X = X} now old sorted new moved ordered kept =
    let same = λ (x y : X). pointwise nat_eq (now x) (now y) in
    let is : new ≡ dedup same sorted = dedup_is same sorted new kept in
    record {
      ascend = rw is (sorted_map now (slice_cmp nat_cmp) (dedup same sorted) (IsStrictlySortedBy-dedup (on_texts now) (λ x y. lists_ties nat_cmp unsigned_ties (now x) (now y)) sorted ordered));
      there = λ text h.
          let a = from_map now old text h in
          let b = Any-dedup (on_equiv now nat_list_eq_equiv) sorted a.of (Contains-permutation old sorted a.of moved a.there) in
          let equal : now a.of ≡ now b.1 = same_text (now a.of) (now b.1) (sym b.4) in
          let found = to_map now (dedup same sorted) b.1 (b.0, b.2, b.3) in
          rw is (subst (λ (t : List ℕ). Contains (map now (dedup same sorted)) t) (sym equal ∙ a.is) found);
      used = λ text h.
          let a = from_map now (dedup same sorted) text (rw is at h) in
          let b = Contains-permutation sorted old a.of (IsPermutation-sym old sorted moved) (Contains-from_dedup same sorted a.of a.there) in
          subst (λ (t : List ℕ). Contains (map now old) t) a.is (to_map now old a.of b);
    }

pub in_tail : (x t : List ℕ) (xs : List (List ℕ)) → Contains (x ∷ xs) t → (x ≡ t) ⊎ Contains xs t
in_tail x t xs (zero, lt, e) = inl e
in_tail x t xs (suc k, lt, e) = inr (k, omega (arith, lt), e)

pub less_in : (x t : List ℕ) (xs : List (List ℕ)) → AllByRecursion (λ y. slice_cmp nat_cmp x y ≡ Less) xs → Contains xs t → slice_cmp nat_cmp x t ≡ Less
less_in x t [] h c = absurd (omega (arith, c.1))
less_in x t (y ∷ xs) h c = elim (in_tail y t xs c) [ inl e ↦ subst (λ (z : List ℕ). slice_cmp nat_cmp x z ≡ Less) e h.0 | inr more ↦ less_in x t xs h.1 more ]

pub not_itself : (x : List ℕ) → slice_cmp nat_cmp x x ≡ Less → ⊥
not_itself x h = let bad : Equal ≡ Less = sym (tied_itself nat_list_cmp_total x) ∙ h in omega (arith, ap ordering_index bad)

-- no text stands before both of two that are the first of one list
first_there : (x y : List ℕ) (ys : List (List ℕ)) → AllByRecursion (λ z. slice_cmp nat_cmp y z ≡ Less) ys → Contains (y ∷ ys) x → slice_cmp nat_cmp x y ≡ Less → ⊥
first_there x y ys h there less =
    elim (in_tail y x ys there) [
      | inl e ↦ not_itself x (subst (λ (z : List ℕ). slice_cmp nat_cmp x z ≡ Less) e less)
      | inr more ↦ not_itself x (nat_list_cmp_total.trans x y x less (less_in y x ys h more))
    ]

first_same : (x y : List ℕ) (r : Ordering) → slice_cmp nat_cmp x y ≡ r → (slice_cmp nat_cmp x y ≡ Less → ⊥) → (slice_cmp nat_cmp y x ≡ Less → ⊥) → x ≡ y
first_same x y Less h not_less not_more = absurd (not_less h)
first_same x y Equal h not_less not_more = exact_bytes x y h
first_same x y Greater h not_less not_more = absurd (not_more (nat_list_cmp_total.antisymm y x ∙ ap ordering_reverse h))

rest_there : (x y t : List ℕ) (xs ys : List (List ℕ)) → x ≡ y → AllByRecursion (λ z. slice_cmp nat_cmp x z ≡ Less) xs → Contains xs t → Contains (y ∷ ys) t → Contains ys t
rest_there x y t xs ys same h c d =
    elim (in_tail y t ys d) [ inl e ↦ absurd (not_itself x (subst (λ (z : List ℕ). slice_cmp nat_cmp x z ≡ Less) (sym (same ∙ e)) (less_in x t xs h c))) | inr more ↦ more ]

pub here : (x : List ℕ) (xs : List (List ℕ)) → Contains (x ∷ xs) x
here x xs = (zero, omega arith, refl)

pub later : (x t : List ℕ) (xs : List (List ℕ)) → Contains xs t → Contains (x ∷ xs) t
later x t xs c = (suc c.0, omega (arith, c.1), c.2)

-- texts in order are one list
pub same_texts : (v w : List (List ℕ)) → IsStrictlySortedBy (slice_cmp nat_cmp) v → IsStrictlySortedBy (slice_cmp nat_cmp) w → ((t : List ℕ) → Contains v t → Contains w t) → ((t : List ℕ) → Contains w t → Contains v t) → v ≡ w
unfolding IsStrictlySortedBy
same_texts [] [] p q f g = refl
same_texts [] (y ∷ w) p q f g = let c = g y (here y w) in absurd (omega (arith, c.1))
same_texts (x ∷ v) [] p q f g = let c = f x (here x v) in absurd (omega (arith, c.1))
same_texts (x ∷ v) (y ∷ w) p q f g =
    let first = first_same x y _ refl (first_there x y w q.0 (f x (here x v))) (first_there y x v p.0 (g y (here y w))) in
    let rest = same_texts v w p.1 q.1 (λ t c. rest_there x y t v w first p.0 c (f t (later x t v c))) (λ t c. rest_there y x t w v (sym first) q.0 c (g t (later y t w c))) in
    ap (λ (t : List ℕ). t ∷ v) first ∙ ap (λ (t : List (List ℕ)). y ∷ t) rest

pub one_distinct : (values e f : List (List ℕ)) → AreDistinct values e → AreDistinct values f → e ≡ f
one_distinct values e f p q = same_texts e f p.ascend q.ascend (λ t c. q.there t (p.used t c)) (λ t c. p.there t (q.used t c))
