-- Lists in another order, step by step.
use Rattle.std.proofs.Common.{ℕ, ◌<◌, zero, suc, List, [], ◌∷◌, length, arith}
use Rattle.std.specs.Prelude.{IsPermutation, slice_index_or, slice_set}
use Rattle.std.specs.List.{swap}
use Rattle.std.proofs.lemmas.List.Sorted.{IsPermutation-keeps}

pub data Reordered {X : Type 0} : List X → List X → Type 0 where
  nil : Reordered [] []
  cons : (x : X) (xs ys : List X) → Reordered xs ys → Reordered (x ∷ xs) (x ∷ ys)
  first_two : (x y : X) (xs : List X) → Reordered (x ∷ (y ∷ xs)) (y ∷ (x ∷ xs))
  trans : (xs ys zs : List X) → Reordered xs ys → Reordered ys zs → Reordered xs zs

pub Reordered-refl : {X : Type 0} (xs : List X) → Reordered xs xs
Reordered-refl [] = nil
Reordered-refl (x ∷ xs) = cons x xs xs (Reordered-refl xs)

-- the first exchanged with another
exchanged : {X : Type 0} (x : X) (xs : List X) (j : ℕ) (d : X) → j < length xs → Reordered (x ∷ xs) (slice_index_or xs j d ∷ slice_set xs j x)
exchanged x [] j d lt = absurd (omega (arith, lt))
exchanged x (y ∷ ys) zero d lt = first_two x y ys
exchanged x (y ∷ ys) (suc j) d lt =
    let less : j < length ys = omega (arith, lt) in
    trans _ _ _ (first_two x y ys) (trans _ _ _ (cons y _ _ (exchanged x ys j d less)) (first_two y (slice_index_or ys j d) (slice_set ys j x)))

swapped : {X : Type 0} (xs : List X) (i j : ℕ) (d : X) → i < length xs → j < length xs
    → Reordered xs (slice_set (slice_set xs i (slice_index_or xs j d)) j (slice_index_or xs i d))
swapped [] i j d a b = nil
swapped (x ∷ xs) zero zero d a b = Reordered-refl (x ∷ xs)
swapped (x ∷ xs) zero (suc j) d a b = let lt : j < length xs = omega (arith, b) in exchanged x xs j d lt
swapped (x ∷ xs) (suc i) zero d a b = let lt : i < length xs = omega (arith, a) in exchanged x xs i d lt
swapped (x ∷ xs) (suc i) (suc j) d a b =
    let l : i < length xs = omega (arith, a) in let m : j < length xs = omega (arith, b) in
    cons x _ _ (swapped xs i j d l m)

of_swap : {X : Type 0} (l : List X) (i j : ℕ) → i < length l → j < length l → Reordered l (swap l i j)
of_swap [] i j a b = nil
of_swap (x ∷ xs) i j a b = swapped (x ∷ xs) i j x a b

pub of_permutation : {X : Type 0} (xs ys : List X) → IsPermutation xs ys → Reordered xs ys
of_permutation {X} xs ys p = IsPermutation-keeps xs (λ (zs : List X). Reordered xs zs) (Reordered-refl xs)
    (λ l i j a b r. trans xs l (swap l i j) r (of_swap l i j a b)) ys p
