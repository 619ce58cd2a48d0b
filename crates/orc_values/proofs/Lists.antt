-- Lists: one element more, and elements dropped.
use Rattle.std.proofs.Common.{◌≡◌, ℕ, zero, suc, ◌+◌, Some, List, [], ◌∷◌, ◌++◌, length, slice_get, refl, arith, inl, inr, ◌⊎◌, drop, sym, ap, ◌∙◌, take, map, None, sum, ◌-◌, pos, Bool, true, false, ◌≤◌}
use Rattle.std.specs.List.{AllByRecursion}
use Rattle.orc_values.specs.Cells.{Cell, null, leaf, list, struct, pairs, values, is_value}
use Rattle.std.proofs.lemmas.List.Sums.{sum_by-cons, sum_by-append}
use Rattle.orc_values.specs.Trues.{trues}

pub pushed_get : {X : Type 0} (xs : List X) (y : X) (c : ℕ) (r : X) → slice_get (xs ++ y ∷ []) c ≡ Some r → (slice_get xs c ≡ Some r) ⊎ ((c ≡ length xs) × (y ≡ r))
pushed_get [] y zero r e = inr (refl, cc)
pushed_get [] y (suc c) r e = absurd cc
pushed_get (x ∷ xs) y zero r e = inl e
pushed_get (x ∷ xs) y (suc c) r e = elim (pushed_get xs y c r e) [
  | inl h ↦ inl h
  | inr h ↦ inr (omega (arith, h.0), h.1)
]

drop_none : (n : ℕ) → drop n (let e : List ℕ = [] in e) ≡ []
drop_none zero = refl
drop_none (suc n) = refl

pub drop_twice : (a b : ℕ) (xs : List ℕ) → drop b (drop a xs) ≡ drop (a + b) xs
drop_twice zero b xs = let e : b ≡ 0 + b = omega arith in ap (λ n. drop n xs) e
drop_twice (suc a) b [] = drop_none b ∙ sym (drop_none (suc a + b))
drop_twice (suc a) b (x ∷ xs) = let e : suc (a + b) ≡ suc a + b = omega arith in drop_twice a b xs ∙ ap (λ n. drop n (x ∷ xs)) e

pub all_append : {X : Type 0} (P : X → Type 0) (xs ys : List X) → AllByRecursion P xs → AllByRecursion P ys → AllByRecursion P (xs ++ ys)
all_append P [] ys a b = b
all_append P (x ∷ xs) ys a b = (a.0, all_append P xs ys a.1 b)

pub all_take : {X : Type 0} (P : X → Type 0) (n : ℕ) (xs : List X) → AllByRecursion P xs → AllByRecursion P (take n xs)
all_take P zero xs a = tt
all_take P (suc n) [] a = tt
all_take P (suc n) (x ∷ xs) a = (a.0, all_take P n xs a.1)

pub map_same : {X Y : Type 0} (f g : X → Y) (xs : List X) → ((x : X) → f x ≡ g x) → map f xs ≡ map g xs
map_same f g [] h = refl
map_same f g (x ∷ xs) h = λ i. h x i ∷ map_same f g xs h i

pub some_take : {X : Type 0} (xs : List X) (c : ℕ) (x : X) → slice_get xs c ≡ Some x → take 1 (drop c xs) ≡ x ∷ []
some_take [] c x e = cc
some_take (y ∷ ys) zero x e = let same : y ≡ x = cc in ap (λ z. z ∷ []) same
some_take (y ∷ ys) (suc c) x e = some_take ys c x e

pub cell_there : (xs : List Cell) (i : ℕ) (c : Cell) → Some c ≡ slice_get xs i → c ∷ [] ≡ take 1 (drop i xs)
cell_there [] zero c h = cc
cell_there [] (suc i) c h = cc
cell_there (x ∷ xs) zero c h = let e : c ≡ x = cc in ap (λ y. y ∷ []) e
cell_there (x ∷ xs) (suc i) c h = cell_there xs i c h

pub cell_missing : (xs : List Cell) (i : ℕ) → None ≡ slice_get xs i → [] ≡ take 1 (drop i xs)
cell_missing [] zero h = refl
cell_missing [] (suc i) h = refl
cell_missing (x ∷ xs) zero h = cc
cell_missing (x ∷ xs) (suc i) h = cell_missing xs i h

pub sum_more : (n : ℕ) (ns : List ℕ) → sum (n ∷ ns) ≡ n + sum ns
sum_more n ns = sum_by-cons (λ (x : ℕ). x) n ns

pub sum_append : (a b : List ℕ) → sum (a ++ b) ≡ sum a + sum b
sum_append a b = sum_by-append (λ (n : ℕ). n) a b

pub pos_same : (a b : List ℕ) → map pos a ≡ map pos b → a ≡ b
pos_same [] [] e = refl
pos_same [] (y ∷ b) e = cc
pos_same (x ∷ a) [] e = cc
pos_same (x ∷ a) (y ∷ b) e =
    let h : x ≡ y = cc in
    let t : map pos a ≡ map pos b = cc in
    let r = pos_same a b t in λ i. h i ∷ r i

pub trues_append : (a b : List Bool) → trues (a ++ b) ≡ trues a + trues b
trues_append [] b = omega arith
trues_append (false ∷ a) b = trues_append a b
trues_append (true ∷ a) b = omega (arith, trues_append a b)

pub values_few : (cs : List Cell) → length (values cs) ≤ length cs
values_few [] = omega arith
values_few (null ∷ cs) = omega (arith, values_few cs)
values_few (leaf a ∷ cs) = omega (arith, values_few cs)
values_few (list xs ∷ cs) = omega (arith, values_few cs)
values_few (struct xs ∷ cs) = omega (arith, values_few cs)
values_few (pairs ps ∷ cs) = omega (arith, values_few cs)

pub values_one : (c : Cell) → is_value c ≡ true → values (c ∷ []) ≡ c ∷ []
values_one c h = rw h refl
