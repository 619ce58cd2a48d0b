-- What the words of a statistic mean.
use Rattle.std.proofs.Common.{◌≡◌, refl, sym, ap, ◌∙◌, subst, arith, ℕ, zero, suc, ◌+◌, sum, ℤ, pos, ◌+ℤ◌, Bool, true, false, if◌then◌else◌, List, [], ◌∷◌, map, Some, None, ◌↔◌}
use Rattle.std.proofs.lemmas.Int.{ints}
use Rattle.std.proofs.lemmas.List.Sums.{sum_by-cons}
use Rattle.std.proofs.lemmas.Cmp.{int_cmp_total, nat_cmp_total, nat_list_cmp_total, back_total, upto}
use Rattle.std.specs.FinMap.{IsAntisymmetric, int_cmp-IsAntisymmetric, nat_cmp-IsAntisymmetric, slice_cmp-IsAntisymmetric}
use Rattle.std.specs.List.{AllByRecursion, Contains}
use Rattle.std.specs.Cmp.{IsTotalOrder}
use Rattle.std.specs.Ordering.{is_gt, int_cmp, nat_cmp, flip_args, ordering_reverse}
use Rattle.std.specs.declared.cmp.Ordering.{Ordering}
use Rattle.std.specs.declared.cmp.Ordering.TheVariants.{Less, Equal, Greater}
use Rattle.orc_stats.specs.Statistics.{lower, onto, reduce, bit, least, greatest, text_cmp, exact_total}
use Rattle.orc_stats.specs.Meanings.{IsLowest, sum_without_limit}
use Rattle.orc_stats.specs.Orders.{flipped_same}
use Rattle.orc_values.specs.Trues.{trues}

module _ {A : Type 0} (cmp : A → A → Ordering) (total : IsTotalOrder cmp) (same : IsAntisymmetric cmp) where
  reflexive : (x : A) → is_gt (cmp x x) ≡ false
  reflexive x = by_order (cmp x x) (total.antisymm x x)
    where
      by_order : (o : Ordering) → o ≡ ordering_reverse o → is_gt o ≡ false
      by_order Less e = refl
      by_order Equal e = refl
      by_order Greater e = cc

  asymmetric : (x y : A) → is_gt (cmp x y) ≡ true → is_gt (cmp y x) ≡ false
  asymmetric x y h = by_orders (cmp x y) (cmp y x) (total.antisymm x y) h
    where
      by_orders : (o p : Ordering) → o ≡ ordering_reverse p → is_gt o ≡ true → is_gt p ≡ false
      by_orders o Less e h = refl
      by_orders o Equal e h = refl
      by_orders Less Greater e h = cc
      by_orders Equal Greater e h = cc
      by_orders Greater Greater e h = cc

  one_lowest : (x y : A) → is_gt (cmp x y) ≡ false → is_gt (cmp y x) ≡ false → x ≡ y
  one_lowest x y h k = by_orders (cmp x y) (cmp y x) refl (total.antisymm x y) h k
    where
      by_orders : (o p : Ordering) → cmp x y ≡ o → o ≡ ordering_reverse p → is_gt o ≡ false → is_gt p ≡ false → x ≡ y
      by_orders Equal p is e h k = same x y is
      by_orders Greater p is e h k = cc
      by_orders Less Less is e h k = cc
      by_orders Less Equal is e h k = cc
      by_orders Less Greater is e h k = cc

  at_each : (P : A → Type 0) (xs : List A) (z : A) → AllByRecursion P xs → Contains xs z → P z
  at_each P [] z all (k, below, is) = absurd (omega arith)
  at_each P (x ∷ xs) z all (zero, below, is) = subst P is all.0
  at_each P (x ∷ xs) z all (suc k, below, is) = at_each P xs z all.1 (k, omega arith, is)

  further : (y : A) (xs : List A) (x : A) → Contains xs x → Contains (y ∷ xs) x
  further y xs x (k, below, is) = (suc k, omega arith, is)

  below_each : (x m : A) (ys : List A) → is_gt (cmp x m) ≡ false → AllByRecursion (λ y. is_gt (cmp m y) ≡ false) ys → AllByRecursion (λ y. is_gt (cmp x y) ≡ false) ys
  below_each x m [] h all = tt
  below_each x m (y ∷ ys) h all = (upto total x m y h all.0, below_each x m ys h all.1)

  lowest_found : (x : A) (xs : List A) → IsLowest cmp (x ∷ xs) (onto (lower cmp) x (reduce (lower cmp) xs))
  lowest_found x [] = ((0, omega arith, refl), (reflexive x, tt))
  lowest_found x (y ∷ ys) =
      let m = onto (lower cmp) y (reduce (lower cmp) ys) in
      let rest = lowest_found y ys in
      by_order m (is_gt (cmp x m)) refl rest
    where
      by_order : (m : A) (b : Bool) → is_gt (cmp x m) ≡ b → IsLowest cmp (y ∷ ys) m → IsLowest cmp (x ∷ y ∷ ys) (if b then m else x)
      by_order m true h rest = (further x (y ∷ ys) m rest.0, (asymmetric x m h, rest.1))
      by_order m false h rest = ((0, omega arith, refl), (reflexive x, below_each x m (y ∷ ys) h rest.1))

  found : (xs : List A) (z : A) → least cmp xs ≡ Some z → IsLowest cmp xs z
  found [] z e = absurd (none_some z e)
    where
      none_some : (y : A) → None ≡ Some y → ⊥
      none_some y e = cc
  found (x ∷ xs) z e = subst (IsLowest cmp (x ∷ xs)) (inside _ z e) (lowest_found x xs)
    where
      inside : (x y : A) → Some x ≡ Some y → x ≡ y
      inside x y e = cc

  only : (xs : List A) (z : A) → IsLowest cmp xs z → least cmp xs ≡ Some z
  only [] z ((k, below, is), all) = absurd (omega arith)
  only (x ∷ xs) z (within, all) =
      let m = onto (lower cmp) x (reduce (lower cmp) xs) in
      let f = lowest_found x xs in
      ap Some (one_lowest m z (at_each (λ y. is_gt (cmp m y) ≡ false) (x ∷ xs) z f.1 within) (at_each (λ y. is_gt (cmp z y) ≡ false) (x ∷ xs) m all f.0))

  pub lowest : (xs : List A) (z : A) → (least cmp xs ≡ Some z) ↔ IsLowest cmp xs z
  lowest xs z = (found xs z, only xs z)

texts_same : IsAntisymmetric text_cmp
texts_same = slice_cmp-IsAntisymmetric nat_cmp-IsAntisymmetric

pub least_numbers : (zs : List ℤ) (z : ℤ) → (least int_cmp zs ≡ Some z) ↔ IsLowest int_cmp zs z
least_numbers = lowest int_cmp int_cmp_total int_cmp-IsAntisymmetric

pub greatest_numbers : (zs : List ℤ) (z : ℤ) → (greatest int_cmp zs ≡ Some z) ↔ IsLowest (flip_args int_cmp) zs z
greatest_numbers = lowest (flip_args int_cmp) (back_total int_cmp_total) (flipped_same int_cmp-IsAntisymmetric)

pub least_texts : (ts : List (List ℕ)) (t : List ℕ) → (least text_cmp ts ≡ Some t) ↔ IsLowest text_cmp ts t
least_texts = lowest text_cmp nat_list_cmp_total texts_same

pub greatest_texts : (ts : List (List ℕ)) (t : List ℕ) → (greatest text_cmp ts ≡ Some t) ↔ IsLowest (flip_args text_cmp) ts t
greatest_texts = lowest (flip_args text_cmp) (back_total nat_list_cmp_total) (flipped_same texts_same)

pub least_counts : (ns : List ℕ) (n : ℕ) → (least nat_cmp ns ≡ Some n) ↔ IsLowest nat_cmp ns n
least_counts = lowest nat_cmp nat_cmp_total nat_cmp-IsAntisymmetric

pub greatest_counts : (ns : List ℕ) (n : ℕ) → (greatest nat_cmp ns ≡ Some n) ↔ IsLowest (flip_args nat_cmp) ns n
greatest_counts = lowest (flip_args nat_cmp) (back_total nat_cmp_total) (flipped_same nat_cmp-IsAntisymmetric)

pub count_totals : (n : ℕ) (ns : List ℕ) → reduce ◌+◌ (n ∷ ns) ≡ Some (sum (n ∷ ns))
count_totals n [] = ap Some (omega arith)
count_totals n (m ∷ ns) = ap (λ r. Some (onto ◌+◌ n r)) (count_totals m ns) ∙ ap Some (sym (sum_by-cons (λ (x : ℕ). x) n (m ∷ ns)))

pub totals : (z : ℤ) (zs : List ℤ) → exact_total (z ∷ zs) ≡ Some (sum_without_limit (z ∷ zs))
totals z [] = ap Some (alone z)
  where
    alone : (z : ℤ) → z ≡ z +ℤ pos 0
    alone z = omega (arith, ints)
totals z (y ∷ ys) = ap (λ r. Some (onto ◌+ℤ◌ z r)) (totals y ys)

pub true_counts : (b : Bool) (bs : List Bool) → reduce ◌+◌ (map bit (b ∷ bs)) ≡ Some (trues (b ∷ bs))
true_counts b [] = first b
  where
    first : (b : Bool) → reduce ◌+◌ (map bit (b ∷ [])) ≡ Some (trues (b ∷ []))
    first true = refl
    first false = refl
true_counts b (d ∷ bs) = more b d bs (true_counts d bs)
  where
    more : (b d : Bool) (bs : List Bool) → reduce ◌+◌ (map bit (d ∷ bs)) ≡ Some (trues (d ∷ bs)) → reduce ◌+◌ (map bit (b ∷ d ∷ bs)) ≡ Some (trues (b ∷ d ∷ bs))
    more true d bs e = let same : 1 + trues (d ∷ bs) ≡ suc (trues (d ∷ bs)) = omega arith in ap (λ r. Some (onto ◌+◌ 1 r)) e ∙ ap Some same
    more false d bs e = let same : 0 + trues (d ∷ bs) ≡ trues (d ∷ bs) = omega arith in ap (λ r. Some (onto ◌+◌ 0 r)) e ∙ ap Some same
