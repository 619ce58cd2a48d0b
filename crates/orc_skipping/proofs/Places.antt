-- A value is_between the least and the greatest compares with a constant as these leave room for.
use Rattle.std.proofs.Common.{◌≡◌, refl, sym, ap, ◌∙◌, ℕ, nat_le, Bool, true, false, Option, Some, None, List}
use Rattle.std.specs.Option.{option_map_or}
use Rattle.std.specs.Prelude.{ℤ, IfSome}
use Rattle.std.specs.Cmp.{IsTotalOrder}
use Rattle.std.specs.Ordering.{is_gt, ordering_index, ordering_reverse, int_cmp, nat_cmp}
use Rattle.std.specs.declared.cmp.Ordering.{Ordering}
use Rattle.std.specs.declared.cmp.Ordering.TheVariants.{Less, Equal, Greater}
use Rattle.std.proofs.lemmas.Cmp.{int_cmp_total, nat_cmp_total, nat_list_cmp_total, upto, tied_back, alike_right}
use Rattle.orc_values.specs.Cells.{Atom, bool, int, date, text, bytes}
use Rattle.orc_stats.specs.Statistics.{bit, text_cmp}
use Rattle.orc_skipping.specs.Predicates.{order}
use Rattle.orc_skipping.specs.Right.{IsUpTo}

module _ {A : Type 0} {R : A → A → Ordering} (total : IsTotalOrder R) where
  low_by : (l v a : A) (r o : Ordering) → R l a ≡ r → R v a ≡ o → is_gt (R l v) ≡ false → nat_le (ordering_index r) (ordering_index o) ≡ true
  low_by l v a Less Less e f h = refl
  low_by l v a Less Equal e f h = refl
  low_by l v a Less Greater e f h = refl
  low_by l v a Equal Less e f h =
      let back : R v l ≡ Less = sym (alike_right total a l v (tied_back total l a e)) ∙ f in
      let turned : R l v ≡ Greater = total.antisymm l v ∙ ap ordering_reverse back in
      cc
  low_by l v a Equal Equal e f h = refl
  low_by l v a Equal Greater e f h = refl
  low_by l v a Greater Less e f h = let g = upto total l v a h (ap is_gt f) in cc
  low_by l v a Greater Equal e f h = let g = upto total l v a h (ap is_gt f) in cc
  low_by l v a Greater Greater e f h = refl

  pub low : (l v a : A) (o : Ordering) → Some (R v a) ≡ Some o → is_gt (R l v) ≡ false → nat_le (ordering_index (R l a)) (ordering_index o) ≡ true
  low l v a o e h = low_by l v a (R l a) o refl (inside (R v a) o e) h
    where
      inside : (x y : Ordering) → Some x ≡ Some y → x ≡ y
      inside x y e = cc

  high_by : (g v a : A) (r o : Ordering) → R g a ≡ r → R v a ≡ o → is_gt (R v g) ≡ false → nat_le (ordering_index o) (ordering_index r) ≡ true
  high_by g v a Less Less e f h = refl
  high_by g v a Equal Less e f h = refl
  high_by g v a Greater Less e f h = refl
  high_by g v a Less Equal e f h =
      let over : R v g ≡ Greater = total.congr v a g f ∙ total.antisymm a g ∙ ap ordering_reverse e in
      cc
  high_by g v a Equal Equal e f h = refl
  high_by g v a Greater Equal e f h = refl
  high_by g v a Less Greater e f h = let k = upto total v g a h (ap is_gt e) in cc
  high_by g v a Equal Greater e f h = let k = upto total v g a h (ap is_gt e) in cc
  high_by g v a Greater Greater e f h = refl

  pub high : (g v a : A) (o : Ordering) → Some (R v a) ≡ Some o → is_gt (R v g) ≡ false → nat_le (ordering_index o) (ordering_index (R g a)) ≡ true
  high g v a o e h = high_by g v a (R g a) o refl (inside (R v a) o e) h
    where
      inside : (x y : Ordering) → Some x ≡ Some y → x ≡ y
      inside x y e = cc

abbrev IsLow : Atom → Atom → Atom → Ordering → Type 0
IsLow l v a o = IsUpTo l v → option_map_or (λ r. nat_le (ordering_index r) (ordering_index o)) (order l a) true ≡ true

abbrev IsHigh : Atom → Atom → Atom → Ordering → Type 0
IsHigh g v a o = IsUpTo v g → option_map_or (λ r. nat_le (ordering_index o) (ordering_index r)) (order g a) true ≡ true

low_bool : (l : Atom) (v a : Bool) (o : Ordering) → order (bool v) (bool a) ≡ Some o → IsLow l (bool v) (bool a) o
low_bool (bool l) v a o e h = low nat_cmp_total (bit l) (bit v) (bit a) o e h
low_bool l v a o e h = refl

low_int : (l : Atom) (v a : ℤ) (o : Ordering) → order (int v) (int a) ≡ Some o → IsLow l (int v) (int a) o
low_int (int l) v a o e h = low int_cmp_total l v a o e h
low_int l v a o e h = refl

low_date : (l : Atom) (v a : ℤ) (o : Ordering) → order (date v) (date a) ≡ Some o → IsLow l (date v) (date a) o
low_date (date l) v a o e h = low int_cmp_total l v a o e h
low_date l v a o e h = refl

low_text : (l : Atom) (v a : List ℕ) (o : Ordering) → order (text v) (text a) ≡ Some o → IsLow l (text v) (text a) o
low_text (text l) v a o e h = low nat_list_cmp_total l v a o e h
low_text l v a o e h = refl

low_bytes : (l : Atom) (v a : List ℕ) (o : Ordering) → order (bytes v) (bytes a) ≡ Some o → IsLow l (bytes v) (bytes a) o
low_bytes (bytes l) v a o e h = low nat_list_cmp_total l v a o e h
low_bytes l v a o e h = refl

pub at_least_low : (l v a : Atom) (o : Ordering) → order v a ≡ Some o → IsLow l v a o
at_least_low l (bool v) (bool a) o e h = low_bool l v a o e h
at_least_low l (int v) (int a) o e h = low_int l v a o e h
at_least_low l (date v) (date a) o e h = low_date l v a o e h
at_least_low l (text v) (text a) o e h = low_text l v a o e h
at_least_low l (bytes v) (bytes a) o e h = low_bytes l v a o e h
at_least_low l v a o e h = cc

high_bool : (g : Atom) (v a : Bool) (o : Ordering) → order (bool v) (bool a) ≡ Some o → IsHigh g (bool v) (bool a) o
high_bool (bool g) v a o e h = high nat_cmp_total (bit g) (bit v) (bit a) o e h
high_bool g v a o e h = refl

high_int : (g : Atom) (v a : ℤ) (o : Ordering) → order (int v) (int a) ≡ Some o → IsHigh g (int v) (int a) o
high_int (int g) v a o e h = high int_cmp_total g v a o e h
high_int g v a o e h = refl

high_date : (g : Atom) (v a : ℤ) (o : Ordering) → order (date v) (date a) ≡ Some o → IsHigh g (date v) (date a) o
high_date (date g) v a o e h = high int_cmp_total g v a o e h
high_date g v a o e h = refl

high_text : (g : Atom) (v a : List ℕ) (o : Ordering) → order (text v) (text a) ≡ Some o → IsHigh g (text v) (text a) o
high_text (text g) v a o e h = high nat_list_cmp_total g v a o e h
high_text g v a o e h = refl

high_bytes : (g : Atom) (v a : List ℕ) (o : Ordering) → order (bytes v) (bytes a) ≡ Some o → IsHigh g (bytes v) (bytes a) o
high_bytes (bytes g) v a o e h = high nat_list_cmp_total g v a o e h
high_bytes g v a o e h = refl

pub at_most_high : (g v a : Atom) (o : Ordering) → order v a ≡ Some o → IsHigh g v a o
at_most_high g (bool v) (bool a) o e h = high_bool g v a o e h
at_most_high g (int v) (int a) o e h = high_int g v a o e h
at_most_high g (date v) (date a) o e h = high_date g v a o e h
at_most_high g (text v) (text a) o e h = high_text g v a o e h
at_most_high g (bytes v) (bytes a) o e h = high_bytes g v a o e h
at_most_high g v a o e h = cc
