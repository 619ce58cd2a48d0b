-- Operations that give the same result in any order and grouping.
use Rattle.std.specs.Prelude.{◌≡◌, ◌+◌, ◌+ℤ◌, Bool, true, false, if◌then◌else◌, Option, Some, None, refl}
use Rattle.std.specs.Ordering.{is_gt, int_cmp, nat_cmp, flip_args, ordering_reverse}
use Rattle.std.specs.declared.cmp.Ordering.{Ordering}
use Rattle.std.specs.declared.cmp.Ordering.TheVariants.{Less, Equal, Greater}
use Rattle.std.specs.Cmp.{IsTotalOrder}
use Rattle.std.proofs.lemmas.Int.{ints}
use Rattle.std.proofs.lemmas.Cmp.{int_cmp_total, nat_cmp_total, nat_list_cmp_total, back_total, upto}
use Rattle.std.specs.FinMap.{IsAntisymmetric, int_cmp-IsAntisymmetric, nat_cmp-IsAntisymmetric, slice_cmp-IsAntisymmetric}
use Rattle.std.proofs.Common.{sym, ◌∙◌, ap, arith}
use Rattle.orc_stats.specs.declared.seen.Seen.{Seen}
use Rattle.orc_stats.specs.declared.seen.Seen.TheVariants.{Nothing, Known, Unknown}
use Rattle.orc_stats.specs.Seen.{both}
use Rattle.orc_stats.specs.Statistics.{lower, text_cmp}
use Rattle.orc_stats.specs.Joining.{or_known}

-- the result depends neither on order nor on grouping
pub record IsOrderly {A : Type 0} (op : A → A → A) : Type 0 where
  pub comm : (x y : A) → op x y ≡ op y x
  pub assoc : (x y z : A) → op (op x y) z ≡ op x (op y z)

pub int_sums : IsOrderly ◌+ℤ◌
int_sums = record { comm = λ x y. omega (arith, ints); assoc = λ x y z. omega (arith, ints) }

pub nat_sums : IsOrderly ◌+◌
nat_sums = record { comm = λ x y. omega arith; assoc = λ x y z. omega arith }

pub or_known_orderly : IsOrderly or_known
or_known_orderly = record { comm = or_comm; assoc = or_assoc }
  where
    or_comm : (x y : Option Bool) → or_known x y ≡ or_known y x
    or_comm None None = refl
    or_comm None (Some true) = refl
    or_comm None (Some false) = refl
    or_comm (Some true) None = refl
    or_comm (Some true) (Some true) = refl
    or_comm (Some true) (Some false) = refl
    or_comm (Some false) None = refl
    or_comm (Some false) (Some true) = refl
    or_comm (Some false) (Some false) = refl

    or_assoc : (x y z : Option Bool) → or_known (or_known x y) z ≡ or_known x (or_known y z)
    or_assoc (Some true) y z = refl
    or_assoc (Some false) y z = refl
    or_assoc None (Some true) z = refl
    or_assoc None (Some false) z = refl
    or_assoc None None (Some true) = refl
    or_assoc None None (Some false) = refl
    or_assoc None None None = refl

module _ {A : Type 0} (op : A → A → A) (o : IsOrderly op) where
  both_comm : (x y : Seen A) → both op x y ≡ both op y x
  both_comm Nothing Nothing = refl
  both_comm Nothing (Known y) = refl
  both_comm Nothing Unknown = refl
  both_comm (Known x) Nothing = refl
  both_comm (Known x) (Known y) = ap Known (o.comm x y)
  both_comm (Known x) Unknown = refl
  both_comm Unknown Nothing = refl
  both_comm Unknown (Known y) = refl
  both_comm Unknown Unknown = refl

  both_assoc : (x y z : Seen A) → both op (both op x y) z ≡ both op x (both op y z)
  both_assoc Nothing y z = refl
  both_assoc (Known x) Nothing z = refl
  both_assoc (Known x) (Known y) Nothing = refl
  both_assoc (Known x) (Known y) (Known z) = ap Known (o.assoc x y z)
  both_assoc (Known x) (Known y) Unknown = refl
  both_assoc (Known x) Unknown Nothing = refl
  both_assoc (Known x) Unknown (Known z) = refl
  both_assoc (Known x) Unknown Unknown = refl
  both_assoc Unknown Nothing z = refl
  both_assoc Unknown (Known y) Nothing = refl
  both_assoc Unknown (Known y) (Known z) = refl
  both_assoc Unknown (Known y) Unknown = refl
  both_assoc Unknown Unknown Nothing = refl
  both_assoc Unknown Unknown (Known z) = refl
  both_assoc Unknown Unknown Unknown = refl

  pub both_orderly : IsOrderly (both op)
  both_orderly = record { comm = both_comm; assoc = both_assoc }

pub pair_is : {P Q : Type 0} {a c : P} {b d : Q} → a ≡ c → b ≡ d → ◌≡◌ {A = P × Q} (a, b) (c, d)
pair_is e h = λ i. (e i, h i)

module _ {P Q : Type 0} {f : P → P → P} {g : Q → Q → Q} where
  pub pairs_orderly : IsOrderly f → IsOrderly g → IsOrderly (λ (x : P × Q) (y : P × Q). (f x.0 y.0, g x.1 y.1))
  pairs_orderly a b = record {
    comm = λ x y. pair_is (a.comm x.0 y.0) (b.comm x.1 y.1);
    assoc = λ x y z. pair_is (a.assoc x.0 y.0 z.0) (b.assoc x.1 y.1 z.1);
  }

-- the lower of two, in a total order in which only equal values tie
module _ {A : Type 0} (cmp : A → A → Ordering) (total : IsTotalOrder cmp) (same : IsAntisymmetric cmp) where
  lower_swaps : (x y : A) (o p : Ordering)
      → cmp x y ≡ o
      → cmp y x ≡ p
      → o ≡ ordering_reverse p
      → (if is_gt o then y else x) ≡ (if is_gt p then x else y)
  lower_swaps x y Less Less e f r = cc
  lower_swaps x y Less Equal e f r = cc
  lower_swaps x y Less Greater e f r = refl
  lower_swaps x y Equal Less e f r = cc
  lower_swaps x y Equal Equal e f r = same x y e
  lower_swaps x y Equal Greater e f r = cc
  lower_swaps x y Greater Less e f r = refl
  lower_swaps x y Greater Equal e f r = cc
  lower_swaps x y Greater Greater e f r = cc

  lower_comm : (x y : A) → lower cmp x y ≡ lower cmp y x
  lower_comm x y = lower_swaps x y (cmp x y) (cmp y x) refl refl (total.antisymm x y)

  -- the order of two, seen from the other side
  reversed : (x y : A) (o : Ordering) → cmp x y ≡ o → cmp y x ≡ ordering_reverse o
  reversed x y o e = total.antisymm y x ∙ ap ordering_reverse e

  is_greater : (o : Ordering) → is_gt o ≡ true → o ≡ Greater
  is_greater Less e = cc
  is_greater Equal e = cc
  is_greater Greater e = refl

  gt_trans : (x y z : A) → is_gt (cmp x y) ≡ true → is_gt (cmp y z) ≡ true → is_gt (cmp x z) ≡ true
  gt_trans x y z e h = ap is_gt (reversed z x Less (total.trans z y x (reversed y z Greater (is_greater _ h)) (reversed x y Greater (is_greater _ e))))

  lower_cases : (x y z : A) (b c d : Bool) → is_gt (cmp x y) ≡ b → is_gt (cmp y z) ≡ c → is_gt (cmp x z) ≡ d
      → lower cmp (if b then y else x) z ≡ lower cmp x (if c then z else y)
  lower_cases x y z false false d e h k = rw (upto total x y z e h) (rw e refl)
  lower_cases x y z false true d e h k = refl
  lower_cases x y z true false d e h k = rw e (rw h refl)
  lower_cases x y z true true d e h k = rw h (rw (gt_trans x y z e h) refl)

  lower_assoc : (x y z : A) → lower cmp (lower cmp x y) z ≡ lower cmp x (lower cmp y z)
  lower_assoc x y z = lower_cases x y z _ _ _ refl refl refl

  pub lower_orderly : IsOrderly (lower cmp)
  lower_orderly = record { comm = lower_comm; assoc = lower_assoc }

pub flipped_same : {A : Type 0} {cmp : A → A → Ordering} → IsAntisymmetric cmp → IsAntisymmetric (flip_args cmp)
flipped_same same x y e = sym (same y x e)

pub lower_ints : IsOrderly (lower int_cmp)
lower_ints = lower_orderly int_cmp int_cmp_total int_cmp-IsAntisymmetric

pub higher_ints : IsOrderly (lower (flip_args int_cmp))
higher_ints = lower_orderly (flip_args int_cmp) (back_total int_cmp_total) (flipped_same int_cmp-IsAntisymmetric)

pub lower_texts : IsOrderly (lower text_cmp)
lower_texts = lower_orderly text_cmp nat_list_cmp_total (slice_cmp-IsAntisymmetric nat_cmp-IsAntisymmetric)

pub higher_texts : IsOrderly (lower (flip_args text_cmp))
higher_texts =
    lower_orderly (flip_args text_cmp) (back_total nat_list_cmp_total)
    (flipped_same (slice_cmp-IsAntisymmetric nat_cmp-IsAntisymmetric))

pub lower_nats : IsOrderly (lower nat_cmp)
lower_nats = lower_orderly nat_cmp nat_cmp_total nat_cmp-IsAntisymmetric

pub higher_nats : IsOrderly (lower (flip_args nat_cmp))
higher_nats = lower_orderly (flip_args nat_cmp) (back_total nat_cmp_total) (flipped_same nat_cmp-IsAntisymmetric)
