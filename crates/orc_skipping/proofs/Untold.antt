-- If no statistic is known, each rule keeps the rows.
use Rattle.std.proofs.Common.{◌≡◌, refl, ℕ, Bool, true, false, not, ◌&&◌, ◌||◌, Option, None}
use Rattle.orc_skipping.specs.Predicates.{Predicate, compare, is_null, negate, both, either}
use Rattle.orc_skipping.specs.Rules.{may_be, bold}

or_same : (a b : Bool) → a ≡ true → (a || b) ≡ true
or_same a b e = cc

and_same : (a b : Bool) → a ≡ true → b ≡ true → (a && b) ≡ true
and_same a b e f = cc

untold : (p : Predicate) (b : Bool) → may_be (λ c. None) p b ≡ true
untold (compare c takes a) b = refl
untold (is_null c) b = refl
untold (negate p) b = untold p (not b)
untold (both p q) true = and_same _ _ (untold p true) (untold q true)
untold (both p q) false = or_same _ _ (untold p false)
untold (either p q) true = or_same _ _ (untold p true)
untold (either p q) false = and_same _ _ (untold p false) (untold q false)

pub keeps_untold : (p : Predicate) → bold (λ c. None) p ≡ true
keeps_untold p = untold p true
