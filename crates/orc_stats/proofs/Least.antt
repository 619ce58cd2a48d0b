-- What holds of all values holds of the least.
use Rattle.std.proofs.Common.{Bool, true, false, if◌then◌else◌, List, [], ◌∷◌, Option, Some, None}
use Rattle.std.specs.List.{AllByRecursion}
use Rattle.std.specs.Option.{IfSome}
use Rattle.std.specs.Ordering.{is_gt}
use Rattle.std.specs.declared.cmp.Ordering.{Ordering}
use Rattle.orc_stats.specs.Statistics.{onto, reduce, lower, least}

pub either_kept : {A : Type 0} (P : A → Type 0) (b : Bool) (x y : A) → P x → P y → P (if b then y else x)
either_kept P true x y p q = q
either_kept P false x y p q = p

lower_onto : {A : Type 0} (P : A → Type 0) (cmp : A → A → Ordering) (x : A) (o : Option A) → P x → IfSome o P → P (onto (lower cmp) x o)
lower_onto P cmp x None p q = p
lower_onto P cmp x (Some y) p q = either_kept P (is_gt (cmp x y)) x y p q

pub least_is : {A : Type 0} (P : A → Type 0) (cmp : A → A → Ordering) (xs : List A) → AllByRecursion P xs → IfSome (least cmp xs) P
least_is P cmp [] h = tt
least_is P cmp (x ∷ xs) h = lower_onto P cmp x (reduce (lower cmp) xs) h.0 (least_is P cmp xs h.1)
