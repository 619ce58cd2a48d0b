-- Groups of a column's cells, from bound to bound.
use Rattle.std.specs.Prelude.{IfOk, OnOk, Result, Ok, Err}
use Rattle.std.proofs.Common.{◌≡◌, ◌∙◌, ℕ, zero, suc, ◌*◌, ◌<◌, List, [], ◌∷◌, length, get_or, refl, arith}
use Rattle.std.proofs.lemmas.List.{length-map}
use Rattle.orc_values.specs.Cells.{Cell}
use Rattle.orc_values.specs.Shapes.{Shape}
use Rattle.orc_row_groups.specs.Groups.{group_count, starts_of_groups, bounds_of, cells_before}
use Rattle.std.proofs.lemmas.List.FromFn.{length-map-range_with_len}

-- ---- answers

pub ok_so : {A E : Type 0} {P Q : A → Type 0} (r : Result A E) → ((a : A) → P a → Q a) → IfOk r P → IfOk r Q
ok_so (Ok a) f h = f a h
ok_so (Err e) f h = tt

pub on_ok_so : {A E : Type 0} {P Q : Type 0} (r : Result A E) → (P → Q) → OnOk r P → OnOk r Q
on_ok_so (Ok a) f h = f h
on_ok_so (Err e) f h = tt

-- ---- bounds

-- a column has a bound for each group
pub bounds_long : (s : Shape) (c stride : ℕ) (rows : List Cell) → length (bounds_of s c rows (starts_of_groups stride (length rows))) ≡ group_count stride (length rows)
bounds_long s c stride rows = length-map (starts_of_groups stride (length rows)) (cells_before s c rows) ∙ length-map-range_with_len (λ n. n * stride) 0 (group_count stride (length rows))

-- an element that is there, whatever stands where there is none
pub get_or_any : {X : Type 0} (xs : List X) (i : ℕ) (a b : X) → i < length xs → get_or xs i a ≡ get_or xs i b
get_or_any [] i a b lt = absurd (omega (arith, lt))
get_or_any (x ∷ xs) zero a b lt = refl
get_or_any (x ∷ xs) (suc i) a b lt = get_or_any xs i a b (omega (arith, lt))
