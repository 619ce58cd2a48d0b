-- What the parts of a statistic mean: the least value, the exact total and the number of true values (this
-- project's).
use Rattle.std.specs.Prelude.{◌≡◌, ℕ, suc, ℤ, pos, ◌+ℤ◌, Bool, true, false, List, [], ◌∷◌}
use Rattle.std.specs.List.{AllByRecursion, Contains}
use Rattle.std.specs.Ordering.{is_gt}
use Rattle.std.specs.declared.cmp.Ordering.{Ordering}

-- one of the values, and no value is lower in the order
abbrev pub IsLowest : {A : Type 0} → (A → A → Ordering) → List A → A → Type 0
IsLowest cmp xs x = Contains xs x × AllByRecursion (λ y. is_gt (cmp x y) ≡ false) xs

-- numbers added without a limit
abbrev pub sum_without_limit : List ℤ → ℤ
sum_without_limit [] = pos 0
sum_without_limit (z ∷ zs) = z +ℤ sum_without_limit zs
