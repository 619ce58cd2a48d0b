-- Where groups start, and what comes before them.
use Rattle.std.proofs.Common.{◌≡◌, ◌≤◌, ℕ, List, length, zero, suc, [], ◌∷◌, map, refl, ◌∙◌, ap, ◌*◌, ◌<◌, get_or, subst, arith}
use Rattle.std.proofs.lemmas.List.{get_or_past}
use Rattle.orc_row_groups.specs.Bounds.{bound_at}
use Rattle.std.specs.List.{range_with_len}
use Rattle.std.proofs.lemmas.Grind.{div_ceil_times}
use Rattle.orc_row_groups.specs.Groups.{group_count, starts_of_groups}
use Rattle.std.proofs.Math.Nat.{lt_of_mul-lt-mul_right}

pub bound_past : (count : ℕ) (bounds : List ℕ) (group : ℕ) → length bounds ≤ group → bound_at count bounds group ≡ count
bound_past count bounds group le = get_or_past bounds group count le

-- where there is no column below, nothing comes before a group
pub none_at : (bounds : List ℕ) (g : ℕ) → bound_at 0 (map (λ b. 0) bounds) g ≡ 0
none_at [] g = refl
none_at (b ∷ bounds) zero = refl
none_at (b ∷ bounds) (suc g) = none_at bounds g

pub first_by : (f : ℕ → ℕ) (m n : ℕ) (bounds : List ℕ) → f 0 ≡ 0 → (m ≡ 0 → n ≡ 0) → bound_at m bounds 0 ≡ 0 → bound_at n (map f bounds) 0 ≡ 0
first_by f m n [] z none e = none e
first_by f m n (b ∷ bs) z none e = ap f e ∙ z

pub first_start : (stride rows : ℕ) → 0 < stride → bound_at rows (starts_of_groups stride rows) 0 ≡ 0
first_start stride rows some = by (group_count stride rows) refl
  where
    by : (n : ℕ) → group_count stride rows ≡ n → bound_at rows (starts_of_groups stride rows) 0 ≡ 0
    by zero e =
        let k : rows ≤ group_count stride rows * stride = (div_ceil_times rows stride some).0 in
        let none : rows ≤ 0 * stride = subst (λ (n : ℕ). rows ≤ n * stride) e k in
        let z : rows ≡ 0 = omega (arith, none) in
        ap (λ (n : ℕ). get_or (map (λ (g : ℕ). g * stride) (range_with_len 0 n)) 0 rows) e ∙ z
    by (suc n) e = let z : 0 * stride ≡ 0 = omega arith in ap (λ (m : ℕ). get_or (map (λ (g : ℕ). g * stride) (range_with_len 0 m)) 0 rows) e ∙ z

-- a group that begins before the last row is one of the groups
pub group_there : (stride rows group : ℕ) → 0 < stride → group * stride < rows → group < group_count stride rows
group_there stride rows group some before = lt_of_mul-lt-mul_right stride (omega (arith, before, (div_ceil_times rows stride some).0))
