-- Statistics of a stripe's columns, as far as they are told.
use Rattle.std.proofs.Common.{◌≡◌, ◌∙◌, ℕ, zero, suc, ◌+◌, ◌<◌, inl, inr, List, [], ◌∷◌, ◌++◌, length, slice_get, Some, refl, sym, ap, subst, arith, length-append}
use Rattle.orc_values.specs.Cells.{Cell}
use Rattle.orc_values.specs.Shapes.{Shape}
use Rattle.orc_stats.specs.declared.stat.Stat.{Stat}
use Rattle.orc_stats.specs.Known.{known_as, told_body}
use Rattle.orc_stats.specs.ColumnStatistics.{column_stat}
use Rattle.orc_check.specs.Checking.{HaveKnown}
use Rattle.orc_check.proofs.CheckLemmas.{below_or}

front_there : (xs : List Stat) (x : Stat) (k : ℕ) → k < length xs → slice_get (xs ++ x ∷ []) k ≡ slice_get xs k
front_there [] x k lt = absurd (omega (arith, lt))
front_there (y ∷ xs) x zero lt = refl
front_there (y ∷ xs) x (suc k) lt = front_there xs x k (omega (arith, lt))

last_there : (xs : List Stat) (x : Stat) (k : ℕ) → length xs ≡ k → slice_get (xs ++ x ∷ []) k ≡ Some x
last_there [] x zero e = refl
last_there [] x (suc k) e = absurd (omega (arith, e))
last_there (y ∷ xs) x zero e = absurd (omega (arith, e))
last_there (y ∷ xs) x (suc k) e = last_there xs x k (omega (arith, e))

pub more_known : (s : Shape) (told : List Stat) (rows : List Cell) (n : ℕ) (stats : List Stat) (x : Stat) → HaveKnown s told rows n stats → x ≡ known_as (told_body (slice_get told n)) (column_stat s rows n)
    → HaveKnown s told rows (n + 1) (stats ++ x ∷ [])
more_known s told rows n stats x h e = record {
  counted = length-append stats (x ∷ []) ∙ ap (λ k. k + 1) h.counted;
  each = λ c lt. elim (below_or c n lt) [
    | inl same ↦ subst (λ (k : ℕ). slice_get (stats ++ x ∷ []) k ≡ Some (known_as (told_body (slice_get told k)) (column_stat s rows k))) (sym same) (last_there stats x n h.counted ∙ ap Some e)
    | inr less ↦ front_there stats x c (omega (arith, less, h.counted)) ∙ h.each c less
  ];
}
