-- Statistics that are made of columns, one after the other.
use Rattle.std.proofs.Common.{◌≡◌, ◌∙◌, ℕ, zero, suc, ◌+◌, ◌<◌, slice_get, Some, ap, arith, length, refl}
use Rattle.orc_stats.specs.declared.stat.Stat.{Stat}
use Rattle.orc_tail.specs.Statistics.{of_columns}

pub at_column : (f : ℕ → Stat) (d n c : ℕ) → c < n → slice_get (of_columns f d n) c ≡ Some (f (d + c))
at_column f d zero c lt = absurd (omega (arith, lt))
at_column f d (suc n) zero lt = let z : d ≡ d + 0 = omega arith in ap (λ k. Some (f k)) z
at_column f d (suc n) (suc c) lt = let z : suc d + c ≡ d + suc c = omega arith in at_column f (suc d) n c (omega (arith, lt)) ∙ ap (λ k. Some (f k)) z

pub length-of_columns : (f : ℕ → Stat) (c n : ℕ) → length (of_columns f c n) ≡ n
length-of_columns f c zero = refl
length-of_columns f c (suc n) = ap suc (length-of_columns f (suc c) n)
