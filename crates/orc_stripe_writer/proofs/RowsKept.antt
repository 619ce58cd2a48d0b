-- Rows that go into a batch one after the other.
use Rattle.std.proofs.Common.{◌≡◌, ℕ, zero, suc, ◌+◌, ◌<◌, List, [], ◌∷◌, ◌++◌, length, get_or, take, map, true, sym, ap, ◌∙◌, arith}
use Rattle.std.proofs.lemmas.List.{map-append}
use Rattle.orc_values.specs.Shapes.{Shape}
use Rattle.orc_values.specs.Cells.{Cell}
use Rattle.orc_values.specs.Fits.{fits, RowsFit}

taken_more : {X : Type 0} (xs : List X) (i : ℕ) (x : X) → i < length xs → x ≡ get_or xs i x → take (i + 1) xs ≡ take i xs ++ x ∷ []
taken_more [] i x less is = absurd (omega (arith, less))
taken_more (y ∷ ys) zero x less is = let e : 0 + 1 ≡ suc zero = omega arith in ap (λ n. take n (y ∷ ys)) e ∙ ap (λ z. z ∷ []) (sym is)
taken_more (y ∷ ys) (suc i) x less is = let e : suc i + 1 ≡ suc (i + 1) = omega arith in ap (λ n. take n (y ∷ ys)) e ∙ ap (λ zs. y ∷ zs) (taken_more ys i x (omega (arith, less)) is)

pub one_more_of : {X : Type 0} (f : X → Cell) (xs : List X) (i : ℕ) (x : X) → i < length xs → x ≡ get_or xs i x → map f (take (i + 1) xs) ≡ map f (take i xs) ++ f x ∷ []
one_more_of f xs i x less is = ap (map f) (taken_more xs i x less is) ∙ map-append f (take i xs) (x ∷ [])

pub next_fits : {X : Type 0} (f : X → Cell) (s : Shape) (xs : List X) (i : ℕ) (x : X) → i < length xs → x ≡ get_or xs i x → RowsFit s (map f xs) → fits (f x) s ≡ true
next_fits f s [] i x less is h = absurd (omega (arith, less))
next_fits f s (y ∷ ys) zero x less is h = ap (λ z. fits (f z) s) is ∙ h.0
next_fits f s (y ∷ ys) (suc i) x less is h = next_fits f s ys i x (omega (arith, less)) is h.1
