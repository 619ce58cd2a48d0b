-- Cells by their marks and values.
use Rattle.std.proofs.Common.{◌≡◌, Bool, true, false, List, [], ◌∷◌, map, length, refl, ap, arith}
use Rattle.std.specs.List.{AllByRecursion}
use Rattle.orc_values.specs.Cells.{Cell, null, is_value, values}
use Rattle.orc_values.specs.Trues.{trues}

abbrev pub spread : List Bool → List Cell → List Cell
spread [] vs = []
spread (false ∷ ms) vs = null ∷ spread ms vs
spread (true ∷ ms) [] = null ∷ spread ms []
spread (true ∷ ms) (v ∷ vs) = v ∷ spread ms vs

abbrev pub AreValues : List Cell → Type 0
AreValues vs = AllByRecursion (λ v. is_value v ≡ true) vs

pub record Spread (ms : List Bool) (vs cells : List Cell) : Type 0 where
  pub marks : map is_value cells ≡ ms
  pub values_are : values cells ≡ vs

pub spread_is : (ms : List Bool) (vs : List Cell) → AreValues vs → length vs ≡ trues ms → Spread ms vs (spread ms vs)
spread_is [] [] h e = record { marks = refl; values_are = refl }
spread_is [] (v ∷ vs) h e = absurd (omega (arith, e))
spread_is (false ∷ ms) vs h e = let r = spread_is ms vs h e in record { marks = ap (λ t. false ∷ t) r.marks; values_are = r.values_are }
spread_is (true ∷ ms) [] h e = absurd (omega (arith, e))
spread_is (true ∷ ms) (v ∷ vs) h e =
    let r = spread_is ms vs h.1 (omega (arith, e)) in
    let first = h.0 in
    record { marks = λ i. first i ∷ r.marks i; values_are = rw first (ap (λ t. v ∷ t) r.values_are) }
