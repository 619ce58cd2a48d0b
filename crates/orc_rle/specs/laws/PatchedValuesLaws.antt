-- Laws of the values of patched runs (ORC specification, "Integer Run Length Encoding, version 2", "Patched Base").
use Rattle.std.proofs.Common.{ℕ, List, [], ◌∷◌, ◌≡◌, refl, arith, get_or, ◌∙◌, suc, ◌<◌, length, zero, ℤ, pos, ◌+ℤ◌, ap}
use Rattle.orc_rle.specs.Patched.{raised, IsPatched}
use Rattle.orc_rle.specs.laws.PatchedLaws.{length-raised}
use Rattle.orc_rle.specs.PatchedValues.{PatchedValues, PatchPlaces}

pub get_or-raised : (base : ℤ) (ns : List ℕ) (i : ℕ)
    → i < length ns → get_or (raised base ns) i (pos 0) ≡ base +ℤ pos (get_or ns i 0)
get_or-raised base [] i lt = absurd (omega (arith, lt))
get_or-raised base (n ∷ ns) zero lt = refl
get_or-raised base (n ∷ ns) (suc i) lt = get_or-raised base ns i (omega (arith, lt))

-- the equation of the values
pub patched_values : (bytes : List ℕ) (values : List ℤ) (run : IsPatched bytes values) → PatchedValues run
patched_values bytes values run = λ i patch lt there.
    let within : i < length run.patched = omega (arith, lt, ap length run.values_are, length-raised run.base run.patched) in
    let value = get_or-raised run.base run.patched i within in
    rw run.values_are (value ∙ ap (λ (n : ℕ). run.base +ℤ pos n) (run.patches.number i patch (omega (arith, within, run.patches.len)) there))

pub patch_places : (bytes : List ℕ) (values : List ℤ) (run : IsPatched bytes values) → PatchPlaces run
patch_places bytes values run = λ j lt.
    (omega (arith, run.patches.within j lt, run.patches.len, ap length run.values_are, length-raised run.base run.patched), λ some. run.patches.ascend j lt some)
