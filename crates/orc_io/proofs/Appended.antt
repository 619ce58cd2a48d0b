-- Bytes that go to a sink one piece after another.
use Rattle.std.proofs.Common.{◌≡◌, ℕ, ◌+◌, ◌-◌, List, ◌++◌, length, take, drop, Option, Some, None, refl, sym, ap, ◌∙◌, append_assoc, arith, length-drop}
use Rattle.std.proofs.Math.Seq.{take-add}
use Rattle.std.proofs.lemmas.List.{take_all}
use Rattle.orc_io.specs.Devices.{appended}

pub appended-appended : (told : Option (List ℕ)) (xs ys : List ℕ) → appended (appended told xs) ys ≡ appended told (xs ++ ys)
appended-appended None xs ys = refl
appended-appended (Some old) xs ys = ap Some (append_assoc old xs ys)

-- what a write takes of the bytes from a place on goes behind those before the place, up to the next one
pub appended_more : (told mid new : Option (List ℕ)) (at n next : ℕ) (bytes : List ℕ) → next ≡ at + n
    → mid ≡ appended told (take at bytes) → new ≡ appended mid (take n (take (length bytes - at) (drop at bytes)))
    → new ≡ appended told (take next bytes)
appended_more told mid new at n next bytes there e f =
    let whole : take (length bytes - at) (drop at bytes) ≡ drop at bytes = take_all _ _ (omega (arith, length-drop at bytes)) in
    f ∙ ap (λ (o : Option (List ℕ)). appended o (take n (take (length bytes - at) (drop at bytes)))) e ∙ appended-appended told _ _
    ∙ ap (λ (rest : List ℕ). appended told (take at bytes ++ take n rest)) whole ∙ ap (appended told) (sym (take-add at n bytes))
    ∙ ap (λ (k : ℕ). appended told (take k bytes)) (sym there)
