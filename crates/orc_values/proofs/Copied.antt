-- Copies of rows and of pairs, one after the other.
use Rattle.std.proofs.Common.{◌≡◌, ℕ, ◌<◌, suc, List, [], ◌∷◌, ◌++◌, take, map, length, get_or, Option, sym, ap, ◌∙◌}
use Rattle.std.proofs.lemmas.List.{map-append}
use Rattle.std.proofs.Math.Seq.{take-suc}
use Rattle.orc_values.specs.Cells.{Cell}
use Rattle.orc_values.specs.Views.{view, views, paired}
use Rattle.orc_values.specs.declared.value.Value.{Value}
use Rattle.orc_values.specs.declared.value.MapPair.{MapPair}
use Rattle.orc_values.proofs.Views.{paired-is}

-- whatever the items are seen as
copied_more : {X Y : Type 0} (seen : X → Y) (xs copies : List X) (i : ℕ) (x copy : X) → i < length xs → x ≡ get_or xs i x → seen copy ≡ seen x
    → map seen copies ≡ map seen (take i xs) → map seen (copies ++ copy ∷ []) ≡ map seen (take (suc i) xs)
copied_more seen xs copies i x copy h is one so_far =
    let ends : take (suc i) xs ≡ take i xs ++ x ∷ [] = take-suc xs i x h ∙ ap (λ y. take i xs ++ y ∷ []) (sym is) in
    map-append seen copies (copy ∷ []) ∙ ap (λ ys. ys ++ seen copy ∷ []) so_far ∙ ap (λ y. map seen (take i xs) ++ y ∷ []) one ∙ sym (ap (map seen) ends ∙ map-append seen (take i xs) (x ∷ []))

pub rows_copied : (rs copies : List (Option Value)) (i : ℕ) (r copy : Option Value) → i < length rs → r ≡ get_or rs i r → view copy ≡ view r
    → views copies ≡ views (take i rs) → views (copies ++ copy ∷ []) ≡ views (take (suc i) rs)
rows_copied rs copies i r copy h is one so_far = copied_more view rs copies i r copy h is one so_far

pub pairs_copied : (ps copies : List MapPair) (i : ℕ) (p copy : MapPair) → i < length ps → p ≡ get_or ps i p → view copy.key ≡ view p.key → view copy.value ≡ view p.value
    → map paired copies ≡ map paired (take i ps) → map paired (copies ++ copy ∷ []) ≡ map paired (take (suc i) ps)
pairs_copied ps copies i p copy h is key value so_far =
    let one : paired copy ≡ paired p = paired-is copy ∙ ap (λ (k : Cell). (k, view copy.value)) key ∙ ap (λ (v : Cell). (view p.key, v)) value ∙ sym (paired-is p) in
    copied_more paired ps copies i p copy h is one so_far
