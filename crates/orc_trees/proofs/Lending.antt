-- Keys and values of maps that are lent, one after the other.
use Rattle.std.proofs.Common.{◌≡◌, ℕ, ◌<◌, suc, List, [], ◌∷◌, ◌++◌, take, map, length, get_or, Option, Bor, sym, ap, ◌∙◌, append_assoc}
use Rattle.std.proofs.lemmas.List.{map-append}
use Rattle.std.proofs.Math.Seq.{take-suc}
use Rattle.orc_values.specs.Cells.{Cell}
use Rattle.orc_values.specs.Views.{view, paired, lent_views}
use Rattle.orc_values.specs.declared.value.Value.{Value}
use Rattle.orc_values.specs.declared.value.MapPair.{MapPair}

pub lent_more : (part : Cell × Cell → Cell) (found : List (Bor (Option Value))) (r : Bor (Option Value)) (before : List Cell) (ps : List MapPair) (i : ℕ) (p : MapPair) → i < length ps → p ≡ get_or ps i p → view r.now ≡ part (paired p)
    → lent_views found ≡ before ++ map part (map paired (take i ps)) → lent_views (found ++ r ∷ []) ≡ before ++ map part (map paired (take (suc i) ps))
lent_more part found r before ps i p h is one so_far =
    let there = map part (map paired (take i ps)) in
    let ends : take (suc i) ps ≡ take i ps ++ p ∷ [] = take-suc ps i p h ∙ ap (λ x. take i ps ++ x ∷ []) (sym is) in
    let all : map part (map paired (take (suc i) ps)) ≡ there ++ part (paired p) ∷ [] =
    ap (λ xs. map part (map paired xs)) ends ∙ ap (map part) (map-append paired (take i ps) (p ∷ [])) ∙ map-append part (map paired (take i ps)) (paired p ∷ []) in
    map-append (λ (b : Bor (Option Value)). view b.now) found (r ∷ []) ∙ ap (λ xs. xs ++ view r.now ∷ []) so_far ∙ append_assoc before there (view r.now ∷ []) ∙ ap (λ x. before ++ (there ++ x ∷ [])) one ∙ ap (λ xs. before ++ xs) (sym all)
