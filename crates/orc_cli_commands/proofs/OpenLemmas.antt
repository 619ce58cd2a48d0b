-- Inputs that are opened one after another: what is told of them, and that none is lacked.
use Rattle.std.proofs.Common.{◌≡◌, ◌∙◌, ◌<◌, ◌++◌, ◌∷◌, [], ℕ, suc, List, Option, length, map, take, get_or, sym, ap, ap₂, subst, inl, inr, ◌⊎◌}
use Rattle.std.specs.List.{Any}
use Rattle.std.proofs.lemmas.List.{map-append}
use Rattle.std.proofs.Math.Seq.{take-suc}

-- one source more tells what is told of one path more
pub told_step : {S : Type 0} (told : S → Option (List ℕ)) (tells : List ℕ → Option (List ℕ)) (sources : List S) (names : List (List ℕ)) (i : ℕ) (source : S) (d : List ℕ)
    → i < length names → map told sources ≡ map tells (take i names) → told source ≡ tells (get_or names i d)
    → map told (sources ++ source ∷ []) ≡ map tells (take (suc i) names)
told_step told tells sources names i source d less before is =
    map-append told sources (source ∷ [])
    ∙ ap₂ (λ (xs ys : List (Option (List ℕ))). xs ++ ys) before (ap (λ (x : Option (List ℕ)). x ∷ []) is)
    ∙ sym (ap (map tells) (take-suc names i d less) ∙ map-append tells (take i names) (get_or names i d ∷ []))

-- where none is lacked, no one is
pub not_any : (P : List ℕ → Type 0) (names : List (List ℕ)) → ((k : ℕ) (d : List ℕ) → k < length names → P (get_or names k d) → ⊥)
    → Any P names → ⊥
not_any P names none any = none any.0 any.1 any.2 (subst P (sym any.3) any.4)

-- where none before is lacked, and this one isn't, none up to it is
pub none_up_to : (P : List ℕ → Type 0) (names : List (List ℕ)) (i k : ℕ) (d : List ℕ) → (k ≡ i) ⊎ (k < i)
    → ((k : ℕ) (d : List ℕ) → k < i → P (get_or names k d) → ⊥) → ((d : List ℕ) → P (get_or names i d) → ⊥)
    → P (get_or names k d) → ⊥
none_up_to P names i k d (inl same) before here lacks = here d (subst (λ (n : ℕ). P (get_or names n d)) same lacks)
none_up_to P names i k d (inr less) before here lacks = before k d less lacks
