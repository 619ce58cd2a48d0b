-- Texts with a byte between, one more at the end.
use Rattle.std.proofs.Common.{◌≡◌, ℕ, zero, suc, ◌+◌, ◌<◌, ◌≤◌, List, [], ◌∷◌, ◌++◌, length, get_or, take, map, refl, sym, ap, ◌∙◌, append_assoc, arith}
use Rattle.std.specs.List.{join_with_byte}
use Rattle.std.proofs.lemmas.List.{take_more, map_push}

join_more : (c : ℕ) (x : List ℕ) (xs : List (List ℕ)) (y : List ℕ) → join_with_byte c ((x ∷ xs) ++ y ∷ []) ≡ (join_with_byte c (x ∷ xs) ++ c ∷ []) ++ y
join_more c x [] y = sym (append_assoc x (c ∷ []) y)
join_more c x (z ∷ xs) y = ap (λ (t : List ℕ). x ++ (c ∷ t)) (join_more c z xs y) ∙ (sym (append_assoc x (c ∷ (join_with_byte c (z ∷ xs) ++ c ∷ [])) y) ∙ ap (λ (t : List ℕ). t ++ y) (sym (append_assoc x (c ∷ join_with_byte c (z ∷ xs)) (c ∷ []))))

pub joined_more : {A : Type 0} (c : ℕ) (of : A → List ℕ) (none : A) (vs : List A) (i : ℕ) → i < length vs → 0 < i
    → join_with_byte c (map of (take (i + 1) vs)) ≡ (join_with_byte c (map of (take i vs)) ++ c ∷ []) ++ of (get_or vs i none)
joined_more {A = A} c of none [] i lt some = absurd (omega (arith, lt))
joined_more {A = A} c of none (v ∷ vs) zero lt some = absurd (omega (arith, some))
joined_more {A = A} c of none (v ∷ vs) (suc i) lt some =
    let next = get_or vs i none in
    ap (λ (t : List A). join_with_byte c (map of t)) (take_more (v ∷ vs) (suc i) none lt)
    ∙ (ap (join_with_byte c) (map_push of (take (suc i) (v ∷ vs)) next) ∙ join_more c (of v) (map of (take i vs)) (of next))

pub joined_first : {A : Type 0} (c : ℕ) (of : A → List ℕ) (none : A) (vs : List A) (i : ℕ) → i ≤ 0 → i < length vs
    → join_with_byte c (map of (take (i + 1) vs)) ≡ join_with_byte c (map of (take i vs)) ++ of (get_or vs i none)
joined_first c of none [] i le lt = absurd (omega (arith, lt))
joined_first c of none (v ∷ vs) zero le lt = refl
joined_first c of none (v ∷ vs) (suc i) le lt = absurd (omega (arith, le))
