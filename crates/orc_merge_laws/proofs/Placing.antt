-- Stripes that were placed, as they stood before.
use Rattle.std.proofs.Common.{◌≡◌, ℕ, ◌+◌, List, [], ◌∷◌, ◌++◌, length, map, take, drop, refl, sym, ap, ◌∙◌, append_assoc, length-append}
use Rattle.std.specs.List.{concat}
use Rattle.std.proofs.lemmas.List.{take_at, drop_at}
use Rattle.orc_wire.specs.declared.stripe_info.StripeInfo.{StripeInfo}
use Rattle.orc_io.specs.Devices.{bytes_at}
use Rattle.orc_tail.specs.Stripes.{stripe_length, stripe_bytes}
use Rattle.orc_merger.specs.Merging.{placed}

abbrev pub unplaced : List StripeInfo → List StripeInfo
unplaced = map (λ (s : StripeInfo). record s { offset = 0 })

pub unplaced-placed : (at : ℕ) (ss : List StripeInfo) → unplaced (placed at ss) ≡ unplaced ss
unplaced-placed at [] = refl
unplaced-placed at (s ∷ ss) = ap (λ (rest : List StripeInfo). record s { offset = 0 } ∷ rest) (unplaced-placed (at + stripe_length s) ss)

placed-unplaced : (at : ℕ) (ss : List StripeInfo) → placed at (unplaced ss) ≡ placed at ss
placed-unplaced at [] = refl
placed-unplaced at (s ∷ ss) = ap (λ (rest : List StripeInfo). record s { offset = at } ∷ rest) (placed-unplaced (at + stripe_length s) ss)

-- a stripe's own offset has no part in its place
pub placed_same : (at : ℕ) (xs ys : List StripeInfo) → unplaced xs ≡ unplaced ys → placed at xs ≡ placed at ys
placed_same at xs ys e = sym (placed-unplaced at xs) ∙ ap (placed at) e ∙ placed-unplaced at ys

cut : (front b r back : List ℕ) (n : ℕ) → length b ≡ n → bytes_at (length front) n (front ++ ((b ++ r) ++ back)) ≡ b
cut front b r back n e =
    let parts : front ++ ((b ++ r) ++ back) ≡ front ++ (b ++ (r ++ back)) = ap (λ (x : List ℕ). front ++ x) (append_assoc b r back) in
    ap (λ (x : List ℕ). take n (drop (length front) x)) parts ∙ ap (take n) (drop_at front (b ++ (r ++ back)) (length front) refl) ∙ take_at b (r ++ back) n e

-- stripes that stand one after the other are found again
pub found_again : (front : List ℕ) (bodies : List (List ℕ)) (back : List ℕ) (ss : List StripeInfo) → map length bodies ≡ map stripe_length ss
    → map (λ (s : StripeInfo). stripe_bytes s (front ++ (concat bodies ++ back))) (placed (length front) ss) ≡ bodies
found_again front [] back [] e = refl
found_again front [] back (s ∷ ss) e = cc
found_again front (b ∷ bs) back [] e = cc
found_again front (b ∷ bs) back (s ∷ ss) e =
    let head : length b ≡ stripe_length s = cc in
    let rest : map length bs ≡ map stripe_length ss = cc in
    let all : List ℕ = front ++ ((b ++ concat bs) ++ back) in
    let same : (front ++ b) ++ (concat bs ++ back) ≡ all = append_assoc front b (concat bs ++ back)
    ∙ ap (λ (x : List ℕ). front ++ x) (sym (append_assoc b (concat bs) back)) in
    let at : length (front ++ b) ≡ length front + stripe_length s = length-append front b ∙ ap (λ n. length front + n) head in
    let again : map (λ (s : StripeInfo). stripe_bytes s all) (placed (length front + stripe_length s) ss) ≡ bs =
    ap (λ n. map (λ (s : StripeInfo). stripe_bytes s all) (placed n ss)) (sym at)
    ∙ ap (λ (x : List ℕ). map (λ (s : StripeInfo). stripe_bytes s x) (placed (length (front ++ b)) ss)) (sym same)
    ∙ found_again (front ++ b) bs back ss rest in
    ap (λ (x : List ℕ). x ∷ map (λ (s : StripeInfo). stripe_bytes s all) (placed (length front + stripe_length s) ss))
    (cut front b (concat bs) back (stripe_length s) head)
    ∙ ap (λ (xs : List (List ℕ)). b ∷ xs) again
