-- Stripes one after the other.
use Rattle.std.proofs.Common.{◌≡◌, ℕ, ◌+◌, ◌≤◌, List, [], ◌∷◌, ◌++◌, suc, length, map, refl, ap, arith, length-append}
use Rattle.std.specs.List.{concat, AllByRecursion}
use Rattle.orc_wire.specs.declared.stripe_info.StripeInfo.{StripeInfo}
use Rattle.orc_tail.specs.Stripes.{stripe_length, stripes_length, stripes_rows, most_stripe_rows, IsLaid}
use Rattle.orc_merger.specs.Merging.{placed}

pub laid-placed : (at : ℕ) (ss : List StripeInfo) → IsLaid at (placed at ss)
laid-placed at [] = tt
laid-placed at (s ∷ ss) = (refl, laid-placed (at + stripe_length s) ss)

pub length-placed : (at : ℕ) (ss : List StripeInfo) → length (placed at ss) ≡ length ss
length-placed at [] = refl
length-placed at (s ∷ ss) = ap suc (length-placed (at + stripe_length s) ss)

pub bytes-placed : (at : ℕ) (ss : List StripeInfo) → stripes_length (placed at ss) ≡ stripes_length ss
bytes-placed at [] = refl
bytes-placed at (s ∷ ss) = ap (λ n. stripe_length s + n) (bytes-placed (at + stripe_length s) ss)

pub rows-placed : (at : ℕ) (ss : List StripeInfo) → stripes_rows (placed at ss) ≡ stripes_rows ss
rows-placed at [] = refl
rows-placed at (s ∷ ss) = ap (λ n. s.number_of_rows + n) (rows-placed (at + stripe_length s) ss)

pub stripe_rows-placed : (at : ℕ) (ss : List StripeInfo) → AllByRecursion (λ (s : StripeInfo). s.number_of_rows ≤ most_stripe_rows) ss
    → AllByRecursion (λ (s : StripeInfo). s.number_of_rows ≤ most_stripe_rows) (placed at ss)
stripe_rows-placed at [] all = all
stripe_rows-placed at (s ∷ ss) all = (all.0, stripe_rows-placed (at + stripe_length s) ss all.1)

pub bytes-append : (xs ys : List StripeInfo) → stripes_length (xs ++ ys) ≡ stripes_length xs + stripes_length ys
bytes-append [] ys = omega arith
bytes-append (x ∷ xs) ys = omega (arith, bytes-append xs ys)

pub rows-append : (xs ys : List StripeInfo) → stripes_rows (xs ++ ys) ≡ stripes_rows xs + stripes_rows ys
rows-append [] ys = omega arith
rows-append (x ∷ xs) ys = omega (arith, rows-append xs ys)

-- as many bytes as the stripes have
pub length-concat : (bodies : List (List ℕ)) (ss : List StripeInfo) → map length bodies ≡ map stripe_length ss → length (concat bodies) ≡ stripes_length ss
length-concat [] [] e = refl
length-concat [] (s ∷ ss) e = cc
length-concat (b ∷ bs) [] e = cc
length-concat (b ∷ bs) (s ∷ ss) e =
    let head : length b ≡ stripe_length s = cc in
    let rest : map length bs ≡ map stripe_length ss = cc in
    omega (arith, length-append b (concat bs), head, length-concat bs ss rest)
