-- What the tails of inputs have.
use Rattle.std.proofs.Common.{◌≡◌, ℕ, ◌+◌, ◌≤◌, List, [], ◌∷◌, ◌++◌, length, map, drop, refl, sym, ap, ◌∙◌, arith}
use Rattle.std.proofs.lemmas.List.{map-append, length-take-le, length-drop}
use Rattle.orc_wire.specs.declared.stripe_info.StripeInfo.{StripeInfo}
use Rattle.orc_tail.specs.Stripes.{stripe_length, AllBefore, stripe_bytes}
use Rattle.orc_tail.specs.Tails.{IsTail}
use Rattle.orc_tail.specs.declared.tail.Tail.{Tail}
use Rattle.orc_tail.proofs.Opened.{tail_before}
use Rattle.orc_merger.specs.Merging.{all_stripes, stripes_of, AreOpened, bodies}

-- a stripe within the bytes is as long as it says
stripe_whole : (bytes : List ℕ) (s : StripeInfo) → s.offset + stripe_length s ≤ length bytes → length (stripe_bytes s bytes) ≡ stripe_length s
stripe_whole bytes s le = length-take-le (stripe_length s) (drop s.offset bytes) (omega (arith, le, length-drop s.offset bytes))

stripes_whole : (bytes : List ℕ) (ss : List StripeInfo) → AllBefore (length bytes) ss
    → map length (map (λ (s : StripeInfo). stripe_bytes s bytes) ss) ≡ map stripe_length ss
stripes_whole bytes [] a = refl
stripes_whole bytes (s ∷ ss) a =
    ap (λ n. n ∷ map length (map (λ (t : StripeInfo). stripe_bytes t bytes) ss)) (stripe_whole bytes s a.0)
    ∙ ap (λ ns. stripe_length s ∷ ns) (stripes_whole bytes ss a.1)

-- each input's stripes are as long as its tail says
pub all_lengths : (xs : List (List ℕ)) (ts : List Tail) → AreOpened xs ts → map length (bodies xs ts) ≡ map stripe_length (all_stripes ts)
all_lengths [] [] o = refl
all_lengths [] (t ∷ ts) o = absurd o
all_lengths (x ∷ xs) [] o = absurd o
all_lengths (x ∷ xs) (t ∷ ts) o =
    let length_of : List ℕ → ℕ = λ b. length b in
    map-append length_of (stripes_of x t) (bodies xs ts)
    ∙ ap (λ (r : List ℕ). r ++ map length_of (bodies xs ts)) (stripes_whole x t.stripes (tail_before x t o.0))
    ∙ ap (λ (r : List ℕ). map stripe_length t.stripes ++ r) (all_lengths xs ts o.1)
    ∙ sym (map-append stripe_length t.stripes (all_stripes ts))

pub opened_push : (xs : List (List ℕ)) (ts : List Tail) (x : List ℕ) (t : Tail) → AreOpened xs ts → IsTail x t → AreOpened (xs ++ x ∷ []) (ts ++ t ∷ [])
opened_push [] [] x t o p = (p, tt)
opened_push [] (u ∷ us) x t o p = absurd o
opened_push (y ∷ ys) [] x t o p = absurd o
opened_push (y ∷ ys) (u ∷ us) x t o p = (o.0, opened_push ys us x t o.1 p)
