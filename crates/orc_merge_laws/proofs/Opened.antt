-- Inputs that are opened: of each one tail, within the limits.
use Rattle.std.proofs.Common.{◌≡◌, ℕ, ◌+◌, List, [], ◌∷◌, ◌++◌, refl, sym, ap, ◌∙◌, append_assoc}
use Rattle.std.specs.List.{AllByRecursion}
use Rattle.orc_tail.specs.Tails.{tail_tests}
use Rattle.orc_tail.specs.Images.{IsWithinLimits, HasBits}
use Rattle.orc_tail.specs.declared.tail.Tail.{Tail}
use Rattle.orc_tail.proofs.Opened.{tail_within}
use Rattle.orc_tail.proofs.ReadBits.{tail_bits}
use Rattle.orc_merger.specs.Merging.{stripes_of, AreOpened, bodies}

pub opened_split : (xs ys : List (List ℕ)) (ts : List Tail) → AreOpened (xs ++ ys) ts
    → (us : List Tail) × (bs : List Tail) × AreOpened xs us × AreOpened ys bs × (ts ≡ us ++ bs)
opened_split [] ys ts o = ([], ts, tt, o, refl)
opened_split (x ∷ xs) ys [] o = absurd o
opened_split (x ∷ xs) ys (t ∷ ts) o =
    let s = opened_split xs ys ts o.1 in
    (t ∷ s.0, s.1, (o.0, s.2), s.3, ap (λ (r : List Tail). t ∷ r) s.4)

pub bodies-append : (xs ys : List (List ℕ)) (us bs : List Tail) → AreOpened xs us → bodies (xs ++ ys) (us ++ bs) ≡ bodies xs us ++ bodies ys bs
bodies-append [] ys [] bs o = refl
bodies-append [] ys (a ∷ us) bs o = absurd o
bodies-append (x ∷ xs) ys [] bs o = absurd o
bodies-append (x ∷ xs) ys (a ∷ us) bs o =
    ap (λ (r : List (List ℕ)). stripes_of x a ++ r) (bodies-append xs ys us bs o.1) ∙ sym (append_assoc (stripes_of x a) (bodies xs us) (bodies ys bs))

pub one_opened : (xs : List (List ℕ)) (us bs : List Tail) → AreOpened xs us → AreOpened xs bs → us ≡ bs
one_opened [] [] [] o p = refl
one_opened [] [] (b ∷ bs) o p = absurd p
one_opened [] (a ∷ us) bs o p = absurd o
one_opened (x ∷ xs) [] bs o p = absurd o
one_opened (x ∷ xs) (a ∷ us) [] o p = absurd p
one_opened (x ∷ xs) (a ∷ us) (b ∷ bs) o p = rw ((tail_tests x).one a b o.0 p.0, one_opened xs us bs o.1 p.1) refl

-- each tail is within the limits
pub all_sound : (xs : List (List ℕ)) (ts : List Tail) → AreOpened xs ts → AllByRecursion IsWithinLimits ts
all_sound [] [] o = tt
all_sound [] (t ∷ ts) o = absurd o
all_sound (x ∷ xs) [] o = absurd o
all_sound (x ∷ xs) (t ∷ ts) o = (tail_within x t o.0, all_sound xs ts o.1)

pub all_bits : (xs : List (List ℕ)) (ts : List Tail) → AreOpened xs ts → AllByRecursion HasBits ts
all_bits [] [] o = tt
all_bits [] (t ∷ ts) o = absurd o
all_bits (x ∷ xs) [] o = absurd o
all_bits (x ∷ xs) (t ∷ ts) o = (tail_bits x t o.0, all_bits xs ts o.1)
