-- The pieces of the inputs' stripes are the stripes' bytes, and stand within the inputs.
use Rattle.std.proofs.Common.{◌≡◌, ℕ, ◌+◌, ◌<◌, ◌≤◌, List, [], ◌∷◌, ◌++◌, length, map, refl, sym, ap, ◌∙◌, subst, arith, append_assoc}
use Rattle.std.specs.Prelude.{slice_index, slice_index_or, All}
use Rattle.std.specs.List.{concat, AllByRecursion}
use Rattle.std.proofs.lemmas.List.{get_or_at, length_push}
use Rattle.std.proofs.lemmas.List.Concat.{flat_map-append}
use Rattle.std.proofs.lemmas.List.Elements.{All-from_recursion}
use Rattle.orc_wire.specs.declared.stripe_info.StripeInfo.{StripeInfo}
use Rattle.orc_io.specs.Devices.{bytes_at}
use Rattle.orc_tail.specs.Stripes.{stripe_length, AllBefore, stripe_bytes}
use Rattle.orc_tail.specs.declared.tail.Tail.{Tail}
use Rattle.orc_merger.specs.declared.copying.Piece.{Piece}
use Rattle.orc_merger.specs.Merging.{AreOpened, bodies, stripes_of}
use Rattle.orc_merger.specs.Copies.{piece_bytes, pieces_bytes}
use Rattle.orc_merger.specs.Gathering.{pieces_in, pieces_of}
use Rattle.orc_merger.specs.Inputs.{EndWithinInputs}
use Rattle.orc_values.proofs.Lists.{all_append}

-- ---- their bytes

of_stripes : (files : List (List ℕ)) (i : ℕ) (bytes : List ℕ) (ss : List StripeInfo) → slice_index_or files i [] ≡ bytes
    → pieces_bytes files (pieces_in i ss) ≡ concat (map (λ (s : StripeInfo). stripe_bytes s bytes) ss)
of_stripes files i bytes [] e = refl
of_stripes files i bytes (s ∷ ss) e =
    ap (λ (b : List ℕ). bytes_at s.offset (stripe_length s) b ++ pieces_bytes files (pieces_in i ss)) e
    ∙ ap (λ (r : List ℕ). stripe_bytes s bytes ++ r) (of_stripes files i bytes ss e)

concat-append : (xs ys : List (List ℕ)) → concat (xs ++ ys) ≡ concat xs ++ concat ys
concat-append [] ys = refl
concat-append (x ∷ xs) ys = ap (λ (r : List ℕ). x ++ r) (concat-append xs ys) ∙ sym (append_assoc x (concat xs) (concat ys))

of_rest : (front rest : List (List ℕ)) (i : ℕ) (ts : List Tail) → length front ≡ i → AreOpened rest ts
    → pieces_bytes (front ++ rest) (pieces_of i ts) ≡ concat (bodies rest ts)
of_rest front [] i [] n o = refl
of_rest front [] i (t ∷ ts) n o = absurd o
of_rest front (x ∷ xs) i [] n o = absurd o
of_rest front (x ∷ xs) i (t ∷ ts) n o =
    let files : List (List ℕ) = front ++ x ∷ xs in
    let longer : length (front ++ x ∷ []) ≡ i + 1 = length_push front x ∙ ap (λ (k : ℕ). k + 1) n in
    flat_map-append (piece_bytes files) (pieces_in i t.stripes) (pieces_of (i + 1) ts)
    ∙ ap (λ (r : List ℕ). r ++ pieces_bytes files (pieces_of (i + 1) ts)) (of_stripes files i x t.stripes (get_or_at front x xs [] i n))
    ∙ ap (λ (r : List ℕ). concat (stripes_of x t) ++ r) (
    ap (λ (z : List (List ℕ)). pieces_bytes z (pieces_of (i + 1) ts)) (sym (append_assoc front (x ∷ []) xs))
    ∙ of_rest (front ++ x ∷ []) xs (i + 1) ts longer o.1)
    ∙ sym (concat-append (stripes_of x t) (bodies xs ts))

pub pieces_are : (files : List (List ℕ)) (tails : List Tail) → AreOpened files tails → pieces_bytes files (pieces_of 0 tails) ≡ concat (bodies files tails)
pieces_are files tails o = of_rest [] files 0 tails refl o

-- ---- where they stand

abbrev IsWithin : List ℕ → Piece → Type 0
IsWithin sizes p = p.offset + p.len ≤ slice_index sizes p.input

within_one : (sizes : List ℕ) (i n : ℕ) (ss : List StripeInfo) → slice_index sizes i ≡ n → AllBefore n ss
    → AllByRecursion (IsWithin sizes) (pieces_in i ss)
within_one sizes i n [] e b = tt
within_one sizes i n (s ∷ ss) e b =
    let here : s.offset + stripe_length s ≤ n = b.0 in
    let le : s.offset + stripe_length s ≤ slice_index sizes i = omega (arith, e, here) in
    (le, within_one sizes i n ss e b.1)

within_rest : (front rest : List ℕ) (i : ℕ) (ts : List Tail) → length front ≡ i → EndWithinInputs rest ts
    → AllByRecursion (IsWithin (front ++ rest)) (pieces_of i ts)
within_rest front rest i [] e w = tt
within_rest front [] i (t ∷ ts) e w = absurd w
within_rest front (n ∷ ns) i (t ∷ ts) e w =
    let longer : length (front ++ n ∷ []) ≡ i + 1 = length_push front n ∙ ap (λ (k : ℕ). k + 1) e in
    all_append (IsWithin (front ++ n ∷ ns)) (pieces_in i t.stripes) (pieces_of (i + 1) ts)
    (within_one (front ++ n ∷ ns) i n t.stripes (get_or_at front n ns 0 i e) w.0)
    (subst (λ (z : List ℕ). AllByRecursion (IsWithin z) (pieces_of (i + 1) ts)) (append_assoc front (n ∷ []) ns)
    (within_rest (front ++ n ∷ []) ns (i + 1) ts longer w.1))

-- each piece stands within its input
pub pieces_within : (sizes : List ℕ) (ts : List Tail) → EndWithinInputs sizes ts → All (λ (p : Piece). p.offset + p.len ≤ slice_index sizes p.input) (pieces_of 0 ts)
pieces_within sizes ts w = All-from_recursion (IsWithin sizes) (pieces_of 0 ts) (within_rest [] sizes 0 ts refl w)

inputs_one : (n i : ℕ) (ss : List StripeInfo) → i < n → AllByRecursion (λ (p : Piece). p.input < n) (pieces_in i ss)
inputs_one n i [] lt = tt
inputs_one n i (s ∷ ss) lt = (lt, inputs_one n i ss lt)

inputs_rest : (n i : ℕ) (ts : List Tail) → i + length ts ≤ n → AllByRecursion (λ (p : Piece). p.input < n) (pieces_of i ts)
inputs_rest n i [] le = tt
inputs_rest n i (t ∷ ts) le =
    all_append (λ (p : Piece). p.input < n) (pieces_in i t.stripes) (pieces_of (i + 1) ts) (inputs_one n i t.stripes (omega (arith, le)))
    (inputs_rest n (i + 1) ts (omega (arith, le)))

-- and of an input that there is
pub pieces_inputs : (n : ℕ) (ts : List Tail) → length ts ≤ n → All (λ (p : Piece). p.input < n) (pieces_of 0 ts)
pieces_inputs n ts le = All-from_recursion (λ (p : Piece). p.input < n) (pieces_of 0 ts) (inputs_rest n 0 ts (omega (arith, le)))
