-- The rows of a file's stripes: there is one list of them at most.
use Rattle.std.specs.Prelude.{◌≡◌, ℕ, ◌+◌, ◌^◌, ◌<◌, ◌≤◌, List, [], ◌∷◌, ◌++◌, length, take, drop}
use Rattle.std.proofs.Common.{◌∙◌, sym, ap, subst, refl, inl, inr, arith, zero, suc}
use Rattle.std.proofs.lemmas.List.Concat.{flat_map-cons}
use Rattle.std.proofs.Math.Seq.{drop-append_seam, take-append_seam}
use Rattle.orc_wire.specs.declared.stripe_info.StripeInfo.{StripeInfo}
use Rattle.orc_values.specs.Cells.{Cell}
use Rattle.orc_values.specs.Shapes.{Shape}
use Rattle.orc_stripe_reader.proofs.OneStripe.{one_stripe}
use Rattle.orc_tail.specs.Stripes.{stripe_length, stripe_end, stripes_length, stripe_at, AllBefore, most_bytes, stripe_bytes}
use Rattle.orc_tail.specs.Tails.{tail_tests}
use Rattle.orc_file_reader.specs.FileRows.{rows_together, AreOfStripes, HasRows, FileIs, FirstRefused, cut_rows}
use Rattle.orc_tail.specs.declared.tail.Tail.{Tail}
use Rattle.orc_tail.specs.declared.fault.FileFault.{FileFault}
use Rattle.orc_column_reader.specs.Stripe.{IsStripe}

-- a stripe is no longer than all of them together
pub stripe_few : (ss : List StripeInfo) (i : ℕ) → i < length ss → stripe_length (stripe_at ss i) ≤ stripes_length ss
stripe_few [] i lt = omega (arith, lt)
stripe_few (s ∷ ss) zero lt = omega arith
stripe_few (s ∷ ss) (suc i) lt = omega (arith, stripe_few ss i (omega (arith, lt)))

-- each of the stripes that end before a place does
pub stripe_before : (place : ℕ) (ss : List StripeInfo) (i : ℕ) → i < length ss → AllBefore place ss → stripe_end (stripe_at ss i) ≤ place
stripe_before place [] i lt all = omega (arith, lt)
stripe_before place (s ∷ ss) zero lt all = all.0
stripe_before place (s ∷ ss) (suc i) lt all = stripe_before place ss i (omega (arith, lt)) all.1

one_parts : (s : Shape) (bytes : List ℕ) (infos : List StripeInfo) (a b : List (List Cell)) → AreOfStripes s bytes infos a → AreOfStripes s bytes infos b → rows_together a ≡ rows_together b
one_parts s bytes [] [] [] p q = refl
one_parts s bytes [] [] (y ∷ ys) p q = absurd q
one_parts s bytes [] (x ∷ xs) b p q = absurd p
one_parts s bytes (i ∷ is) [] b p q = absurd p
one_parts s bytes (i ∷ is) (x ∷ xs) [] p q = absurd q
one_parts s bytes (i ∷ is) (x ∷ xs) (y ∷ ys) p q =
    let here = one_stripe s i (stripe_bytes i bytes) x y p.0 q.0 in
    let rest = one_parts s bytes is xs ys p.1 q.1 in
    flat_map-cons (λ (r : List Cell). r) x xs ∙ (rw (here, rest) (sym (flat_map-cons (λ (r : List Cell). r) y ys)))

pub one_rows : (s : Shape) (bytes : List ℕ) (infos : List StripeInfo) (a b : List Cell) → HasRows s bytes infos a → HasRows s bytes infos b → a ≡ b
one_rows s bytes infos a b p q = p.rows_are ∙ (one_parts s bytes infos p.parts q.parts p.stripes q.stripes ∙ sym q.rows_are)

pub no_rows : (s : Shape) (bytes : List ℕ) (n : ℕ) (infos : List StripeInfo) (parts : List (List Cell)) (fault : FileFault) → FirstRefused s bytes n infos fault → AreOfStripes s bytes infos parts → ⊥
no_rows s bytes n [] parts fault bad p = bad
no_rows s bytes n (i ∷ is) [] fault bad p = p
no_rows s bytes n (i ∷ is) (rows ∷ parts) fault (inl refused) p = refused.3.none rows p.0
no_rows s bytes n (i ∷ is) (rows ∷ parts) fault (inr later) p = no_rows s bytes (n + 1) is parts fault later.2 p.1

pub one_tail : (bytes : List ℕ) (t u : Tail) (a b : List Cell) → FileIs bytes t a → FileIs bytes u b → t ≡ u
one_tail bytes t u a b p q = (tail_tests bytes).one t u p.tail_is q.tail_is

pub one_file : (bytes : List ℕ) (t u : Tail) (a b : List Cell) → FileIs bytes t a → FileIs bytes u b → (t ≡ u) × (a ≡ b)
one_file bytes t u a b p q =
    let same = one_tail bytes t u a b p q in
    (same, one_rows u.schema bytes u.stripes a b (subst (λ (x : Tail). HasRows x.schema bytes x.stripes a) same p.has_rows) q.has_rows)

pub no_file : (bytes : List ℕ) (tail : Tail) (rows : List Cell) (fault : FileFault) → FirstRefused tail.schema bytes 0 tail.stripes fault → FileIs bytes tail rows → ⊥
no_file bytes tail rows fault bad p = no_rows tail.schema bytes 0 tail.stripes p.has_rows.parts fault bad p.has_rows.stripes

cut_parts : (s : Shape) (bytes : List ℕ) (infos : List StripeInfo) (parts : List (List Cell)) → AreOfStripes s bytes infos parts → cut_rows infos (rows_together parts) ≡ parts
cut_parts s bytes [] [] p = refl
cut_parts s bytes [] (rows ∷ parts) p = absurd p
cut_parts s bytes (i ∷ is) [] p = absurd p
cut_parts s bytes (i ∷ is) (rows ∷ parts) p =
    let rest = cut_parts s bytes is parts p.1 in
    let all = flat_map-cons (λ (r : List Cell). r) rows parts in
    let own : take i.number_of_rows (rows ++ rows_together parts) ≡ rows = subst (λ (n : ℕ). take n (rows ++ rows_together parts) ≡ rows) p.0.spelled.counted (take-append_seam rows (rows_together parts)) in
    let more : drop i.number_of_rows (rows ++ rows_together parts) ≡ rows_together parts = subst (λ (n : ℕ). drop n (rows ++ rows_together parts) ≡ rows_together parts) p.0.spelled.counted (drop-append_seam rows (rows_together parts)) in
    subst (λ (t : List Cell). take i.number_of_rows t ∷ cut_rows is (drop i.number_of_rows t) ≡ rows ∷ parts) (sym all) (rw (own, more, rest) refl)

pub parts_cut : (s : Shape) (bytes : List ℕ) (infos : List StripeInfo) (rows : List Cell) (p : HasRows s bytes infos rows) → cut_rows infos rows ≡ p.parts
parts_cut s bytes infos rows p = ap (cut_rows infos) p.rows_are ∙ cut_parts s bytes infos p.parts p.stripes

-- the rows of each stripe are the file's, cut
pub rows_cut : (bytes : List ℕ) (tail : Tail) (rows : List Cell) → FileIs bytes tail rows → AreOfStripes tail.schema bytes tail.stripes (cut_rows tail.stripes rows)
rows_cut bytes tail rows p =
    let h = p.has_rows in
    subst (λ (x : List (List Cell)). AreOfStripes tail.schema bytes tail.stripes x) (sym (parts_cut tail.schema bytes tail.stripes rows h)) h.stripes

pub cut_whole : (infos : List StripeInfo) (bytes : List ℕ) (s : Shape) (rows : List Cell) → HasRows s bytes infos rows → rows_together (cut_rows infos rows) ≡ rows
cut_whole infos bytes s rows p = ap rows_together (parts_cut s bytes infos rows p) ∙ sym p.rows_are

pub stripe_short : (ss : List StripeInfo) (i : ℕ) → i < length ss → stripes_length ss ≤ most_bytes → stripe_length (stripe_at ss i) < 2 ^ 64
stripe_short ss i lt few = omega (arith, stripe_few ss i lt, few)

-- a stripe's place in a file is no part of what it says
pub moved : (s : Shape) (info : StripeInfo) (bytes : List ℕ) (rows : List Cell) (at : ℕ) → IsStripe s info bytes rows → IsStripe s (record info { offset = at }) bytes rows
moved s info bytes rows at h = record {
  footer = h.footer;
  has_footer = record { whole = h.has_footer.whole; read = h.has_footer.read; directory = h.has_footer.directory; encodings = h.has_footer.encodings };
  spelled = h.spelled;
}
