-- The merged file is accepted, and has the inputs' rows in order.
use Rattle.std.proofs.Common.{◌≡◌, ℕ, ◌+◌, ◌<◌, List, [], ◌∷◌, ◌++◌, length, map, refl, sym, ap, ◌∙◌, subst}
use Rattle.std.specs.List.{AllByRecursion, concat}
use Rattle.std.proofs.lemmas.List.Concat.{flat_map-cons, flat_map-append}
use Rattle.orc_wire.specs.declared.stripe_info.StripeInfo.{StripeInfo}
use Rattle.orc_values.specs.Cells.{Cell}
use Rattle.orc_values.specs.Shapes.{Shape}
use Rattle.orc_column_reader.specs.Stripe.{IsStripe}
use Rattle.orc_tail.specs.Stripes.{stripe_length, stripe_bytes}
use Rattle.orc_file_reader.specs.FileRows.{rows_together, AreOfStripes, HasRows, FileIs}
use Rattle.orc_tail.specs.Tails.{tail_tests, IsTail}
use Rattle.orc_tail.specs.Images.{image}
use Rattle.orc_tail.specs.declared.tail.Tail.{Tail}
use Rattle.orc_file_reader.proofs.RowLemmas.{moved}
use Rattle.orc_merger.specs.Merging.{placed, all_stripes, merged, IsLike, CanMerge, Merged, stripes_of, AreOpened, bodies, IsMerge}
use Rattle.orc_merge_laws.specs.Grouping.{HaveRows}
use Rattle.orc_merge_laws.proofs.Standing.{stands, stripes_of_image}

-- ---- stripes by their bytes

-- each stripe's bytes are a stripe of some of the rows
abbrev pub AreStripes : Shape → List StripeInfo → List (List ℕ) → List (List Cell) → Type 0
AreStripes s [] [] [] = Unit {0}
AreStripes s [] [] (rows ∷ parts) = ⊥
AreStripes s [] (b ∷ bs) parts = ⊥
AreStripes s (i ∷ is) [] parts = ⊥
AreStripes s (i ∷ is) (b ∷ bs) [] = ⊥
AreStripes s (i ∷ is) (b ∷ bs) (rows ∷ parts) = IsStripe s i b rows × AreStripes s is bs parts

pub of_file : (s : Shape) (bytes : List ℕ) (is : List StripeInfo) (parts : List (List Cell)) → AreOfStripes s bytes is parts
    → AreStripes s is (map (λ (i : StripeInfo). stripe_bytes i bytes) is) parts
of_file s bytes [] [] h = tt
of_file s bytes [] (rows ∷ parts) h = absurd h
of_file s bytes (i ∷ is) [] h = absurd h
of_file s bytes (i ∷ is) (rows ∷ parts) h = (h.0, of_file s bytes is parts h.1)

pub in_file : (s : Shape) (bytes : List ℕ) (is : List StripeInfo) (parts : List (List Cell))
    → AreStripes s is (map (λ (i : StripeInfo). stripe_bytes i bytes) is) parts → AreOfStripes s bytes is parts
in_file s bytes [] [] h = tt
in_file s bytes [] (rows ∷ parts) h = absurd h
in_file s bytes (i ∷ is) [] h = absurd h
in_file s bytes (i ∷ is) (rows ∷ parts) h = (h.0, in_file s bytes is parts h.1)

stripes_placed : (s : Shape) (at : ℕ) (is : List StripeInfo) (bs : List (List ℕ)) (parts : List (List Cell)) → AreStripes s is bs parts
    → AreStripes s (placed at is) bs parts
stripes_placed s at [] [] [] h = tt
stripes_placed s at [] [] (rows ∷ parts) h = absurd h
stripes_placed s at [] (b ∷ bs) parts h = absurd h
stripes_placed s at (i ∷ is) [] parts h = absurd h
stripes_placed s at (i ∷ is) (b ∷ bs) [] h = absurd h
stripes_placed s at (i ∷ is) (b ∷ bs) (rows ∷ parts) h = (moved s i b rows at h.0, stripes_placed s (at + stripe_length i) is bs parts h.1)

pub stripes-append : (s : Shape) (is js : List StripeInfo) (bs cs : List (List ℕ)) (parts more : List (List Cell)) → AreStripes s is bs parts
    → AreStripes s js cs more → AreStripes s (is ++ js) (bs ++ cs) (parts ++ more)
stripes-append s [] js [] cs [] more h k = k
stripes-append s [] js [] cs (rows ∷ parts) more h k = absurd h
stripes-append s [] js (b ∷ bs) cs parts more h k = absurd h
stripes-append s (i ∷ is) js [] cs parts more h k = absurd h
stripes-append s (i ∷ is) js (b ∷ bs) cs [] more h k = absurd h
stripes-append s (i ∷ is) js (b ∷ bs) cs (rows ∷ parts) more h k = (h.0, stripes-append s is js bs cs parts more h.1 k)

-- ---- the rows of inputs

-- the rows of the stripes of all inputs
pub record Parts (s : Shape) (is : List StripeInfo) (bs : List (List ℕ)) (rows : List Cell) : Type 0 where
  pub parts : List (List Cell)
  pub stripes : AreStripes s is bs parts
  pub rows_are : rows ≡ rows_together parts

pub joined-append : (parts more : List (List Cell)) → rows_together (parts ++ more) ≡ rows_together parts ++ rows_together more
joined-append parts more = flat_map-append (λ (p : List Cell). p) parts more

all_parts : (first : Tail) (xs : List (List ℕ)) (ts : List Tail) (rows : List (List Cell)) → AreOpened xs ts → AllByRecursion (IsLike first) ts
    → HaveRows xs rows
    → Parts first.schema (all_stripes ts) (bodies xs ts) (rows_together rows)
all_parts first [] [] [] o a h = record { parts = []; stripes = tt; rows_are = refl }
all_parts first [] [] (r ∷ rows) o a h = absurd h
all_parts first [] (t ∷ ts) rows o a h = absurd o
all_parts first (x ∷ xs) [] rows o a h = absurd o
all_parts first (x ∷ xs) (t ∷ ts) [] o a h = absurd h
all_parts first (x ∷ xs) (t ∷ ts) (r ∷ rows) o a h =
    let one : h.0.0 ≡ t = (tail_tests x).one h.0.0 t h.0.1.tail_is o.0 in
    let mine : HasRows t.schema x t.stripes r = subst (λ (u : Tail). HasRows u.schema x u.stripes r) one h.0.1.has_rows in
    let here : HasRows first.schema x t.stripes r = subst (λ (s : Shape). HasRows s x t.stripes r) a.0.schema mine in
    let rest = all_parts first xs ts rows o.1 a.1 h.1 in
    record {
      parts = here.parts ++ rest.parts;
      stripes = stripes-append first.schema t.stripes (all_stripes ts) (stripes_of x t) (bodies xs ts) here.parts rest.parts
          (of_file first.schema x t.stripes here.parts here.stripes) rest.stripes;
      rows_are = flat_map-cons (λ (p : List Cell). p) r rows ∙ ap (λ (z : List Cell). z ++ rows_together rows) here.rows_are
          ∙ ap (λ (z : List Cell). rows_together here.parts ++ z) rest.rows_are
          ∙ sym (joined-append here.parts rest.parts);
    }

-- ---- the merged file

pub record Accepted (xs : List (List ℕ)) (tail : Tail) (out : List ℕ) : Type 0 where
  pub first : Tail
  pub rest : List Tail
  pub opened : AreOpened xs (first ∷ rest)
  pub can : CanMerge first (first ∷ rest)
  pub tail_is : tail ≡ merged first (first ∷ rest)
  pub out_is : out ≡ image (concat (bodies xs (first ∷ rest))) (merged first (first ∷ rest))

accepted_of : (xs : List (List ℕ)) (tail : Tail) (out : List ℕ) (ts : List Tail) → AreOpened xs ts → Merged ts tail
    → out ≡ image (concat (bodies xs ts)) tail → Accepted xs tail out
accepted_of xs tail out [] o m w = absurd m
accepted_of xs tail out (t ∷ ts) o m w = record {
  first = t;
  rest = ts;
  opened = o;
  can = m.0;
  tail_is = m.1;
  out_is = w ∙ ap (λ (x : Tail). image (concat (bodies xs (t ∷ ts))) x) m.1;
}

pub accepted : (xs : List (List ℕ)) (tail : Tail) (out : List ℕ) → IsMerge xs tail out → Accepted xs tail out
accepted xs tail out m = accepted_of xs tail out m.tails m.opened m.merged m.written

pub grouping_accepted : (xs : List (List ℕ)) (tail : Tail) (out : List ℕ) → IsMerge xs tail out → length out < 18446744073709551616 → IsTail out tail
grouping_accepted xs tail out m short =
    let l = accepted xs tail out m in
    let few : length (image (concat (bodies xs (l.first ∷ l.rest))) (merged l.first (l.first ∷ l.rest))) < 18446744073709551616 = subst
    (λ (x : List ℕ). length x < 18446744073709551616) l.out_is short in
    subst (λ (x : List ℕ). IsTail x tail) (sym l.out_is) (subst (IsTail (image (concat (bodies xs (l.first ∷ l.rest))) (merged l.first (l.first ∷ l.rest))))
    (sym l.tail_is) (stands xs l.first l.rest l.opened l.can few))

-- the stripes of the merged file, by its bytes
pub image_stripes : (xs : List (List ℕ)) (first : Tail) (rest : List Tail) (parts : List (List Cell)) → AreOpened xs (first ∷ rest)
    → AreStripes first.schema (all_stripes (first ∷ rest)) (bodies xs (first ∷ rest)) parts
    → AreOfStripes first.schema (image (concat (bodies xs (first ∷ rest))) (merged first (first ∷ rest))) (placed 3 (all_stripes (first ∷ rest))) parts
image_stripes xs first rest parts o h =
    let ts : List Tail = first ∷ rest in
    in_file first.schema (image (concat (bodies xs (first ∷ rest))) (merged first (first ∷ rest))) (placed 3 (all_stripes (first ∷ rest))) parts
    (subst (λ (b : List (List ℕ)). AreStripes first.schema (placed 3 (all_stripes (first ∷ rest))) b parts) (sym (stripes_of_image xs first rest o))
    (stripes_placed first.schema 3 (all_stripes (first ∷ rest)) (bodies xs (first ∷ rest)) parts h))

pub grouping_rows : (xs : List (List ℕ)) (tail : Tail) (out : List ℕ) (rows : List (List Cell)) → IsMerge xs tail out → length out < 18446744073709551616
    → HaveRows xs rows → FileIs out tail (rows_together rows)
grouping_rows xs tail out rows m short h =
    let l = accepted xs tail out m in
    let p = all_parts l.first xs (l.first ∷ l.rest) rows l.opened l.can.alike h in
    let there = image_stripes xs l.first l.rest p.parts l.opened p.stripes in
    let in_out : AreOfStripes l.first.schema out (placed 3 (all_stripes (l.first ∷ l.rest))) p.parts
    = subst (λ (x : List ℕ). AreOfStripes l.first.schema x (placed 3 (all_stripes (l.first ∷ l.rest))) p.parts) (sym l.out_is) there in
    record {
      tail_is = grouping_accepted xs tail out m short;
      has_rows = record {
        parts = p.parts;
        stripes = subst (λ (u : Tail). AreOfStripes u.schema out u.stripes p.parts)
            (sym l.tail_is) in_out;
        rows_are = p.rows_are;
      };
    }
