-- What is so of a stripe's bytes and rows, wherever the stripe stands, is so of each stripe of a merged file where it is of those of its inputs.
use Rattle.std.proofs.Common.{◌≡◌, ◌∙◌, ℕ, zero, suc, ◌+◌, ◌<◌, List, [], ◌∷◌, ◌++◌, length, map, refl, sym, ap, subst, arith}
use Rattle.std.specs.List.{AllByRecursion, concat}
use Rattle.std.proofs.lemmas.List.Concat.{flat_map-cons}
use Rattle.orc_wire.specs.declared.stripe_info.StripeInfo.{StripeInfo}
use Rattle.orc_values.specs.Cells.{Cell}
use Rattle.orc_values.specs.Shapes.{Shape}
use Rattle.orc_tail.specs.Stripes.{stripe_at, stripe_length, stripe_bytes}
use Rattle.orc_file_reader.specs.FileRows.{rows_together, HasRows, FileIs, cut_rows}
use Rattle.orc_tail.specs.Tails.{tail_tests}
use Rattle.orc_tail.specs.Images.{image}
use Rattle.orc_tail.specs.declared.tail.Tail.{Tail}
use Rattle.orc_file_reader.proofs.RowLemmas.{parts_cut}
use Rattle.orc_check.specs.Findings.{rows_at}
use Rattle.orc_check.proofs.NoFinding.{cut_many}
use Rattle.orc_merger.specs.Merging.{placed, all_stripes, merged, IsLike, stripes_of, AreOpened, bodies, IsMerge}
use Rattle.orc_merge_laws.specs.Grouping.{HaveRows}
use Rattle.orc_merge_laws.proofs.Rows.{AreStripes, of_file, stripes-append, joined-append, accepted, image_stripes}
use Rattle.orc_merge_laws.proofs.Standing.{stripes_of_image}

-- ---- what is said of stripes

-- of a stripe, by its schema and stride: of its record, its bytes and its rows
abbrev pub OfStripe : Type 1
OfStripe = Shape → ℕ → StripeInfo → List ℕ → List Cell → Type 0

-- which isn't about where the stripe stands
abbrev pub Moves : OfStripe → Type 0
Moves Is = (s : Shape) (stride : ℕ) (info : StripeInfo) (bytes : List ℕ) (rows : List Cell) (at : ℕ) → Is s stride info bytes rows → Is s stride (record info { offset = at }) bytes rows

-- of each stripe of a file of these rows, where the stride is above 0
abbrev pub HoldsOfFile : OfStripe → List ℕ → Tail → List Cell → Type 0
HoldsOfFile Is bytes tail rows =
    0 < tail.stride → (n : ℕ) → n < length tail.stripes → Is tail.schema tail.stride (stripe_at tail.stripes n) (stripe_bytes (stripe_at tail.stripes n) bytes) (rows_at (cut_rows tail.stripes rows) n)

-- of each stripe of some files of these rows
abbrev pub HoldsOfFiles : OfStripe → List (List ℕ) → List (List Cell) → Type 0
HoldsOfFiles Is [] [] = Unit {0}
HoldsOfFiles Is [] (rows ∷ parts) = ⊥
HoldsOfFiles Is (b ∷ bs) [] = ⊥
HoldsOfFiles Is (b ∷ bs) (rows ∷ parts) = ((tail : Tail) × FileIs b tail rows × HoldsOfFile Is b tail rows) × HoldsOfFiles Is bs parts

pub have_rows : (Is : OfStripe) (xs : List (List ℕ)) (parts : List (List Cell)) → HoldsOfFiles Is xs parts → HaveRows xs parts
have_rows Is [] [] h = tt
have_rows Is [] (r ∷ parts) h = absurd h
have_rows Is (x ∷ xs) [] h = absurd h
have_rows Is (x ∷ xs) (r ∷ parts) h = ((h.0.0, h.0.1), have_rows Is xs parts h.1)

-- ---- stripes by their bytes

-- of each of some stripes
abbrev pub AreEach : OfStripe → Shape → ℕ → List StripeInfo → List (List ℕ) → List (List Cell) → Type 0
AreEach Is s stride [] [] [] = Unit {0}
AreEach Is s stride [] [] (rows ∷ parts) = ⊥
AreEach Is s stride [] (b ∷ bs) parts = ⊥
AreEach Is s stride (i ∷ is) [] parts = ⊥
AreEach Is s stride (i ∷ is) (b ∷ bs) [] = ⊥
AreEach Is s stride (i ∷ is) (b ∷ bs) (rows ∷ parts) = Is s stride i b rows × AreEach Is s stride is bs parts

by_number : (Is : OfStripe) (s : Shape) (stride : ℕ) (bytes : List ℕ) (is : List StripeInfo) (parts : List (List Cell)) → length parts ≡ length is
    → ((n : ℕ) → n < length is → Is s stride (stripe_at is n) (stripe_bytes (stripe_at is n) bytes) (rows_at parts n)) → AreEach Is s stride is (map (λ (i : StripeInfo). stripe_bytes i bytes) is) parts
by_number Is s stride bytes [] [] e h = tt
by_number Is s stride bytes [] (p ∷ parts) e h = absurd (omega (arith, e))
by_number Is s stride bytes (i ∷ is) [] e h = absurd (omega (arith, e))
by_number Is s stride bytes (i ∷ is) (p ∷ parts) e h = (h 0 (omega arith), by_number Is s stride bytes is parts (omega (arith, e)) (λ n lt. h (suc n) (omega (arith, lt))))

pub at_number : (Is : OfStripe) (s : Shape) (stride : ℕ) (bytes : List ℕ) (is : List StripeInfo) (parts : List (List Cell)) → AreEach Is s stride is (map (λ (i : StripeInfo). stripe_bytes i bytes) is) parts
    → (n : ℕ) → n < length is → Is s stride (stripe_at is n) (stripe_bytes (stripe_at is n) bytes) (rows_at parts n)
at_number Is s stride bytes [] parts h n lt = absurd (omega (arith, lt))
at_number Is s stride bytes (i ∷ is) [] h n lt = absurd h
at_number Is s stride bytes (i ∷ is) (p ∷ parts) h zero lt = h.0
at_number Is s stride bytes (i ∷ is) (p ∷ parts) h (suc n) lt = at_number Is s stride bytes is parts h.1 n (omega (arith, lt))

each_placed : (Is : OfStripe) → Moves Is → (s : Shape) (stride at : ℕ) (is : List StripeInfo) (bs : List (List ℕ)) (parts : List (List Cell)) → AreEach Is s stride is bs parts
    → AreEach Is s stride (placed at is) bs parts
each_placed Is moved s stride at [] [] [] h = tt
each_placed Is moved s stride at [] [] (rows ∷ parts) h = absurd h
each_placed Is moved s stride at [] (b ∷ bs) parts h = absurd h
each_placed Is moved s stride at (i ∷ is) [] parts h = absurd h
each_placed Is moved s stride at (i ∷ is) (b ∷ bs) [] h = absurd h
each_placed Is moved s stride at (i ∷ is) (b ∷ bs) (rows ∷ parts) h = (moved s stride i b rows at h.0, each_placed Is moved s stride (at + stripe_length i) is bs parts h.1)

each-append : (Is : OfStripe) (s : Shape) (stride : ℕ) (is js : List StripeInfo) (bs cs : List (List ℕ)) (parts more : List (List Cell)) → AreEach Is s stride is bs parts → AreEach Is s stride js cs more
    → AreEach Is s stride (is ++ js) (bs ++ cs) (parts ++ more)
each-append Is s stride [] js [] cs [] more h k = k
each-append Is s stride [] js [] cs (rows ∷ parts) more h k = absurd h
each-append Is s stride [] js (b ∷ bs) cs parts more h k = absurd h
each-append Is s stride (i ∷ is) js [] cs parts more h k = absurd h
each-append Is s stride (i ∷ is) js (b ∷ bs) cs [] more h k = absurd h
each-append Is s stride (i ∷ is) js (b ∷ bs) cs (rows ∷ parts) more h k = (h.0, each-append Is s stride is js bs cs parts more h.1 k)

-- ---- the stripes of all inputs

record EachPart (Is : OfStripe) (s : Shape) (stride : ℕ) (is : List StripeInfo) (bs : List (List ℕ)) (all : List Cell) : Type 0 where
  parts : List (List Cell)
  stripes : AreStripes s is bs parts
  are : AreEach Is s stride is bs parts
  rows_are : all ≡ rows_together parts

own_parts : (Is : OfStripe) (t : Tail) (bytes : List ℕ) (r : List Cell) → 0 < t.stride → FileIs bytes t r → HoldsOfFile Is bytes t r → EachPart Is t.schema t.stride t.stripes (stripes_of bytes t) r
own_parts Is t bytes r some is has =
    let h = is.has_rows in
    let cut : cut_rows t.stripes r ≡ h.parts = parts_cut t.schema bytes t.stripes r h in
    record {
      parts = h.parts;
      stripes = of_file t.schema bytes t.stripes h.parts h.stripes;
      are = by_number Is t.schema t.stride bytes t.stripes h.parts (ap (λ (p : List (List Cell)). length p) (sym cut) ∙ cut_many t.stripes r)
          (λ n lt. subst (λ (p : List (List Cell)). Is t.schema t.stride (stripe_at t.stripes n) (stripe_bytes (stripe_at t.stripes n) bytes) (rows_at p n)) cut (has some n lt));
      rows_are = h.rows_are;
    }

all_parts : (Is : OfStripe) (first : Tail) (xs : List (List ℕ)) (ts : List Tail) (parts : List (List Cell)) → 0 < first.stride → AreOpened xs ts → AllByRecursion (IsLike first) ts → HoldsOfFiles Is xs parts
    → EachPart Is first.schema first.stride (all_stripes ts) (bodies xs ts) (rows_together parts)
all_parts Is first [] [] [] some o a h = record { parts = []; stripes = tt; are = tt; rows_are = refl }
all_parts Is first [] [] (r ∷ parts) some o a h = absurd h
all_parts Is first [] (t ∷ ts) parts some o a h = absurd o
all_parts Is first (x ∷ xs) [] parts some o a h = absurd o
all_parts Is first (x ∷ xs) (t ∷ ts) [] some o a h = absurd h
all_parts Is first (x ∷ xs) (t ∷ ts) (r ∷ parts) some o a h =
    let one : h.0.0 ≡ t = (tail_tests x).one h.0.0 t h.0.1.tail_is o.0 in
    let is : FileIs x t r = subst (λ (u : Tail). FileIs x u r) one h.0.1 in
    let has : HoldsOfFile Is x t r = subst (λ (u : Tail). HoldsOfFile Is x u r) one h.0.2 in
    let mine = own_parts Is t x r (omega (arith, some, a.0.stride)) is has in
    let by_schema : EachPart Is first.schema t.stride t.stripes (stripes_of x t) r = subst (λ (s : Shape). EachPart Is s t.stride t.stripes (stripes_of x t) r) a.0.schema mine in
    let here : EachPart Is first.schema first.stride t.stripes (stripes_of x t) r = subst (λ (n : ℕ). EachPart Is first.schema n t.stripes (stripes_of x t) r) a.0.stride by_schema in
    let rest = all_parts Is first xs ts parts some o.1 a.1 h.1 in
    record {
      parts = here.parts ++ rest.parts;
      stripes = stripes-append first.schema t.stripes (all_stripes ts) (stripes_of x t) (bodies xs ts) here.parts rest.parts here.stripes rest.stripes;
      are = each-append Is first.schema first.stride t.stripes (all_stripes ts) (stripes_of x t) (bodies xs ts) here.parts rest.parts here.are rest.are;
      rows_are = flat_map-cons (λ (p : List Cell). p) r parts ∙ ap (λ (z : List Cell). z ++ rows_together parts) here.rows_are ∙ ap (λ (z : List Cell). rows_together here.parts ++ z) rest.rows_are
          ∙ sym (joined-append here.parts rest.parts);
    }

-- ---- the merged file

pub merged_stripes : (Is : OfStripe) → Moves Is → (xs : List (List ℕ)) (tail : Tail) (out : List ℕ) (parts : List (List Cell)) → IsMerge xs tail out → HoldsOfFiles Is xs parts
    → HoldsOfFile Is out tail (rows_together parts)
merged_stripes Is moved xs tail out parts m h =
    let l = accepted xs tail out m in
    let ts : List Tail = l.first ∷ l.rest in
    let s : Shape = l.first.schema in
    let stride : ℕ = l.first.stride in
    let file : List ℕ = image (concat (bodies xs (l.first ∷ l.rest))) (merged l.first (l.first ∷ l.rest)) in
    let infos : List StripeInfo = placed 3 (all_stripes (l.first ∷ l.rest)) in
    let there : HoldsOfFile Is file (merged l.first (l.first ∷ l.rest)) (rows_together parts) = (λ some n lt.
    let p = all_parts Is l.first xs (l.first ∷ l.rest) parts some l.opened l.can.alike h in
    let has : HasRows s file infos (rows_together parts) = record { parts = p.parts; stripes = image_stripes xs l.first l.rest p.parts l.opened p.stripes; rows_are = p.rows_are } in
    let cut : cut_rows infos (rows_together parts) ≡ p.parts = parts_cut s file infos (rows_together parts) has in
    let in_file : AreEach Is s stride infos (map (λ (i : StripeInfo). stripe_bytes i file) infos) p.parts =
    subst (λ (b : List (List ℕ)). AreEach Is s stride infos b p.parts) (sym (stripes_of_image xs l.first l.rest l.opened))
    (each_placed Is moved s stride 3 (all_stripes (l.first ∷ l.rest)) (bodies xs (l.first ∷ l.rest)) p.parts p.are) in
    subst (λ (q : List (List Cell)). Is s stride (stripe_at infos n) (stripe_bytes (stripe_at infos n) file) (rows_at q n)) (sym cut) (at_number Is s stride file infos p.parts in_file n lt)) in
    subst (λ (x : List ℕ). HoldsOfFile Is x tail (rows_together parts)) (sym l.out_is) (subst (λ (u : Tail). HoldsOfFile Is file u (rows_together parts)) (sym l.tail_is) there)
