-- Statistics of files whose stripes' statistics are those of the rows.
use Rattle.std.proofs.Common.{◌≡◌, ℕ, ◌+◌, ◌*◌, ◌<◌, ◌≤◌, ◌^◌, Bool, true, false, ◌&&◌, if◌then◌else◌, List, [], ◌∷◌, ◌++◌, length, map}
use Rattle.std.proofs.Common.{slice_get, Option, Some, refl, sym, ap, ◌∙◌, subst, arith, length-append}
use Rattle.std.specs.Prelude.{◌||◌}
use Rattle.std.specs.List.{AllByRecursion, concat, flat_map, list_all}
use Rattle.std.proofs.lemmas.List.Concat.{flat_map-cons}
use Rattle.orc_wire.specs.declared.stripe_info.StripeInfo.{StripeInfo}
use Rattle.orc_values.specs.Cells.{Cell}
use Rattle.orc_values.specs.Shapes.{Shape, width, shape_at}
use Rattle.orc_values.specs.Columns.{cells}
use Rattle.orc_values.proofs.Together.{cells_fit}
use Rattle.orc_stats.specs.declared.kind.StatKind.{StatKind}
use Rattle.orc_stats.specs.declared.kind.StatKind.TheVariants as kind
use Rattle.orc_stats.specs.declared.stat.Stat.{Stat}
use Rattle.orc_stats.specs.declared.stat.Body.{Body}
use Rattle.orc_stats.specs.declared.stat.Body.TheVariants as body
use Rattle.orc_stats.specs.Kinds.{is_of}
use Rattle.orc_stats.specs.Statistics.{stat}
use Rattle.orc_stats.specs.Joining.{joined}
use Rattle.orc_stats.specs.Whole.{has_sum, without_sum, keeps_sum, whole}
use Rattle.orc_stats.proofs.KnownParts.{joined-agreed}
use Rattle.orc_stats.specs.Known.{AllAgree, known_in, Part, part_cells, parts_of, told_of, known_whole}
use Rattle.orc_tail.specs.Stripes.{most_stripes}
use Rattle.orc_tail.specs.Statistics.{kind_at, column_stats, file_stats}
use Rattle.orc_file_reader.specs.FileRows.{HasRows, FileIs, cut_rows}
use Rattle.orc_file_reader.specs.FileRows as rows
use Rattle.orc_file_reader.specs.Honest.{AreHonest, Honest, told_at, known_whole_of, AreWhole, HasWholeStats}
use Rattle.orc_tail.specs.Tails.{tail_tests}
use Rattle.orc_tail.specs.Images.{image}
use Rattle.orc_tail.specs.declared.tail.Tail.{Tail}
use Rattle.orc_file_reader.proofs.RowLemmas.{parts_cut}
use Rattle.orc_stats.proofs.Fitting.{are_of_kind}
use Rattle.orc_merger.specs.Merging.{placed, all_stripes, all_stats, merged, IsLike, stripes_of, AreOpened, bodies}
use Rattle.orc_merger.specs.Merging.{IsMerge}
use Rattle.orc_merge_laws.specs.Grouping.{AreHonestFiles}
use Rattle.orc_merger.proofs.Limits.{room_of}
use Rattle.orc_merge_laws.proofs.Rows.{AreStripes, of_file, stripes-append, joined-append, accepted, image_stripes}
use Rattle.orc_values.proofs.Lists.{some_take}
use Rattle.orc_tail.proofs.OfColumns.{at_column, length-of_columns}

-- ---- the stripes of all inputs, their rows and statistics

pub record HonestParts (s : Shape) (is : List StripeInfo) (bs : List (List ℕ)) (stats : List (List Stat)) (all : List Cell) : Type 0 where
  pub parts : List (List Cell)
  pub stripes : AreStripes s is bs parts
  pub honest : AreHonest s parts stats
  pub rows_are : all ≡ rows.rows_together parts

honest-append : (s : Shape) (parts more : List (List Cell)) (xs ys : List (List Stat)) → AreHonest s parts xs → AreHonest s more ys
    → AreHonest s (parts ++ more) (xs ++ ys)
honest-append s [] more [] ys h k = k
honest-append s [] more (x ∷ xs) ys h k = absurd h
honest-append s (p ∷ parts) more [] ys h k = absurd h
honest-append s (p ∷ parts) more (x ∷ xs) ys h k = (h.0, honest-append s parts more xs ys h.1 k)

-- those of one file
own_parts : (t : Tail) (bytes : List ℕ) (r : List Cell) → FileIs bytes t r → Honest t r → HonestParts t.schema t.stripes (stripes_of bytes t) t.stripe_stats r
own_parts t bytes r is honest =
    let h = is.has_rows in record {
      parts = h.parts;
      stripes = of_file t.schema bytes t.stripes h.parts h.stripes;
      honest = subst (λ (p : List (List Cell)). AreHonest t.schema p t.stripe_stats) (parts_cut t.schema bytes t.stripes r h) honest;
      rows_are = h.rows_are;
    }

all_honest : (first : Tail) (xs : List (List ℕ)) (ts : List Tail) (parts : List (List Cell)) → AreOpened xs ts → AllByRecursion (IsLike first) ts
    → AreHonestFiles xs parts
    → HonestParts first.schema (all_stripes ts) (bodies xs ts) (all_stats ts) (rows.rows_together parts)
all_honest first [] [] [] o a h = record { parts = []; stripes = tt; honest = tt; rows_are = refl }
all_honest first [] [] (r ∷ parts) o a h = absurd h
all_honest first [] (t ∷ ts) parts o a h = absurd o
all_honest first (x ∷ xs) [] parts o a h = absurd o
all_honest first (x ∷ xs) (t ∷ ts) [] o a h = absurd h
all_honest first (x ∷ xs) (t ∷ ts) (r ∷ parts) o a h =
    let one : h.0.0 ≡ t = (tail_tests x).one h.0.0 t h.0.1.tail_is o.0 in
    let mine : HonestParts t.schema t.stripes (stripes_of x t) t.stripe_stats r
    = subst (λ (u : Tail). HonestParts u.schema u.stripes (stripes_of x u) u.stripe_stats r) one (own_parts h.0.0 x r h.0.1 h.0.2) in
    let here : HonestParts first.schema t.stripes (stripes_of x t) t.stripe_stats r
    = subst (λ (s : Shape). HonestParts s t.stripes (stripes_of x t) t.stripe_stats r) a.0.schema mine in
    let rest = all_honest first xs ts parts o.1 a.1 h.1 in
    record {
      parts = here.parts ++ rest.parts;
      stripes = stripes-append first.schema t.stripes (all_stripes ts) (stripes_of x t) (bodies xs ts) here.parts rest.parts here.stripes rest.stripes;
      honest = honest-append first.schema here.parts rest.parts t.stripe_stats (all_stats ts) here.honest rest.honest;
      rows_are = flat_map-cons (λ (p : List Cell). p) r parts ∙ ap (λ (z : List Cell). z ++ rows.rows_together parts) here.rows_are
          ∙ ap (λ (z : List Cell). rows.rows_together here.parts ++ z) rest.rows_are
          ∙ sym (joined-append here.parts rest.parts);
    }

-- ---- a column of them

column_agrees : (s : Shape) (c : ℕ) (parts : List (List Cell)) (stats : List (List Stat)) → c < width s → AreHonest s parts stats
    → AllAgree (kind_at s c) (column_stats c stats) (map (cells s c) parts) × (told_at stats c ≡ map (λ x. Some x) (column_stats c stats))
column_agrees s c [] [] lt h = (tt, refl)
column_agrees s c [] (x ∷ stats) lt h = absurd h
column_agrees s c (p ∷ parts) [] lt h = absurd h
column_agrees s c (p ∷ parts) (x ∷ stats) lt h =
    let have = h.0 in
    let own = have.each c lt in
    let rest = column_agrees s c parts stats lt h.1 in
    let first : column_stats c (x ∷ stats) ≡ own.0 ∷ column_stats c stats = ap (λ (z : List Stat). z ++ column_stats c stats) (some_take x c own.0 own.1) in (
      subst (λ (z : List Stat). AllAgree (kind_at s c) z (cells s c p ∷ map (cells s c) parts)) (sym first) (own.2, rest.0),
      ap (λ (o : Option Stat). o ∷ told_at stats c) own.1 ∙ ap (λ (os : List (Option Stat)). Some own.0 ∷ os) rest.1 ∙ ap (λ (z : List Stat). map (λ x. Some x) z) (sym first),
    )

kinds_are : (s : Shape) (c : ℕ) (is : List StripeInfo) (bs : List (List ℕ)) (parts : List (List Cell)) → c < width s → AreStripes s is bs parts
    → AllByRecursion (AllByRecursion (λ x. is_of (kind_at s c) x ≡ true)) (map (cells s c) parts)
kinds_are s c [] [] [] lt h = tt
kinds_are s c [] [] (p ∷ parts) lt h = absurd h
kinds_are s c [] (b ∷ bs) parts lt h = absurd h
kinds_are s c (i ∷ is) [] parts lt h = absurd h
kinds_are s c (i ∷ is) (b ∷ bs) [] lt h = absurd h
kinds_are s c (i ∷ is) (b ∷ bs) (p ∷ parts) lt h =
    (are_of_kind (shape_at s c) (cells s c p) (cells_fit s c p lt h.0.spelled.fit), kinds_are s c is bs parts lt h.1)

-- as many cells as stripes can have
cells_few : (s : Shape) (c : ℕ) (is : List StripeInfo) (bs : List (List ℕ)) (parts : List (List Cell)) → c < width s → AreStripes s is bs parts
    → length (flat_map (λ p. p) (map (cells s c) parts)) ≤ length is * 2147483648
cells_few s c [] [] [] lt h = omega arith
cells_few s c [] [] (p ∷ parts) lt h = absurd h
cells_few s c [] (b ∷ bs) parts lt h = absurd h
cells_few s c (i ∷ is) [] parts lt h = absurd h
cells_few s c (i ∷ is) (b ∷ bs) [] lt h = absurd h
cells_few s c (i ∷ is) (b ∷ bs) (p ∷ parts) lt h =
    let col = h.0.spelled.column c lt in
    let few = col.few in
    let rest = cells_few s c is bs parts lt h.1 in
    let all = flat_map-cons (λ (x : List Cell). x) (cells s c p) (map (cells s c) parts) in
    let len = length-append (cells s c p) (flat_map (λ (x : List Cell). x) (map (cells s c) parts)) in
    omega (arith, ap length all, len, few, rest)

whole_column : (s : Shape) (is : List StripeInfo) (bs : List (List ℕ)) (stats : List (List Stat)) (parts : List (List Cell)) (c : ℕ) → c < width s
    → length is ≤ most_stripes
    → AreStripes s is bs parts → AreHonest s parts stats → slice_get (file_stats s stats) c ≡ Some (known_whole_of s stats parts c)
whole_column s is bs stats parts c lt few stripes honest =
    let k : StatKind = kind_at s c in
    let count = cells_few s c is bs parts lt stripes in
    let own = column_agrees s c parts stats lt honest in
    let z : 0 + c ≡ c = omega arith in
    let most : length (flat_map (λ p. p) (map (cells s c) parts)) ≤ 2 ^ 62 = omega (arith, count, few) in
    at_column (λ d. joined (kind_at s d) (column_stats d stats)) 0 (width s) c lt
    ∙ ap (λ d. Some (joined (kind_at s d) (column_stats d stats))) z
    ∙ ap Some (joined-agreed k (column_stats c stats) (map (cells s c) parts) (kinds_are s c is bs parts lt stripes) most own.0)
    ∙ ap (λ (told : List (Option Stat)). Some (known_whole k (parts_of told (map (cells s c) parts)))) (sym own.1)

-- ---- the merged file

pub honest_merge : (xs : List (List ℕ)) (tail : Tail) (out : List ℕ) (parts : List (List Cell)) → IsMerge xs tail out → AreHonestFiles xs parts
    → Honest tail (rows.rows_together parts) × HasWholeStats tail (rows.rows_together parts)
honest_merge xs tail out parts m h =
    let l = accepted xs tail out m in
    let ts : List Tail = l.first ∷ l.rest in
    let p = all_honest l.first xs (l.first ∷ l.rest) parts l.opened l.can.alike h in
    let room = room_of l.first (l.first ∷ l.rest) l.can.limits in
    let s : Shape = l.first.schema in
    let there : HasRows l.first.schema (image (concat (bodies xs (l.first ∷ l.rest))) (merged l.first (l.first ∷ l.rest)))
    (placed 3 (all_stripes (l.first ∷ l.rest))) (rows.rows_together parts)
    = record { parts = p.parts; stripes = image_stripes xs l.first l.rest p.parts l.opened p.stripes; rows_are = p.rows_are } in
    let cut : cut_rows (placed 3 (all_stripes (l.first ∷ l.rest))) (rows.rows_together parts) ≡ p.parts = parts_cut _ _ _ _ there in
    let honest : Honest (merged l.first (l.first ∷ l.rest)) (rows.rows_together parts) = subst
    (λ (q : List (List Cell)). AreHonest l.first.schema q (all_stats (l.first ∷ l.rest))) (sym cut) p.honest in
    let whole_parts : AreWhole l.first.schema (all_stats (l.first ∷ l.rest)) p.parts (file_stats l.first.schema (all_stats (l.first ∷ l.rest))) = record {
      counted = length-of_columns (λ d. joined (kind_at l.first.schema d) (column_stats d (all_stats (l.first ∷ l.rest)))) 0 (width l.first.schema);
      each = λ c lt. whole_column l.first.schema (all_stripes (l.first ∷ l.rest)) (bodies xs (l.first ∷ l.rest))
          (all_stats (l.first ∷ l.rest)) p.parts c lt room.stripes p.stripes p.honest;
    } in
    let stats : HasWholeStats (merged l.first (l.first ∷ l.rest)) (rows.rows_together parts)
    = subst (λ (q : List (List Cell)). AreWhole l.first.schema (all_stats (l.first ∷ l.rest)) q (file_stats l.first.schema (all_stats (l.first ∷ l.rest)))) (sym cut) whole_parts in (
      subst (λ (u : Tail). Honest u (rows.rows_together parts)) (sym l.tail_is) honest,
      subst (λ (u : Tail). HasWholeStats u (rows.rows_together parts))
          (sym l.tail_is) stats,
    )

-- ---- where a sum stands

or_true : (b : Bool) → (b || true) ≡ true
or_true true = refl
or_true false = refl

no_sums : (k : StatKind) → ((cs : List Cell) → keeps_sum (stat k cs) ≡ true) → (parts : List (List Cell)) → list_all (λ p. keeps_sum (stat k p)) parts ≡ true
no_sums k all [] = refl
no_sums k all (p ∷ parts) = rw (all p, no_sums k all parts) refl

sum_if : (b : Bool) (x : Body) → has_sum (without_sum x) ≡ false → has_sum (if b then x else without_sum x) ≡ (b && has_sum x)
sum_if true x e = refl
sum_if false x e = e

pub sum_stands : (k : StatKind) (parts : List (List Cell)) → has_sum (whole k parts).body ≡
    (list_all (λ p. keeps_sum (stat k p)) parts && has_sum (stat k (flat_map (λ p. p) parts)).body)
sum_stands kind.Plain parts = rw (no_sums kind.Plain (λ cs. or_true _) parts) refl
sum_stands kind.Ints parts = sum_if (list_all (λ p. keeps_sum (stat kind.Ints p)) parts) (stat kind.Ints (flat_map (λ p. p) parts)).body refl
sum_stands kind.Bools parts = rw (no_sums kind.Bools (λ cs. or_true _) parts) refl
sum_stands kind.Dates parts = rw (no_sums kind.Dates (λ cs. or_true _) parts) refl
sum_stands kind.Texts parts = sum_if (list_all (λ p. keeps_sum (stat kind.Texts p)) parts) (stat kind.Texts (flat_map (λ p. p) parts)).body refl
sum_stands kind.Bins parts = sum_if (list_all (λ p. keeps_sum (stat kind.Bins p)) parts) (stat kind.Bins (flat_map (λ p. p) parts)).body refl
sum_stands kind.Children parts = rw (no_sums kind.Children (λ cs. or_true _) parts) refl

-- ---- where less of children is told

pub has_sum-known : (bs : List Body) (b : Body) → has_sum (known_in bs b) ≡ has_sum b
has_sum-known bs body.Plain = refl
has_sum-known bs (body.Ints l g s) = refl
has_sum-known bs (body.Bools t) = refl
has_sum-known bs (body.Dates l g) = refl
has_sum-known bs (body.Texts l g s) = refl
has_sum-known bs (body.Bins s) = refl
has_sum-known bs (body.Children l g t) = refl

pub sum_known : (k : StatKind) (parts : List Part) → has_sum (known_whole k parts).body ≡ has_sum (whole k (part_cells parts)).body
sum_known k parts = has_sum-known (told_of k parts) (whole k (part_cells parts)).body

-- a body of another kind tells nothing of children, with its sum or without
kept_if : (bs : List Body) (b : Bool) (x : Body) → known_in bs x ≡ x → known_in bs (without_sum x) ≡ without_sum x
    → known_in bs (if b then x else without_sum x) ≡ (if b then x else without_sum x)
kept_if bs true x e f = e
kept_if bs false x e f = f

kept_whole : (k : StatKind) (parts : List Part)
    → known_in (told_of k parts) (stat k (flat_map (λ p. p) (part_cells parts))).body ≡ (stat k (flat_map (λ p. p) (part_cells parts))).body
    → known_in (told_of k parts) (without_sum (stat k (flat_map (λ p. p) (part_cells parts))).body) ≡ without_sum (stat k (flat_map (λ p. p) (part_cells parts))).body
    → known_whole k parts ≡ whole k (part_cells parts)
kept_whole k parts e f =
    ap (λ (x : Body). record (whole k (part_cells parts)) { body = x })
    (kept_if (told_of k parts) (list_all (λ p. keeps_sum (stat k p)) (part_cells parts)) (stat k (flat_map (λ p. p) (part_cells parts))).body e f)

pub known_else : (k : StatKind) (parts : List Part) → (k ≡ kind.Children → ⊥) → known_whole k parts ≡ whole k (part_cells parts)
known_else kind.Plain parts other = kept_whole kind.Plain parts refl refl
known_else kind.Ints parts other = kept_whole kind.Ints parts refl refl
known_else kind.Bools parts other = kept_whole kind.Bools parts refl refl
known_else kind.Dates parts other = kept_whole kind.Dates parts refl refl
known_else kind.Texts parts other = kept_whole kind.Texts parts refl refl
known_else kind.Bins parts other = kept_whole kind.Bins parts refl refl
known_else kind.Children parts other = absurd (other refl)
