-- Statistics of stripes and of the whole file, in a file without findings: they admit the cells, and lack nothing.
use Rattle.std.proofs.Common.{◌≡◌, refl, sym, ap, ◌∙◌, arith, ℕ, zero, suc, ◌<◌, Option, Some, None, List, [], ◌∷◌, length, map, get_or, slice_get, subst, Bool, true, false, flat_map}
use Rattle.std.specs.Prelude.{IfSome}
use Rattle.std.specs.List.{AllByRecursion, list_all}
use Rattle.std.proofs.lemmas.List.Concat.{flat_map-cons}
use Rattle.orc_wire.specs.declared.stripe_info.StripeInfo.{StripeInfo}
use Rattle.orc_values.specs.Cells.{Cell}
use Rattle.orc_values.specs.Columns.{cells}
use Rattle.orc_values.specs.Fits.{fits, RowsFit}
use Rattle.orc_values.specs.Shapes.{Shape, width, shape_at}
use Rattle.orc_values.proofs.Together.{cells_fit}
use Rattle.orc_values.proofs.Lists.{all_append}
use Rattle.orc_stats.specs.declared.kind.StatKind.{StatKind}
use Rattle.orc_stats.specs.declared.stat.Stat.{Stat}
use Rattle.orc_stats.specs.Kinds.{kind_of}
use Rattle.orc_stats.specs.Statistics.{stat}
use Rattle.orc_stats.specs.Whole.{keeps_sum, whole}
use Rattle.orc_stats.specs.Known.{Part, part_cells, told_of, known_whole}
use Rattle.orc_stats.specs.ColumnStatistics.{column_stat}
use Rattle.orc_stats.proofs.Fitting.{are_of_kind}
use Rattle.orc_stats.proofs.KnownParts.{part_cells-parts_of}
use Rattle.orc_skipping.specs.Rules.{taken_boldly}
use Rattle.orc_skipping.specs.Right.{Admits, AreRight, LackNothing}
use Rattle.orc_skipping.proofs.Alike.{IsAlike, agrees_alike, less_known_alike, less_sum_alike, alike_then, itself_alike}
use Rattle.orc_skipping.proofs.OwnCells.{alike_admits, alike_full}
use Rattle.orc_tail.specs.Statistics.{kind_at}
use Rattle.orc_tail.specs.declared.tail.Tail.{Tail}
use Rattle.orc_tail.proofs.Opened.{tail_within}
use Rattle.orc_file_reader.specs.FileRows.{cut_rows, rows_together, AreOfStripes, FileIs}
use Rattle.orc_file_reader.specs.Honest.{AgreeStats, AreHonest, Honest, told_at, column_parts, known_whole_of}
use Rattle.orc_file_reader.proofs.HonestLemmas.{all_cells}
use Rattle.orc_file_reader.proofs.RowLemmas.{rows_cut, cut_whole}
use Rattle.orc_check.specs.Agreeing.{Tells}
use Rattle.orc_check.specs.Findings.{TellsWhole, stripe_told, rows_at}
use Rattle.orc_check.proofs.NoFinding.{cut_many, stripe_is}

-- ---- one column

-- a column's statistic admits the column's cells, and lacks nothing
abbrev pub IsReady : Shape → List Cell → ℕ → Stat → Type 0
IsReady s rows c x = AllByRecursion (Admits x) (cells s c rows) × (taken_boldly x ≡ x)

pub ready : (s : Shape) (rows : List Cell) (c : ℕ) (x : Stat) → c < width s → RowsFit s rows → IsAlike x (column_stat s rows c) → IsReady s rows c x
ready s rows c x lt fit e =
    let k = kind_of (shape_at s c) in
    let cs = cells s c rows in
    (alike_admits k cs x e, alike_full k cs x (are_of_kind (shape_at s c) cs (cells_fit s c rows lt fit)) e)

pub if_so : {X : Type 0} (o : Option X) (P Q : X → Type 0) → IfSome o P → ((x : X) → P x → Q x) → IfSome o Q
if_so None P Q h f = tt
if_so (Some x) P Q h f = f x h

-- statistics of columns, if each of them is ready
pub all_ready : (s : Shape) (rows : List Cell) (told : ℕ → Option Stat) → ((c : ℕ) → IfSome (told c) (IsReady s rows c)) → AreRight s rows told × LackNothing told
all_ready s rows told each = (
  λ c. if_so (told c) (IsReady s rows c) (λ x. AllByRecursion (Admits x) (cells s c rows)) (each c) (λ x h. h.0),
  λ c. if_so (told c) (IsReady s rows c) (λ x. taken_boldly x ≡ x) (each c) (λ x h. h.1),
)

slice_below : (xs : List Stat) (c : ℕ) (x : Stat) → slice_get xs c ≡ Some x → c < length xs
slice_below [] c x e = cc
slice_below (y ∷ xs) zero x e = omega arith
slice_below (y ∷ xs) (suc c) x e = let h = slice_below xs c x e in omega (arith, h)

inside : (x y : Stat) → Some x ≡ Some y → x ≡ y
inside x y e = cc

pub told_alike : (told : Option Stat) (x y : Stat) → told ≡ Some x → Tells told y → IsAlike x y
told_alike None x y e h = absurd h
told_alike (Some z) x y e h = agrees_alike x y (subst (λ (o : Option Stat). Tells o y) e h)

-- ---- a stripe

pub honest_at : (s : Shape) (parts : List (List Cell)) (stats : List (List Stat)) → AreHonest s parts stats → (n : ℕ) → n < length parts → AgreeStats s (rows_at parts n) (width s) (get_or stats n [])
honest_at s [] stats h n lt = absurd (omega (arith, lt))
honest_at s (p ∷ parts) [] h n lt = absurd h
honest_at s (p ∷ parts) (y ∷ stats) h zero lt = h.0
honest_at s (p ∷ parts) (y ∷ stats) h (suc n) lt = honest_at s parts stats h.1 n (omega (arith, lt))

pub stripe_ready : (bytes : List ℕ) (tail : Tail) (rows : List Cell) → FileIs bytes tail rows → Honest tail rows → (n : ℕ) → n < length tail.stripes
    → (c : ℕ) (x : Stat) → slice_get (stripe_told tail n) c ≡ Some x → IsReady tail.schema (rows_at (cut_rows tail.stripes rows) n) c x
stripe_ready bytes tail rows is honest n lt c x told =
    let s = tail.schema in
    let here : List Cell = rows_at (cut_rows tail.stripes rows) n in
    let own = honest_at s (cut_rows tail.stripes rows) tail.stripe_stats honest n (omega (arith, lt, cut_many tail.stripes rows)) in
    let there : c < width s = omega (arith, slice_below (stripe_told tail n) c x told, own.counted) in
    let h = own.each c there in
    ready s here c x there (stripe_is bytes tail rows is n lt).spelled.fit
    (subst (λ (y : Stat). IsAlike y (column_stat s here c)) (inside h.0 x (sym h.1 ∙ told)) (agrees_alike h.0 (column_stat s here c) h.2))

-- ---- the file

parts_fit : (s : Shape) (bytes : List ℕ) (infos : List StripeInfo) (parts : List (List Cell)) → AreOfStripes s bytes infos parts → RowsFit s (rows_together parts)
parts_fit s bytes [] [] h = tt
parts_fit s bytes [] (p ∷ parts) h = absurd h
parts_fit s bytes (i ∷ is) [] h = absurd h
parts_fit s bytes (i ∷ is) (p ∷ parts) h =
    subst (RowsFit s) (sym (flat_map-cons (λ (r : List Cell). r) p parts))
    (all_append (λ c. fits c s ≡ true) p (rows_together parts) h.0.spelled.fit (parts_fit s bytes is parts h.1))

rows_fit : (bytes : List ℕ) (tail : Tail) (rows : List Cell) → FileIs bytes tail rows → RowsFit tail.schema rows
rows_fit bytes tail rows is =
    subst (RowsFit tail.schema) (cut_whole tail.stripes bytes tail.schema rows is.has_rows)
    (parts_fit tail.schema bytes tail.stripes (cut_rows tail.stripes rows) (rows_cut bytes tail rows is))

whole_alike : (k : StatKind) (parts : List (List Cell)) → IsAlike (whole k parts) (stat k (flat_map (λ p. p) parts))
whole_alike k parts = by (list_all (λ p. keeps_sum (stat k p)) parts) refl
  where
    by : (b : Bool) → list_all (λ p. keeps_sum (stat k p)) parts ≡ b → IsAlike (whole k parts) (stat k (flat_map (λ p. p) parts))
    by true e = rw e (itself_alike (stat k (flat_map (λ p. p) parts)))
    by false e = rw e (less_sum_alike (stat k (flat_map (λ p. p) parts)))

known_whole_alike : (k : StatKind) (parts : List Part) → IsAlike (known_whole k parts) (stat k (flat_map (λ p. p) (part_cells parts)))
known_whole_alike k parts =
    alike_then (known_whole k parts) (whole k (part_cells parts)) (stat k (flat_map (λ p. p) (part_cells parts)))
    (less_known_alike (told_of k parts) (whole k (part_cells parts))) (whole_alike k (part_cells parts))

file_alike : (bytes : List ℕ) (tail : Tail) (rows : List Cell) → FileIs bytes tail rows → (c : ℕ)
    → IsAlike (known_whole_of tail.schema tail.stripe_stats (cut_rows tail.stripes rows) c) (column_stat tail.schema rows c)
file_alike bytes tail rows is c =
    let s = tail.schema in
    let parts : List (List Cell) = cut_rows tail.stripes rows in
    let told : List Part = column_parts s tail.stripe_stats parts c in
    let all : flat_map (λ p. p) (part_cells told) ≡ cells s c rows =
    ap (λ (cs : List (List Cell)). flat_map (λ p. p) cs) (part_cells-parts_of (told_at tail.stripe_stats c) (map (cells s c) parts))
    ∙ all_cells s c parts ∙ ap (cells s c) (cut_whole tail.stripes bytes s rows is.has_rows) in
    subst (λ (cs : List Cell). IsAlike (known_whole_of s tail.stripe_stats parts c) (stat (kind_at s c) cs)) all
    (known_whole_alike (kind_at s c) told)

pub file_ready : (bytes : List ℕ) (tail : Tail) (rows : List Cell) → FileIs bytes tail rows → TellsWhole tail rows
    → (c : ℕ) (x : Stat) → slice_get tail.file_stats c ≡ Some x → IsReady tail.schema rows c x
file_ready bytes tail rows is whole c x told =
    let few = (tail_within bytes tail is.tail_is).file_stats.few in
    let there : c < width tail.schema = omega (arith, slice_below tail.file_stats c x told, few) in
    let right = known_whole_of tail.schema tail.stripe_stats (cut_rows tail.stripes rows) c in
    ready tail.schema rows c x there (rows_fit bytes tail rows is)
    (alike_then x right (column_stat tail.schema rows c) (told_alike (slice_get tail.file_stats c) x right told (whole c there)) (file_alike bytes tail rows is c))
