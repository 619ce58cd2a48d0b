-- Tests of statistics, and what they say.
use Rattle.std.proofs.Common.{◌≡◌, ℕ, zero, suc, ◌+◌, ◌<◌, ◌^◌, Bool, true, List, [], ◌∷◌, ◌++◌, length, take, drop, Option, Some, None, refl, sym, ap, ◌∙◌, subst, arith}
use Rattle.std.specs.Prelude.{◌&&◌, ◌||◌, ◌==◌, nat_lt, slice_get}
use Rattle.std.specs.List.{All, list_all}
use Rattle.std.proofs.lemmas.Bool.{lt-ltb, and_parts, eq-eqb}
use Rattle.std.proofs.lemmas.List.Folds.{list_all-append}
use Rattle.orc_values.specs.Shapes.{Shape, width, shape_at}
use Rattle.orc_values.specs.Cells.{Cell, values}
use Rattle.orc_values.specs.Columns.{cells}
use Rattle.orc_values.specs.Fits.{RowsFit}
use Rattle.orc_values.proofs.Together.{cells_fit}
use Rattle.orc_stats.specs.declared.kind.StatKind.{StatKind}
use Rattle.orc_stats.specs.declared.kind.StatKind.TheVariants as kind
use Rattle.orc_stats.specs.declared.stat.Stat.{Stat}
use Rattle.orc_stats.specs.declared.stat.Body.{Body}
use Rattle.orc_stats.specs.Kinds.{body_is_of}
use Rattle.orc_stats.specs.Statistics.{stat}
use Rattle.orc_stats.specs.Messages.{unknown, in_limits}
use Rattle.orc_stats.proofs.Normal.{stat-normal}
use Rattle.orc_stats.proofs.Fitting.{are_of_kind}
use Rattle.orc_stripe_writer.specs.WrittenStripe.{AreFew, HaveStats}
use Rattle.orc_stats.specs.ColumnStatistics.{column_stat}
use Rattle.orc_tail.specs.Statistics.{kind_at, column_stats}
use Rattle.orc_file_writer.specs.Counts.{is_unknown, is_column_stat, are_column_stats, are_stripe_stats, are_all_stats}
use Rattle.std.specs.Cmp.Derive.{both_true}
use Rattle.orc_values.proofs.Lists.{values_few}

-- a stripe's statistics more
pub all_stats_more : (s : Shape) (xss : List (List Stat)) (xs : List Stat) → are_all_stats s xss ≡ true → are_stripe_stats s xs ≡ true → are_all_stats s (xss ++ xs ∷ []) ≡ true
all_stats_more s [] xs h e = both_true {s = are_stripe_stats s xs} {t = true} e refl
all_stats_more s (ys ∷ yss) xs h e = let p = and_parts (are_stripe_stats s ys) (are_all_stats s yss) h in both_true {s = are_stripe_stats s ys} p.0 (all_stats_more s yss xs p.1 e)

unknown_is : (k : StatKind) → is_unknown (unknown k) ≡ true
unknown_is kind.Plain = refl
unknown_is kind.Ints = refl
unknown_is kind.Bools = refl
unknown_is kind.Dates = refl
unknown_is kind.Texts = refl
unknown_is kind.Bins = refl
unknown_is kind.Children = refl

counted_or : (k : StatKind) (n : ℕ) (b : Body) → (n ≡ 0 → b ≡ unknown k) → (nat_lt 0 n || is_unknown b) ≡ true
counted_or k zero b h = ap is_unknown (h refl) ∙ unknown_is k
counted_or k (suc n) b h = rw (lt-ltb 0 (suc n) (omega arith)) refl

column_is : (s : Shape) (rows : List Cell) (c : ℕ) → c < width s → RowsFit s rows → AreFew s rows → is_column_stat (kind_at s c) (column_stat s rows c) ≡ true
column_is s rows c l fit few =
    let cs = cells s c rows in
    let k = kind_at s c in
    let f = few c l in
    let is = stat-normal k cs (are_of_kind (shape_at s c) cs (cells_fit s c rows l fit)) (omega (arith, f)) in
    let v = values_few cs in
    both_true {s = body_is_of k (stat k cs).body} is.kind (both_true {s = in_limits (stat k cs)} is.limits (both_true {s = nat_lt (length (values cs)) (2 ^ 31)} (lt-ltb (length (values cs)) (2 ^ 31) (omega (arith, v, f))) (counted_or k (length (values cs)) (stat k cs).body is.empty)))

abbrev pub some_or : Stat → Option Stat → Stat
some_or x None = x
some_or x (Some y) = y

columns_are : (s : Shape) (rows : List Cell) (c : ℕ) (xs : List Stat) → RowsFit s rows → AreFew s rows → c + length xs ≡ width s
    → ((i : ℕ) → i < length xs → slice_get xs i ≡ Some (column_stat s rows (c + i))) → are_column_stats s c xs ≡ true
columns_are s rows c [] fit few w h = refl
columns_are s rows c (x ∷ xs) fit few w h =
    let z : c + 0 ≡ c = omega arith in
    let e : x ≡ column_stat s rows c = ap (some_or x) (h 0 (omega arith)) ∙ ap (column_stat s rows) z in
    both_true {s = is_column_stat (kind_at s c) x} (ap (is_column_stat (kind_at s c)) e ∙ column_is s rows c (omega (arith, w)) fit few) (columns_are s rows (c + 1) xs fit few (omega (arith, w)) (λ i l. let n : c + suc i ≡ (c + 1) + i = omega arith in h (suc i) (omega (arith, l)) ∙ ap (λ k. Some (column_stat s rows k)) n))

-- a stripe's statistics pass the test
pub stripe_stats_are : (s : Shape) (rows : List Cell) (xs : List Stat) → RowsFit s rows → AreFew s rows → HaveStats s rows (width s) xs → are_stripe_stats s xs ≡ true
stripe_stats_are s rows xs fit few h =
    let w = h.counted in
    both_true {s = length xs == width s} (eq-eqb (length xs) (width s) w) (columns_are s rows 0 xs fit few (omega (arith, w)) (λ i l. let z : 0 + i ≡ i = omega arith in h.each i (omega (arith, l, w)) ∙ ap (λ k. Some (column_stat s rows k)) (sym z)))

-- ---- a column's statistics in all stripes

one_kind : (s : Shape) (from c : ℕ) (xs : List Stat) → are_column_stats s from xs ≡ true → list_all (λ (x : Stat). body_is_of (kind_at s (from + c)) x.body) (take 1 (drop c xs)) ≡ true
one_kind s from zero [] h = refl
one_kind s from (suc c) [] h = refl
one_kind s from zero (x ∷ xs) h =
    let z : from + 0 ≡ from = omega arith in
    let p = and_parts (is_column_stat (kind_at s from) x) (are_column_stats s (from + 1) xs) h in
    let q = and_parts (body_is_of (kind_at s from) x.body) (in_limits x && (nat_lt x.count (2 ^ 31) && (nat_lt 0 x.count || is_unknown x.body))) p.0 in
    both_true {s = body_is_of (kind_at s (from + 0)) x.body} {t = true} (ap (λ k. body_is_of (kind_at s k) x.body) z ∙ q.0) refl
one_kind s from (suc c) (x ∷ xs) h =
    let n : (from + 1) + c ≡ from + suc c = omega arith in
    let p = and_parts (is_column_stat (kind_at s from) x) (are_column_stats s (from + 1) xs) h in
    subst (λ k. list_all (λ (y : Stat). body_is_of (kind_at s k) y.body) (take 1 (drop c xs)) ≡ true) n (one_kind s (from + 1) c xs p.1)

column_kinds : (s : Shape) (c : ℕ) (xss : List (List Stat)) → are_all_stats s xss ≡ true → list_all (λ (x : Stat). body_is_of (kind_at s c) x.body) (column_stats c xss) ≡ true
column_kinds s c [] h = refl
column_kinds s c (xs ∷ xss) h =
    let p = and_parts (are_stripe_stats s xs) (are_all_stats s xss) h in
    let q = and_parts (length xs == width s) (are_column_stats s 0 xs) p.0 in
    let z : 0 + c ≡ c = omega arith in
    let one = subst (λ k. list_all (λ (y : Stat). body_is_of (kind_at s k) y.body) (take 1 (drop c xs)) ≡ true) z (one_kind s 0 c xs q.1) in
    list_all-append (λ (x : Stat). body_is_of (kind_at s c) x.body) (take 1 (drop c xs)) (column_stats c xss)
    ∙ both_true {s = list_all (λ (x : Stat). body_is_of (kind_at s c) x.body) (take 1 (drop c xs))} one (column_kinds s c xss p.1)

pub all_of : (p : Stat → Bool) (xs : List Stat) → list_all p xs ≡ true → All (λ x. p x ≡ true) xs
all_of p [] h k d l = absurd (omega (arith, l))
all_of p (x ∷ xs) h zero d l = (and_parts (p x) (list_all p xs) h).0
all_of p (x ∷ xs) h (suc k) d l = all_of p xs (and_parts (p x) (list_all p xs) h).1 k d (omega (arith, l))

-- each is of the column's kind
pub column_all : (s : Shape) (c : ℕ) (xss : List (List Stat)) → are_all_stats s xss ≡ true → All (λ (x : Stat). body_is_of (kind_at s c) x.body ≡ true) (column_stats c xss)
column_all s c xss h = all_of (λ (x : Stat). body_is_of (kind_at s c) x.body) (column_stats c xss) (column_kinds s c xss h)
