-- The tail that a writer makes is within the limits.
use Rattle.std.proofs.Common.{◌≡◌, ℕ, zero, suc, ◌+◌, ◌*◌, ◌<◌, ◌≤◌, ◌^◌, Bool, true, List, [], ◌∷◌, length, take, drop, sum_by, Option, Some, None, refl, ap, subst, arith}
use Rattle.std.specs.Prelude.{◌&&◌, ◌||◌, ◌==◌, nat_lt}
use Rattle.std.specs.List.{AllByRecursion}
use Rattle.std.specs.Option.{is_none}
use Rattle.std.proofs.lemmas.Bool.{ltb-true, and_parts, eqb-true}
use Rattle.std.proofs.lemmas.List.Sums.{sum_by-append, sum_by-cons}
use Rattle.orc_row_batch.specs.declared.options.Options.{Options}
use Rattle.orc_rle.specs.declared.sign.Rle.{Rle}
use Rattle.orc_rle.specs.declared.sign.Rle.TheVariants.{One, Two}
use Rattle.orc_wire.specs.declared.stripe_info.StripeInfo.{StripeInfo}
use Rattle.orc_values.specs.Shapes.{Shape, width}
use Rattle.orc_types.specs.Schemas.{IsSchema}
use Rattle.orc_stats.specs.declared.kind.StatKind.{StatKind}
use Rattle.orc_stats.specs.declared.kind.StatKind.TheVariants as kind
use Rattle.orc_stats.specs.declared.stat.Stat.{Stat}
use Rattle.orc_stats.specs.declared.stat.Body.{Body}
use Rattle.orc_stats.specs.declared.stat.Body.TheVariants as body
use Rattle.orc_stats.specs.Kinds.{body_is_of}
use Rattle.orc_stats.specs.Joining.{joined}
use Rattle.orc_stats.specs.Messages.{unknown, in_limits, IsStat}
use Rattle.orc_stats.proofs.Normal.{joined-normal}
use Rattle.orc_tail.specs.Stripes.{most_stripes}
use Rattle.orc_tail.specs.Statistics.{kind_at, AreOfColumns, AreStats, of_columns, column_stats, file_stats}
use Rattle.orc_tail.specs.Images.{IsWithinLimits}
use Rattle.orc_tail.specs.Tails.{most_versions}
use Rattle.orc_file_writer.specs.Counts.{is_unknown, is_column_stat, are_column_stats, are_stripe_stats, are_all_stats, are_laid_with_few_rows}
use Rattle.orc_file_writer.specs.Writing.{version_of, written_tail, AreWithinFile}
use Rattle.orc_file_writer.proofs.WriterLemmas.{laid_rows}
use Rattle.orc_tail.proofs.OfColumns.{length-of_columns}

-- ---- a statistic that passes the test is one of its kind

none_is : {A : Type 0} (o : Option A) → is_none o ≡ true → o ≡ None
none_is None e = refl
none_is (Some x) e = cc

unknown_body : (k : StatKind) (b : Body) → body_is_of k b ≡ true → is_unknown b ≡ true → b ≡ unknown k
unknown_body kind.Plain body.Plain p q = refl
unknown_body kind.Plain _ p q = cc
unknown_body kind.Ints (body.Ints l g t) p q =
    let a = and_parts (is_none l) (is_none g && is_none t) q in let b = and_parts (is_none g) (is_none t) a.1 in
    rw (none_is l a.0, none_is g b.0, none_is t b.1) refl
unknown_body kind.Ints _ p q = cc
unknown_body kind.Bools (body.Bools t) p q = ap body.Bools (none_is t q)
unknown_body kind.Bools _ p q = cc
unknown_body kind.Dates (body.Dates l g) p q = let a = and_parts (is_none l) (is_none g) q in rw (none_is l a.0, none_is g a.1) refl
unknown_body kind.Dates _ p q = cc
unknown_body kind.Texts (body.Texts l g t) p q =
    let a = and_parts (is_none l) (is_none g && is_none t) q in let b = and_parts (is_none g) (is_none t) a.1 in
    rw (none_is l a.0, none_is g b.0, none_is t b.1) refl
unknown_body kind.Texts _ p q = cc
unknown_body kind.Bins (body.Bins t) p q = ap body.Bins (none_is t q)
unknown_body kind.Bins _ p q = cc
unknown_body kind.Children (body.Children l g t) p q =
    let a = and_parts (is_none l) (is_none g && is_none t) q in let b = and_parts (is_none g) (is_none t) a.1 in
    rw (none_is l a.0, none_is g b.0, none_is t b.1) refl
unknown_body kind.Children _ p q = cc

or_other : (n : ℕ) (b : Bool) → n ≡ 0 → (nat_lt 0 n || b) ≡ true → b ≡ true
or_other zero b e h = h
or_other (suc n) b e h = absurd (omega (arith, e))

stat_is : (k : StatKind) (x : Stat) → is_column_stat k x ≡ true → IsStat k x × (x.count < 2 ^ 31)
stat_is k x h =
    let more = nat_lt 0 x.count || is_unknown x.body in
    let a = and_parts (body_is_of k x.body) (in_limits x && (nat_lt x.count (2 ^ 31) && more)) h in
    let b = and_parts (in_limits x) (nat_lt x.count (2 ^ 31) && more) a.1 in
    let c = and_parts (nat_lt x.count (2 ^ 31)) more b.1 in (
      record { kind = a.0; limits = b.0; empty = λ e. unknown_body k x.body a.0 (or_other x.count (is_unknown x.body) e c.1) },
      ltb-true x.count (2 ^ 31) c.0,
    )

columns_are_of : (s : Shape) (c : ℕ) (xs : List Stat) → are_column_stats s c xs ≡ true → AreOfColumns s c xs
columns_are_of s c [] h = tt
columns_are_of s c (x ∷ xs) h =
    let p = and_parts (is_column_stat (kind_at s c) x) (are_column_stats s (c + 1) xs) h in
    let is = stat_is (kind_at s c) x p.0 in
    (is.0, columns_are_of s (c + 1) xs p.1)

stripes_are_of : (s : Shape) (xss : List (List Stat)) → are_all_stats s xss ≡ true → AllByRecursion (AreStats s) xss
stripes_are_of s [] h = tt
stripes_are_of s (xs ∷ xss) h =
    let p = and_parts (are_stripe_stats s xs) (are_all_stats s xss) h in
    let q = and_parts (length xs == width s) (are_column_stats s 0 xs) p.0 in
    let e = eqb-true (length xs) (width s) q.0 in
    (record { few = omega (arith, e); kinds = columns_are_of s 0 xs q.1 }, stripes_are_of s xss p.1)

-- ---- a column's counts in all stripes

one_few : (s : Shape) (from c : ℕ) (xs : List Stat) → are_column_stats s from xs ≡ true → sum_by (λ (x : Stat). x.count) (take 1 (drop c xs)) ≤ 2 ^ 31
one_few s from zero [] h = omega arith
one_few s from (suc c) [] h = omega arith
one_few s from zero (x ∷ xs) h =
    let p = and_parts (is_column_stat (kind_at s from) x) (are_column_stats s (from + 1) xs) h in
    let is = stat_is (kind_at s from) x p.0 in
    let few = is.1 in
    let e = sum_by-cons (λ (y : Stat). y.count) x [] in
    omega (arith, few, e)
one_few s from (suc c) (x ∷ xs) h =
    let p = and_parts (is_column_stat (kind_at s from) x) (are_column_stats s (from + 1) xs) h in
    one_few s (from + 1) c xs p.1

counts_few : (s : Shape) (c : ℕ) (xss : List (List Stat)) → are_all_stats s xss ≡ true → sum_by (λ (x : Stat). x.count) (column_stats c xss) ≤ 2 ^ 31 * length xss
counts_few s c [] h = omega arith
counts_few s c (xs ∷ xss) h =
    let p = and_parts (are_stripe_stats s xs) (are_all_stats s xss) h in
    let q = and_parts (length xs == width s) (are_column_stats s 0 xs) p.0 in
    let one = one_few s 0 c xs q.1 in
    let rest = counts_few s c xss p.1 in
    let e = sum_by-append (λ (x : Stat). x.count) (take 1 (drop c xs)) (column_stats c xss) in
    omega (arith, one, rest, e)

-- ---- the file's statistics

joined_are_of : (s : Shape) (xss : List (List Stat)) (c n : ℕ) → are_all_stats s xss ≡ true → length xss ≤ most_stripes
    → AreOfColumns s c (of_columns (λ k. joined (kind_at s k) (column_stats k xss)) c n)
joined_are_of s xss c zero h few = tt
joined_are_of s xss c (suc n) h few =
    let counts = counts_few s c xss h in
    let next : suc c ≡ c + 1 = omega arith in (
      joined-normal (kind_at s c) (column_stats c xss) (omega (arith, counts, few)),
      subst (λ m. AreOfColumns s m (of_columns (λ k. joined (kind_at s k) (column_stats k xss)) (suc c) n)) next (joined_are_of s xss (suc c) n h few),
    )

file_stats_are : (s : Shape) (xss : List (List Stat)) → are_all_stats s xss ≡ true → length xss ≤ most_stripes → AreStats s (file_stats s xss)
file_stats_are s xss h few =
    let e = length-of_columns (λ k. joined (kind_at s k) (column_stats k xss)) 0 (width s) in
    record { few = omega (arith, e); kinds = joined_are_of s xss 0 (width s) h few }

-- ---- the tail

short_version : (rle : Rle) → length (version_of rle) ≤ most_versions
short_version One = omega arith
short_version Two = omega arith

pub tail_within : (options : Options) (s : Shape) (infos : List StripeInfo) (stats : List (List Stat)) → IsSchema s → AreWithinFile infos → are_laid_with_few_rows 3 infos ≡ true
    → length stats ≡ length infos → are_all_stats s stats ≡ true → IsWithinLimits (written_tail options s infos stats)
tail_within options s infos stats schema within laid same are =
    let stripes = within.stripes in
    record {
      version = short_version options.rle;
      schema = schema;
      file_stats = file_stats_are s stats are (omega (arith, same, stripes));
      stripe_stats = stripes_are_of s stats are;
      stats_of_stripes = omega (arith, same);
      stripes = stripes;
      stripe_rows = laid_rows 3 infos laid;
      rows_are = refl;
      rows = within.rows;
      bytes = within.bytes;
      other = record { fields = []; are = refl; from = tt };
    }
