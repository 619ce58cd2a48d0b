-- A tail that was read is within the limits, and its numbers have their bits.
use Rattle.std.specs.Prelude.{◌≡◌, ℕ, ◌+◌, ◌≤◌, nat_le, Bool, true, false, ◌==◌, if◌then◌else◌, List, [], ◌∷◌, length, Option, Some, None, refl}
use Rattle.std.proofs.Common.{sym, subst, arith, eq-eqb}
use Rattle.std.specs.List.{AllByRecursion, list_all}
use Rattle.std.proofs.lemmas.Bool.{and_parts}
use Rattle.std.proofs.lemmas.List.{length-map}
use Rattle.orc_wire.specs.declared.column_stats.ColumnStats.{ColumnStats}
use Rattle.orc_wire.specs.declared.column_stats.StripeStatistics.{StripeStatistics}
use Rattle.orc_wire.specs.declared.column_stats.Metadata.{Metadata}
use Rattle.orc_wire.specs.declared.footer.Footer.{Footer}
use Rattle.orc_wire.specs.declared.post_script.PostScript.{PostScript}
use Rattle.orc_wire.specs.declared.stripe_info.StripeInfo.{StripeInfo}
use Rattle.orc_wire.specs.CanonicalKinds.{AreKept}
use Rattle.orc_values.specs.Shapes.{Shape, width}
use Rattle.orc_types.specs.Schemas.{IsSchema}
use Rattle.orc_stats.specs.declared.kind.StatKind.{StatKind}
use Rattle.orc_stats.specs.declared.kind.StatKind.TheVariants as kind
use Rattle.orc_stats.specs.declared.stat.Stat.{Stat}
use Rattle.orc_stats.specs.declared.stat.Body.{Body}
use Rattle.orc_stats.specs.Kinds.{body_is_of}
use Rattle.orc_stats.specs.Messages.{unknown, body_read, ints_body, dates_body, texts_body, bins_body, bools_body, children_body, stat_read, in_limits, IsStat}
use Rattle.orc_tail.specs.Layout.{footer_bytes, metadata_bytes, metadata_place}
use Rattle.orc_tail.specs.Stripes.{stripe_tests, stripe_end, most_stripe_rows, AllBefore}
use Rattle.orc_tail.specs.Statistics.{kind_at, stats_read, stripe_stats_read, have_few, AreOfColumns, AreStats}
use Rattle.orc_tail.specs.Tails.{footer_tests, metadata_tests, limit_tests, tail_of, most_versions, IsTail}
use Rattle.orc_tail.specs.Images.{IsWithinLimits}
use Rattle.orc_tail.specs.declared.tail.Tail.{Tail}
use Rattle.orc_tail.proofs.Columns.{le_is}
use Rattle.orc_tail.proofs.StripeLemmas.{all_before}
use Rattle.orc_tail.proofs.TailLemmas.{footer_few, metadata_few}

unknown_is : (k : StatKind) → body_is_of k (unknown k) ≡ true
unknown_is kind.Plain = refl
unknown_is kind.Ints = refl
unknown_is kind.Bools = refl
unknown_is kind.Dates = refl
unknown_is kind.Texts = refl
unknown_is kind.Bins = refl
unknown_is kind.Children = refl

by_option : {X : Type 0} (k : StatKind) (f : Option X → Body) → body_is_of k (f None) ≡ true → ((x : X) → body_is_of k (f (Some x)) ≡ true) → (o : Option X) → body_is_of k (f o) ≡ true
by_option k f none some None = none
by_option k f none some (Some x) = some x

read_is : (k : StatKind) (m : ColumnStats) → body_is_of k (body_read k m) ≡ true
read_is kind.Plain m = refl
read_is kind.Ints m = by_option kind.Ints ints_body refl (λ r. refl) m.int_statistics
read_is kind.Bools m = by_option kind.Bools bools_body refl (λ r. refl) m.bucket_statistics
read_is kind.Dates m = by_option kind.Dates dates_body refl (λ r. refl) m.date_statistics
read_is kind.Texts m = by_option kind.Texts texts_body refl (λ r. refl) m.string_statistics
read_is kind.Bins m = by_option kind.Bins bins_body refl (λ r. refl) m.binary_statistics
read_is kind.Children m = by_option kind.Children children_body refl (λ r. refl) m.collection_statistics

either_is : (k : StatKind) (b : Bool) (x y : Body) → body_is_of k x ≡ true → body_is_of k y ≡ true → body_is_of k (if b then x else y) ≡ true
either_is k true x y p q = p
either_is k false x y p q = q

if_true : (b : Bool) (x y : Body) → b ≡ true → (if b then x else y) ≡ x
if_true true x y e = refl
if_true false x y e = cc

stat_is : (k : StatKind) (m : ColumnStats) → in_limits (stat_read k m) ≡ true → IsStat k (stat_read k m)
stat_is k m limits = record {
  kind = either_is k (m.number_of_values == 0) (unknown k) (body_read k m) (unknown_is k) (read_is k m);
  limits = limits;
  empty = λ e. if_true (m.number_of_values == 0) (unknown k) (body_read k m) (eq-eqb m.number_of_values 0 e);
}

stats_are : (s : Shape) (column : ℕ) (ms : List ColumnStats) → list_all in_limits (stats_read s column ms) ≡ true → AreOfColumns s column (stats_read s column ms)
stats_are s column [] h = tt
stats_are s column (m ∷ ms) h =
    let p = and_parts (in_limits (stat_read (kind_at s column) m)) (list_all in_limits (stats_read s (column + 1) ms)) h in
    (stat_is (kind_at s column) m p.0, stats_are s (column + 1) ms p.1)

length-stats : (s : Shape) (column : ℕ) (ms : List ColumnStats) → length (stats_read s column ms) ≡ length ms
length-stats s column [] = refl
length-stats s column (m ∷ ms) = omega (arith, length-stats s (column + 1) ms)

pub are_stats : (s : Shape) (ms : List ColumnStats) → length ms ≤ width s → list_all in_limits (stats_read s 0 ms) ≡ true → AreStats s (stats_read s 0 ms)
are_stats s ms few h = record { few = omega (arith, few, length-stats s 0 ms); kinds = stats_are s 0 ms h }

all_stats : (s : Shape) (ms : List StripeStatistics) → have_few (width s) ms ≡ true → list_all (list_all in_limits) (stripe_stats_read s ms) ≡ true
    → AllByRecursion (AreStats s) (stripe_stats_read s ms)
all_stats s [] few h = tt
all_stats s (m ∷ ms) few h =
    let f = and_parts (nat_le (length m.col_stats) (width s)) (have_few (width s) ms) few in
    let p = and_parts (list_all in_limits (stats_read s 0 m.col_stats)) (list_all (list_all in_limits) (stripe_stats_read s ms)) h in
    (are_stats s m.col_stats (le_is (length m.col_stats) (width s) f.0) p.0, all_stats s ms f.1 p.1)

stripe_rows : (n from before : ℕ) (ss : List StripeInfo) → (stripe_tests n from before ss).finds tt → AllByRecursion (λ s. s.number_of_rows ≤ most_stripe_rows) ss
stripe_rows n from before [] h = tt
stripe_rows n from before (s ∷ ss) h = (h.1.0, stripe_rows (n + 1) (stripe_end s) before ss h.1.1)

-- what passes the tests of footer, metadata and limits
module _ (footer_text metadata_text : List ℕ) (before : ℕ) (postscript : PostScript) (version : length postscript.version ≤ most_versions) where
  within : (f : Footer) (s : Shape) (m : Metadata) (stats : List Stat × List (List Stat)) → (footer_tests footer_text).finds (f, s) → length f.statistics ≤ width s
      → length m.stripe_stats ≤ length f.stripes → have_few (width s) m.stripe_stats ≡ true → (limit_tests before f s m).finds stats
      → IsWithinLimits (tail_of postscript f s (stats_read s 0 f.statistics, stripe_stats_read s m.stripe_stats))
  within f s m stats foot few count stripe_few h =
      let is = foot.2.1 in
      record {
        version = version;
        schema = subst (λ (p : Footer × Shape). IsSchema p.1) (sym is.2.1) is.1.schema;
        file_stats = are_stats s f.statistics few h.0;
        stripe_stats = all_stats s m.stripe_stats stripe_few h.1.0;
        stats_of_stripes = omega (arith, count, length-map m.stripe_stats (λ (x : StripeStatistics). stats_read s 0 x.col_stats));
        stripes = h.1.1.0;
        stripe_rows = stripe_rows 0 3 before f.stripes h.1.1.1.1;
        rows_are = h.1.1.1.2.0;
        rows = h.1.1.1.2.1.0;
        bytes = h.1.1.1.2.1.1.0;
        other = subst (λ (p : Footer × Shape). AreKept 11 p.0.kept) (sym is.2.1) foot.2.0;
      }

  pub read_within : (f : Footer) (s : Shape) (m : Metadata) (stats : List Stat × List (List Stat)) → (footer_tests footer_text).finds (f, s) → (metadata_tests metadata_text f s).finds m
      → (limit_tests before f s m).finds stats → IsWithinLimits (tail_of postscript f s stats)
  read_within f s m stats foot meta h =
      let count = subst (λ (n : Metadata). length n.stripe_stats ≤ length f.stripes) (sym meta.2.1.1) meta.2.0 in
      subst (λ (p : List Stat × List (List Stat)). IsWithinLimits (tail_of postscript f s p)) (sym h.1.1.1.2.1.1.1)
      (within f s m stats foot (footer_few footer_text f s foot) count (metadata_few metadata_text f s m meta) h)

-- ---- of bytes that pass all tests

pub tail_within : (bytes : List ℕ) (tail : Tail) → IsTail bytes tail → IsWithinLimits tail
tail_within bytes tail h =
    let postscript = h.0 in let f = h.2.0 in let m = h.2.2.0 in let last = h.2.2.2 in
    let found = h.1.1.1.1 in
    let version : length postscript.version ≤ most_versions = subst (λ (p : PostScript). length p.version ≤ most_versions) (sym found.2.1.1.1.1) found.2.0 in
    subst IsWithinLimits (sym last.2)
    (read_within (footer_bytes bytes postscript) (metadata_bytes bytes postscript) (metadata_place bytes postscript) postscript version f.0 f.1 m last.0 h.2.1 h.2.2.1 last.1)

-- the stripes end within the bytes
pub tail_before : (bytes : List ℕ) (tail : Tail) → IsTail bytes tail → AllBefore (length bytes) tail.stripes
tail_before bytes tail h =
    let postscript = h.0 in let f = h.2.0 in let last = h.2.2.2 in
    subst (λ (t : Tail). AllBefore (length bytes) t.stripes) (sym last.2)
    (all_before 0 3 (metadata_place bytes postscript) (length bytes) f.0.stripes (omega arith) last.1.1.1.1.1)
