-- What a merged tail has of limits: those that all inputs share, and those that they can pass together.
use Rattle.std.proofs.Common.{◌≡◌, ℕ, zero, suc, ◌+◌, ◌≤◌, ◌^◌, nat_le, List, [], ◌∷◌, length, refl}
use Rattle.std.proofs.Common.{sym, ap, ◌∙◌, subst, arith, length-append}
use Rattle.std.specs.Prelude.{sum_by}
use Rattle.std.specs.List.{AllByRecursion}
use Rattle.std.proofs.lemmas.Bool.{and_parts}
use Rattle.std.proofs.lemmas.Bool.Decides.{nat_tests}
use Rattle.std.proofs.lemmas.List.Sums.{sum_by-cons}
use Rattle.orc_wire.specs.declared.stripe_info.StripeInfo.{StripeInfo}
use Rattle.orc_values.specs.Shapes.{Shape, width}
use Rattle.orc_stats.specs.declared.stat.Stat.{Stat}
use Rattle.orc_stats.specs.Joining.{joined, trues_of}
use Rattle.orc_stats.specs.Messages.{few_trues}
use Rattle.orc_stats.proofs.Normal.{joined-normal}
use Rattle.orc_tail.specs.Stripes.{stripes_length, stripes_rows, most_stripes, most_stripe_rows, most_rows, most_bytes}
use Rattle.orc_tail.specs.Statistics.{kind_at, AreOfColumns, AreStats, column_stats, of_columns, file_stats}
use Rattle.orc_tail.specs.Images.{IsWithinLimits}
use Rattle.orc_tail.specs.declared.tail.Tail.{Tail}
use Rattle.orc_merger.specs.Merging.{HasStatistics, all_stripes, all_stats, merged, IsLike}
use Rattle.orc_merger.proofs.Placing.{length-placed, bytes-placed, rows-placed, stripe_rows-placed, rows-append}
use Rattle.orc_values.proofs.Lists.{all_append}
use Rattle.orc_tail.proofs.OfColumns.{length-of_columns}

-- ---- what is so of each is so of all

all_rows : (ts : List Tail) → AllByRecursion IsWithinLimits ts → stripes_rows (all_stripes ts) ≡ sum_by (λ (t : Tail). t.rows) ts
all_rows [] a = refl
all_rows (t ∷ ts) a =
    let rows : Tail → ℕ = λ t. t.rows in
    rows-append t.stripes (all_stripes ts) ∙ ap (λ n. n + stripes_rows (all_stripes ts)) a.0.rows_are ∙ ap (λ n. t.rows + n) (all_rows ts a.1)
    ∙ sym (sum_by-cons rows t ts)

all_stripe_rows : (ts : List Tail) → AllByRecursion IsWithinLimits ts
    → AllByRecursion (λ (s : StripeInfo). s.number_of_rows ≤ most_stripe_rows) (all_stripes ts)
all_stripe_rows [] a = tt
all_stripe_rows (t ∷ ts) a = all_append (λ (s : StripeInfo). s.number_of_rows ≤ most_stripe_rows) t.stripes (all_stripes ts) a.0.stripe_rows
    (all_stripe_rows ts a.1)

all_stats_are : (first : Tail) (ts : List Tail) → AllByRecursion IsWithinLimits ts → AllByRecursion (IsLike first) ts
    → AllByRecursion (AreStats first.schema) (all_stats ts)
all_stats_are first [] a l = tt
all_stats_are first (t ∷ ts) a l =
    all_append (AreStats first.schema) t.stripe_stats (all_stats ts)
    (subst (λ (s : Shape). AllByRecursion (AreStats s) t.stripe_stats) l.0.schema a.0.stripe_stats) (all_stats_are first ts a.1 l.1)

pub stats_of_each : (first : Tail) (ts : List Tail) → AllByRecursion (IsLike first) ts → length (all_stats ts) ≡ length (all_stripes ts)
stats_of_each first [] a = refl
stats_of_each first (t ∷ ts) a =
    length-append t.stripe_stats (all_stats ts) ∙ ap (λ n. n + length (all_stats ts)) a.0.statistics.stripes
    ∙ ap (λ n. length t.stripes + n) (stats_of_each first ts a.1)
    ∙ sym (length-append t.stripes (all_stripes ts))

columns_of_each : (first : Tail) (ts : List Tail) → AllByRecursion (IsLike first) ts
    → AllByRecursion (λ (stats : List Stat). length stats ≡ width first.schema) (all_stats ts)
columns_of_each first [] a = tt
columns_of_each first (t ∷ ts) a =
    let here : AllByRecursion (λ (stats : List Stat). length stats ≡ width first.schema) t.stripe_stats =
    subst (λ (s : Shape). AllByRecursion (λ (stats : List Stat). length stats ≡ width s) t.stripe_stats) a.0.schema a.0.statistics.columns in
    all_append (λ (stats : List Stat). length stats ≡ width first.schema) t.stripe_stats (all_stats ts) here (columns_of_each first ts a.1)

-- a merged tail has statistics
pub statistics_of_merged : (first : Tail) (ts : List Tail) → AllByRecursion (IsLike first) ts → HasStatistics (merged first ts)
statistics_of_merged first ts a = record {
  stripes = stats_of_each first ts a ∙ sym (length-placed 3 (all_stripes ts));
  columns = columns_of_each first ts a;
}

-- ---- the limits that inputs can pass together

abbrev pub Counted : List Stat → Type 0
Counted stats = AllByRecursion (λ (x : Stat). x.count ≤ 2 ^ 62) stats

pub record HasRoom (first : Tail) (ts : List Tail) : Type 0 where
  pub stripes : length (all_stripes ts) ≤ most_stripes
  pub bytes : stripes_length (all_stripes ts) ≤ most_bytes
  pub rows : sum_by (λ (t : Tail). t.rows) ts ≤ most_rows
  pub counts : Counted (file_stats first.schema (all_stats ts))

counted : (s : Shape) (c : ℕ) (xs : List Stat) → AreOfColumns s c xs → Counted xs
counted s c [] a = tt
counted s c (x ∷ xs) a =
    let is = a.0 in
    let few = and_parts (nat_le x.count (2 ^ 62)) (few_trues (trues_of x.body)) is.limits in
    let yes = few.0 in
    (grind (arith, nat_tests), counted s (c + 1) xs a.1)

pub room_of : (first : Tail) (ts : List Tail) → IsWithinLimits (merged first ts) → HasRoom first ts
room_of first ts l =
    let few = l.stripes in let len = length-placed 3 (all_stripes ts) in let bytes = l.bytes in let sum = bytes-placed 3 (all_stripes ts) in
    record {
      stripes = omega (arith, few, len);
      bytes = omega (arith, bytes, sum);
      rows = l.rows;
      counts = counted first.schema 0 (file_stats first.schema (all_stats ts)) l.file_stats.kinds;
    }

stats_from : (s : Shape) (stats : List (List Stat)) (c n : ℕ) → Counted (of_columns (λ d. joined (kind_at s d) (column_stats d stats)) c n)
    → AreOfColumns s c (of_columns (λ d. joined (kind_at s d) (column_stats d stats)) c n)
stats_from s stats c zero a = tt
stats_from s stats c (suc n) a =
    let next : suc c ≡ c + 1 = omega arith in (
      joined-normal (kind_at s c) (column_stats c stats) a.0,
      subst (λ (d : ℕ). AreOfColumns s d (of_columns (λ d. joined (kind_at s d) (column_stats d stats)) (suc c) n)) next (stats_from s stats (suc c) n a.1),
    )

-- a merged tail within those is within all limits
pub limits_of : (first : Tail) (ts : List Tail) → IsWithinLimits first → AllByRecursion IsWithinLimits ts → AllByRecursion (IsLike first) ts
    → HasRoom first ts → IsWithinLimits (merged first ts)
limits_of first ts f a l room =
    let few = room.stripes in let len = length-placed 3 (all_stripes ts) in let bytes = room.bytes in let sum = bytes-placed 3 (all_stripes ts) in
    let each = stats_of_each first ts l in let cols = length-of_columns (λ d. joined (kind_at first.schema d) (column_stats d (all_stats ts))) 0
    (width first.schema) in
    record {
      version = f.version;
      schema = f.schema;
      file_stats = record { few = omega (arith, cols); kinds = stats_from first.schema (all_stats ts) 0 (width first.schema) room.counts };
      stripe_stats = all_stats_are first ts a l;
      stats_of_stripes = omega (arith, each, len);
      stripes = omega (arith, few, len);
      stripe_rows = stripe_rows-placed 3 (all_stripes ts) (all_stripe_rows ts a);
      rows_are = rows-placed 3 (all_stripes ts) ∙ all_rows ts a;
      rows = room.rows;
      bytes = omega (arith, bytes, sum);
      other = f.other;
    }
