-- There is room for the inputs together where their stripes end in time and their rows and values are few.
use Rattle.std.proofs.Common.{◌≡◌, ℕ, zero, suc, ◌+◌, ◌<◌, ◌≤◌, ◌⊎◌, inl, inr, List, [], ◌∷◌, length, take, drop, refl, subst, arith}
use Rattle.std.specs.List.{AllByRecursion}
use Rattle.std.proofs.lemmas.List.Sums.{sum_by-append}
use Rattle.orc_values.specs.Shapes.{Shape, width}
use Rattle.orc_stats.specs.declared.stat.Stat.{Stat}
use Rattle.orc_stats.specs.Joining.{joined}
use Rattle.orc_tail.specs.Stripes.{stripes_length}
use Rattle.orc_tail.specs.Statistics.{kind_at, column_stats, of_columns, file_stats}
use Rattle.orc_tail.specs.Images.{IsWithinLimits}
use Rattle.orc_tail.specs.declared.tail.Tail.{Tail}
use Rattle.orc_merger.specs.Merging.{all_stripes, all_stats, merged, IsLike}
use Rattle.orc_merger.specs.Counts.{column_count}
use Rattle.orc_merger.specs.Limits.{AreFewInAll}
use Rattle.orc_merger.proofs.ValueCounts.{count_at, count_above}
use Rattle.orc_merger.proofs.Limits.{HasRoom, Counted, limits_of, room_of, statistics_of_merged}

-- a column behind the last one has no value
no_count : (n c : ℕ) (stats : List (List Stat)) → n ≤ c → AllByRecursion (λ (xs : List Stat). length xs ≡ n) stats → column_count c stats ≡ 0
no_count n c [] le all = refl
no_count n c (xs ∷ stats) le all =
    let each : column_count c (xs ∷ stats) ≡ count_at c xs + column_count c stats = sum_by-append (λ (s : Stat). s.count) (take 1 (drop c xs)) (column_stats c stats) in
    let above : count_at c xs ≡ 0 = count_above xs c (omega (arith, all.0, le)) in
    let rest = no_count n c stats le all.1 in
    omega (arith, each, above, rest)

-- those of the columns from one on are few where their values are
counted_of : (s : Shape) (stats : List (List Stat)) → ((c : ℕ) → column_count c stats ≤ 4611686018427387904) → (c n : ℕ)
    → Counted (of_columns (λ d. joined (kind_at s d) (column_stats d stats)) c n)
counted_of s stats few c zero = tt
counted_of s stats few c (suc n) = (few c, counted_of s stats few (suc c) n)

count_of : (s : Shape) (stats : List (List Stat)) (c n k : ℕ) → Counted (of_columns (λ d. joined (kind_at s d) (column_stats d stats)) c n) → k < n
    → column_count (c + k) stats ≤ 4611686018427387904
count_of s stats c zero k all lt = absurd (omega (arith, lt))
count_of s stats c (suc n) zero all lt =
    let here : column_count c stats ≤ 4611686018427387904 = all.0 in
    let e : c ≡ c + 0 = omega arith in
    subst (λ (d : ℕ). column_count d stats ≤ 4611686018427387904) e here
count_of s stats c (suc n) (suc k) all lt =
    let e : suc c + k ≡ c + suc k = omega arith in
    subst (λ (d : ℕ). column_count d stats ≤ 4611686018427387904) e (count_of s stats (suc c) n k all.1 (omega (arith, lt)))

below_or_not : (a b : ℕ) → (a < b) ⊎ (b ≤ a)
below_or_not a zero = inr (omega arith)
below_or_not zero (suc b) = inl (omega arith)
below_or_not (suc a) (suc b) = elim (below_or_not a b) [ inl l ↦ inl (omega (arith, l)) | inr g ↦ inr (omega (arith, g)) ]

few_values : (s : Shape) (stats : List (List Stat)) → AllByRecursion (λ (xs : List Stat). length xs ≡ width s) stats → Counted (file_stats s stats)
    → (c : ℕ) → column_count c stats ≤ 4611686018427387904
few_values s stats wide all c = elim (below_or_not c (width s)) [
  | inl lt ↦ let e : 0 + c ≡ c = omega arith in subst (λ (d : ℕ). column_count d stats ≤ 4611686018427387904) e (count_of s stats 0 (width s) c all lt)
  | inr le ↦ let none = no_count (width s) c stats le wide in omega (arith, none)
]

room_of_few : (first : Tail) (ts : List Tail) → AreFewInAll ts → HasRoom first ts
room_of_few first ts few =
    let b : 3 + stripes_length (all_stripes ts) ≤ 1099511627779 = few.bytes_few in
    record {
      stripes = few.stripes_few;
      bytes = omega (arith, b);
      rows = few.rows_few;
      counts = counted_of first.schema (all_stats ts) few.values_few 0 (width first.schema);
    }

few_of_room : (first : Tail) (ts : List Tail) → AllByRecursion (IsLike first) ts → HasRoom first ts → AreFewInAll ts
few_of_room first ts like room =
    let b : stripes_length (all_stripes ts) ≤ 1099511627776 = room.bytes in
    record {
      stripes_few = room.stripes;
      bytes_few = omega (arith, b);
      rows_few = room.rows;
      values_few = few_values first.schema (all_stats ts) (statistics_of_merged first ts like).columns room.counts;
    }

-- the merged tail is within the limits exactly where the inputs have few stripes, bytes, rows and values together
pub few_of_limits : (first : Tail) (ts : List Tail) → AllByRecursion (IsLike first) ts → IsWithinLimits (merged first ts) → AreFewInAll ts
few_of_limits first ts like within = few_of_room first ts like (room_of first ts within)

pub limits_of_few : (first : Tail) (ts : List Tail) → IsWithinLimits first → AllByRecursion IsWithinLimits ts → AllByRecursion (IsLike first) ts → AreFewInAll ts
    → IsWithinLimits (merged first ts)
limits_of_few first ts f a like few = limits_of first ts f a like (room_of_few first ts few)
