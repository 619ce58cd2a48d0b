-- Whether joined tails are within the limits, and what two groups of them have together.
use Rattle.std.proofs.Common.{◌≡◌, ℕ, zero, suc, ◌+◌, ◌≤◌, ◌^◌, inl, inr, List, [], ◌∷◌, ◌++◌, length, ap, ◌∙◌, subst, arith, length-append, take, drop}
use Rattle.std.specs.Prelude.{sum_by}
use Rattle.std.specs.List.{AllByRecursion}
use Rattle.std.proofs.lemmas.List.Sums.{sum_by-append}
use Rattle.std.proofs.lemmas.List.Concat.{flat_map-append}
use Rattle.orc_values.specs.Shapes.{Shape, width}
use Rattle.orc_types.proofs.Decisions.{Decided, both, at_most}
use Rattle.orc_stats.specs.declared.stat.Stat.{Stat}
use Rattle.orc_stats.specs.Joining.{joined}
use Rattle.orc_tail.specs.Stripes.{stripes_length, most_stripes, most_rows, most_bytes}
use Rattle.orc_tail.specs.Statistics.{kind_at, column_stats, of_columns, file_stats}
use Rattle.orc_tail.specs.Images.{IsWithinLimits}
use Rattle.orc_tail.specs.declared.tail.Tail.{Tail}
use Rattle.orc_merger.specs.Merging.{all_stripes, all_stats, merged, IsLike}
use Rattle.orc_merger.proofs.Placing.{bytes-append}
use Rattle.orc_merger.proofs.Limits.{Counted, HasRoom, limits_of, room_of}

counts_within : (stats : List Stat) → Decided (Counted stats)
counts_within [] = inl tt
counts_within (s ∷ stats) = both (at_most s.count (2 ^ 62)) (counts_within stats)

room_by : (first : Tail) (ts : List Tail) → Decided (length (all_stripes ts) ≤ most_stripes) → Decided (stripes_length (all_stripes ts) ≤ most_bytes)
    → Decided (sum_by (λ (t : Tail). t.rows) ts ≤ most_rows) → Decided (Counted (file_stats first.schema (all_stats ts))) → Decided (HasRoom first ts)
room_by first ts (inl a) (inl b) (inl c) (inl d) = inl (record { stripes = a; bytes = b; rows = c; counts = d })
room_by first ts (inr n) b c d = inr (λ l. n l.stripes)
room_by first ts (inl a) (inr n) c d = inr (λ l. n l.bytes)
room_by first ts (inl a) (inl b) (inr n) d = inr (λ l. n l.rows)
room_by first ts (inl a) (inl b) (inl c) (inr n) = inr (λ l. n l.counts)

decide_room : (first : Tail) (ts : List Tail) → Decided (HasRoom first ts)
decide_room first ts =
    room_by first ts (at_most (length (all_stripes ts)) most_stripes) (at_most (stripes_length (all_stripes ts)) most_bytes)
    (at_most (sum_by (λ (t : Tail). t.rows) ts) most_rows) (counts_within (file_stats first.schema (all_stats ts)))

limits_by : (first : Tail) (ts : List Tail) → IsWithinLimits first → AllByRecursion IsWithinLimits ts → AllByRecursion (IsLike first) ts
    → Decided (HasRoom first ts) → Decided (IsWithinLimits (merged first ts))
limits_by first ts f a l (inl room) = inl (limits_of first ts f a l room)
limits_by first ts f a l (inr none) = inr (λ h. none (room_of first ts h))

pub within_limits : (first : Tail) (ts : List Tail) → IsWithinLimits first → AllByRecursion IsWithinLimits ts → AllByRecursion (IsLike first) ts
    → Decided (IsWithinLimits (merged first ts))
within_limits first ts f a l = limits_by first ts f a l (decide_room first ts)

column-append : (c : ℕ) (xs ys : List (List Stat)) → column_stats c (xs ++ ys) ≡ column_stats c xs ++ column_stats c ys
column-append c xs ys = flat_map-append (λ (s : List Stat). take 1 (drop c s)) xs ys

counts_both : (s : Shape) (c n : ℕ) (xs ys : List (List Stat)) → Counted (of_columns (λ d. joined (kind_at s d) (column_stats d (xs ++ ys))) c n)
    → Counted (of_columns (λ d. joined (kind_at s d) (column_stats d xs)) c n) × Counted (of_columns (λ d. joined (kind_at s d) (column_stats d ys)) c n)
counts_both s c zero xs ys all = (tt, tt)
counts_both s c (suc n) xs ys all =
    let count : Stat → ℕ = λ x. x.count in
    let added : sum_by count (column_stats c (xs ++ ys)) ≡ sum_by count (column_stats c xs) + sum_by count (column_stats c ys) =
    ap (sum_by count) (column-append c xs ys) ∙ sum_by-append count (column_stats c xs) (column_stats c ys) in
    let most : sum_by count (column_stats c (xs ++ ys)) ≤ 4611686018427387904 = all.0 in
    let rest = counts_both s (suc c) n xs ys all.1 in
    let left : sum_by count (column_stats c xs) ≤ 4611686018427387904 = omega (arith, added, most) in
    let right : sum_by count (column_stats c ys) ≤ 4611686018427387904 = omega (arith, added, most) in
    ((left, rest.0), (right, rest.1))

pub room_both : (first : Tail) (xs ys : List Tail) → HasRoom first (xs ++ ys) → HasRoom first xs × HasRoom first ys
room_both first xs ys room =
    let rows : Tail → ℕ = λ t. t.rows in
    let stripes : all_stripes (xs ++ ys) ≡ all_stripes xs ++ all_stripes ys = flat_map-append (λ (t : Tail). t.stripes) xs ys in
    let stats : all_stats (xs ++ ys) ≡ all_stats xs ++ all_stats ys = flat_map-append (λ (t : Tail). t.stripe_stats) xs ys in
    let n : length (all_stripes (xs ++ ys)) ≡ length (all_stripes xs) + length (all_stripes ys) = ap length stripes
    ∙ length-append (all_stripes xs) (all_stripes ys) in
    let b : stripes_length (all_stripes (xs ++ ys)) ≡ stripes_length (all_stripes xs) + stripes_length (all_stripes ys) = ap stripes_length stripes
    ∙ bytes-append (all_stripes xs) (all_stripes ys) in
    let r : sum_by rows (xs ++ ys) ≡ sum_by rows xs + sum_by rows ys = sum_by-append rows xs ys in
    let c = counts_both first.schema 0 (width first.schema) (all_stats xs) (all_stats ys)
    (subst (λ (x : List (List Stat)). Counted (file_stats first.schema x)) stats room.counts) in
    let ls : length (all_stripes (xs ++ ys)) ≤ 65536 = room.stripes in
    let lb : stripes_length (all_stripes (xs ++ ys)) ≤ 1099511627776 = room.bytes in
    let lr : sum_by rows (xs ++ ys) ≤ 1099511627776 = room.rows in (
      record { stripes = omega (arith, n, ls); bytes = omega (arith, b, lb); rows = omega (arith, r, lr); counts = c.0 },
      record { stripes = omega (arith, n, ls); bytes = omega (arith, b, lb); rows = omega (arith, r, lr); counts = c.1 },
    )
