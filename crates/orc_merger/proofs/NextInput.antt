-- The next input is added behind those that are gathered.
use Rattle.std.proofs.Common.{◌≡◌, ℕ, suc, ◌+◌, ◌≤◌, List, [], ◌∷◌, ◌++◌, length, sym, ap, ◌∙◌, subst, arith, append_assoc, append-nil, length-append}
use Rattle.std.specs.Prelude.{sum_by}
use Rattle.std.specs.List.{AllByRecursion}
use Rattle.std.proofs.lemmas.List.Sums.{sum_by-append, sum_by-cons}
use Rattle.std.proofs.lemmas.List.Concat.{flat_map-append}
use Rattle.orc_wire.specs.declared.stripe_info.StripeInfo.{StripeInfo}
use Rattle.orc_values.specs.Shapes.{Shape, width}
use Rattle.orc_stats.specs.declared.stat.Stat.{Stat}
use Rattle.orc_tail.specs.Stripes.{stripe_length, stripes_length}
use Rattle.orc_tail.specs.Images.{IsWithinLimits}
use Rattle.orc_tail.specs.declared.tail.Tail.{Tail}
use Rattle.orc_merger.specs.declared.copying.Piece.{Piece}
use Rattle.orc_merger.specs.declared.gathered.Gathered.{Gathered}
use Rattle.orc_merger.specs.declared.gathered.Lists.{Lists}
use Rattle.orc_merger.specs.Merging.{placed, all_stripes, all_stats, all_pairs, merged, HasStatistics, IsLike, CanMerge, Agree}
use Rattle.orc_merger.specs.Gathering.{pieces_in, pieces_of, IsOfKind, HasPairs}
use Rattle.orc_merger.specs.Counts.{column_count}
use Rattle.orc_merger.specs.Limits.{AreFewInAll, AreFewTogether}
use Rattle.orc_merger.specs.SoFar.{HasGathered, IsNext}
use Rattle.orc_merger.proofs.Placing.{bytes-append, length-placed}
use Rattle.orc_merger.proofs.Together.{few_of_limits, limits_of_few}
use Rattle.orc_values.proofs.Lists.{all_append}

-- ---- the lists of one input more

pub stripes_push : (ts : List Tail) (t : Tail) → all_stripes (ts ++ t ∷ []) ≡ all_stripes ts ++ t.stripes
stripes_push ts t = flat_map-append (λ (x : Tail). x.stripes) ts (t ∷ []) ∙ ap (λ xs. all_stripes ts ++ xs) (append-nil t.stripes)

pub stats_push : (ts : List Tail) (t : Tail) → all_stats (ts ++ t ∷ []) ≡ all_stats ts ++ t.stripe_stats
stats_push ts t = flat_map-append (λ (x : Tail). x.stripe_stats) ts (t ∷ []) ∙ ap (λ xs. all_stats ts ++ xs) (append-nil t.stripe_stats)

pub pairs_push : (ts : List Tail) (t : Tail) → all_pairs (ts ++ t ∷ []) ≡ all_pairs ts ++ t.user
pairs_push ts t = flat_map-append (λ (x : Tail). x.user) ts (t ∷ []) ∙ ap (λ xs. all_pairs ts ++ xs) (append-nil t.user)

pub rows_push : (ts : List Tail) (t : Tail) → sum_by (λ (x : Tail). x.rows) (ts ++ t ∷ []) ≡ sum_by (λ (x : Tail). x.rows) ts + t.rows
rows_push ts t =
    let rows : Tail → ℕ = λ x. x.rows in
    let one : sum_by rows (t ∷ []) ≡ t.rows + 0 = sum_by-cons rows t [] in
    let both : sum_by rows (ts ++ t ∷ []) ≡ sum_by rows ts + sum_by rows (t ∷ []) = sum_by-append rows ts (t ∷ []) in
    omega (arith, one, both)

pub bytes_push : (ts : List Tail) (t : Tail) → stripes_length (all_stripes (ts ++ t ∷ [])) ≡ stripes_length (all_stripes ts) + stripes_length t.stripes
bytes_push ts t = ap stripes_length (stripes_push ts t) ∙ bytes-append (all_stripes ts) t.stripes

pub end_push : (ts : List Tail) (t : Tail) → 3 + stripes_length (all_stripes ts) + stripes_length t.stripes ≡ 3 + stripes_length (all_stripes (ts ++ t ∷ []))
end_push ts t = omega (arith, bytes_push ts t)

placed-append : (at : ℕ) (xs ys : List StripeInfo) → placed at (xs ++ ys) ≡ placed at xs ++ placed (at + stripes_length xs) ys
placed-append at [] ys = let e : at ≡ at + 0 = omega arith in ap (λ n. placed n ys) e
placed-append at (x ∷ xs) ys =
    let e : at + stripe_length x + stripes_length xs ≡ at + (stripe_length x + stripes_length xs) = omega arith in
    ap (λ (rest : List StripeInfo). record x { offset = at } ∷ rest) (placed-append (at + stripe_length x) xs ys ∙ ap (λ n. placed (at + stripe_length x) xs ++ placed n ys) e)

pub placed_push : (ts : List Tail) (t : Tail) → placed 3 (all_stripes (ts ++ t ∷ [])) ≡ placed 3 (all_stripes ts) ++ placed (3 + stripes_length (all_stripes ts)) t.stripes
placed_push ts t = ap (placed 3) (stripes_push ts t) ∙ placed-append 3 (all_stripes ts) t.stripes

pieces_from : (i : ℕ) (ts : List Tail) (t : Tail) → pieces_of i (ts ++ t ∷ []) ≡ pieces_of i ts ++ pieces_in (i + length ts) t.stripes
pieces_from i [] t = let e : i ≡ i + 0 = omega arith in append-nil (pieces_in i t.stripes) ∙ ap (λ n. pieces_in n t.stripes) e
pieces_from i (u ∷ ts) t =
    let e : i + 1 + length ts ≡ i + suc (length ts) = omega arith in
    ap (λ (r : List Piece). pieces_in i u.stripes ++ r) (pieces_from (i + 1) ts t ∙ ap (λ n. pieces_of (i + 1) ts ++ pieces_in n t.stripes) e)
    ∙ sym (append_assoc (pieces_in i u.stripes) (pieces_of (i + 1) ts) (pieces_in (i + suc (length ts)) t.stripes))

pub pieces_push : (ts : List Tail) (t : Tail) → pieces_of 0 (ts ++ t ∷ []) ≡ pieces_of 0 ts ++ pieces_in (length ts) t.stripes
pieces_push ts t = let e : 0 + length ts ≡ length ts = omega arith in pieces_from 0 ts t ∙ ap (λ n. pieces_of 0 ts ++ pieces_in n t.stripes) e

-- ---- the next input is like the others

like_push : (first : Tail) (ts : List Tail) (t : Tail) → AllByRecursion (IsLike first) ts → IsOfKind first t → HasStatistics t
    → AllByRecursion (IsLike first) (ts ++ t ∷ [])
like_push first ts t like k has =
    all_append (IsLike first) ts (t ∷ []) like (record { schema = k.schema; version = k.version; stride = k.stride; other = k.other; statistics = has }, tt)

-- the pairs gathered are those of the inputs
pub pairs_so_far : (first tail : Tail) (tails : List Tail) (number : ℕ) (lists : Lists) (g : Gathered) → IsNext first tails tail number lists g
    → HasPairs (all_pairs tails) g.user
pairs_so_far first tail tails number lists g n = record { agree = n.merges.agree; kept_are = n.gathered.user; places = n.gathered.user_places }

pub next_pairs : (first tail : Tail) (tails : List Tail) (number : ℕ) (lists : Lists) (g : Gathered) → IsNext first tails tail number lists g
    → all_pairs (tails ++ tail ∷ []) ≡ all_pairs tails ++ lists.user.items
next_pairs first tail tails number lists g n = pairs_push tails tail ∙ ap (λ xs. all_pairs tails ++ xs) (sym n.lists_are.user)

pub next_stats : (first tail : Tail) (tails : List Tail) (number : ℕ) (lists : Lists) (g : Gathered) → IsNext first tails tail number lists g
    → all_stats (tails ++ tail ∷ []) ≡ all_stats tails ++ lists.stripe_stats.items
next_stats first tail tails number lists g n = stats_push tails tail ∙ ap (λ xs. all_stats tails ++ xs) (sym n.lists_are.stripe_stats)

schema_so_far : (first tail : Tail) (tails : List Tail) (number : ℕ) (lists : Lists) (g : Gathered) → IsNext first tails tail number lists g
    → g.first.schema ≡ tail.schema
schema_so_far first tail tails number lists g n = ap (λ (t : Tail). t.schema) n.gathered.first_is ∙ sym n.kind.schema

-- a test of its lists asks for its statistics
pub statistics_of : (first tail : Tail) (tails : List Tail) (number : ℕ) (lists : Lists) (g : Gathered) → IsNext first tails tail number lists g
    → length lists.stripe_stats.items ≡ length lists.stripes.items → AllByRecursion (λ (xs : List Stat). length xs ≡ width g.first.schema) lists.stripe_stats.items → HasStatistics tail
statistics_of first tail tails number lists g n stripes columns = record {
  stripes = ap length (sym n.lists_are.stripe_stats) ∙ stripes ∙ ap length n.lists_are.stripes;
  columns = subst (λ (xss : List (List Stat)). AllByRecursion (λ (xs : List Stat). length xs ≡ width tail.schema) xss) n.lists_are.stripe_stats
      (subst (λ (s : Shape). AllByRecursion (λ (xs : List Stat). length xs ≡ width s) lists.stripe_stats.items) (schema_so_far first tail tails number lists g n) columns);
}

pub statistics_to : (first tail : Tail) (tails : List Tail) (number : ℕ) (lists : Lists) (g : Gathered) → IsNext first tails tail number lists g → HasStatistics tail
    → (length lists.stripe_stats.items ≡ length lists.stripes.items) × AllByRecursion (λ (xs : List Stat). length xs ≡ width g.first.schema) lists.stripe_stats.items
statistics_to first tail tails number lists g n has = (
  ap length n.lists_are.stripe_stats ∙ has.stripes ∙ ap length (sym n.lists_are.stripes),
  subst (λ (xss : List (List Stat)). AllByRecursion (λ (xs : List Stat). length xs ≡ width g.first.schema) xss) (sym n.lists_are.stripe_stats)
      (subst (λ (s : Shape). AllByRecursion (λ (xs : List Stat). length xs ≡ width s) tail.stripe_stats) (sym (schema_so_far first tail tails number lists g n)) has.columns),
)

-- ---- and has room or not

pub next_few : (first tail : Tail) (tails : List Tail) (number : ℕ) (lists : Lists) (g : Gathered) → IsNext first tails tail number lists g
    → HasStatistics tail → IsWithinLimits (merged first (tails ++ tail ∷ []))
    → AreFewTogether (length g.stripes.items + length lists.stripes.items) (g.end + stripes_length lists.stripes.items) (g.rows + lists.rows) (all_stats tails ++ lists.stripe_stats.items)
next_few first tail tails number lists g n has within =
    let all : List Tail = tails ++ tail ∷ [] in
    let few : AreFewInAll all = few_of_limits first all (like_push first tails tail n.merges.alike n.kind has) within in
    let old : length g.stripes.items ≡ length (all_stripes tails) = ap length n.gathered.stripes ∙ length-placed 3 (all_stripes tails) in
    let more : length lists.stripes.items ≡ length tail.stripes = ap length n.lists_are.stripes in
    let stripes : length (all_stripes all) ≡ length (all_stripes tails) + length tail.stripes = ap length (stripes_push tails tail) ∙ length-append (all_stripes tails) tail.stripes in
    let end : g.end ≡ 3 + stripes_length (all_stripes tails) = n.gathered.end in
    let bytes : stripes_length lists.stripes.items ≡ stripes_length tail.stripes = ap stripes_length n.lists_are.stripes in
    let rows : g.rows ≡ sum_by (λ (t : Tail). t.rows) tails = n.gathered.rows in
    let stripes_few : length (all_stripes all) ≤ 65536 = few.stripes_few in
    let bytes_few : 3 + stripes_length (all_stripes all) ≤ 1099511627779 = few.bytes_few in
    let rows_few : sum_by (λ (t : Tail). t.rows) all ≤ 1099511627776 = few.rows_few in
    record {
      stripes_few = omega (arith, old, more, stripes, stripes_few);
      bytes_few = omega (arith, end, bytes, bytes_push tails tail, bytes_few);
      rows_few = omega (arith, rows, n.lists_are.rows, rows_push tails tail, rows_few);
      values_few = λ c. subst (λ (xs : List (List Stat)). column_count c xs ≤ 4611686018427387904) (next_stats first tail tails number lists g n) (few.values_few c);
    }

-- those with the next one are within the limits where what is gathered of them is
pub next_within : (first tail : Tail) (tails : List Tail) (number : ℕ) (lists : Lists) (g h : Gathered) → IsNext first tails tail number lists g
    → HasStatistics tail → HasGathered first (tails ++ tail ∷ []) h
    → AreFewTogether (length h.stripes.items) h.end h.rows (all_stats tails ++ lists.stripe_stats.items)
    → IsWithinLimits (merged first (tails ++ tail ∷ []))
next_within first tail tails number lists g h n has now few =
    let all : List Tail = tails ++ tail ∷ [] in
    let count : length h.stripes.items ≡ length (all_stripes all) = ap length now.stripes ∙ length-placed 3 (all_stripes all) in
    let stripes_few : length h.stripes.items ≤ 65536 = few.stripes_few in
    let bytes_few : h.end ≤ 1099511627779 = few.bytes_few in
    let rows_few : h.rows ≤ 1099511627776 = few.rows_few in
    limits_of_few first all n.first_within (all_append IsWithinLimits tails (tail ∷ []) n.tails_within (n.tail_within, tt))
    (like_push first tails tail n.merges.alike n.kind has) (record {
      stripes_few = omega (arith, count, stripes_few);
      bytes_few = omega (arith, now.end, bytes_few);
      rows_few = omega (arith, now.rows, rows_few);
      values_few = λ c. subst (λ (xs : List (List Stat)). column_count c xs ≤ 4611686018427387904) (sym (next_stats first tail tails number lists g n)) (few.values_few c);
    })

pub next_merges : (first tail : Tail) (tails : List Tail) (number : ℕ) (lists : Lists) (g h : Gathered) → IsNext first tails tail number lists g
    → HasStatistics tail → Agree (all_pairs (tails ++ tail ∷ [])) → HasGathered first (tails ++ tail ∷ []) h
    → AreFewTogether (length h.stripes.items) h.end h.rows (all_stats tails ++ lists.stripe_stats.items)
    → CanMerge first (tails ++ tail ∷ [])
next_merges first tail tails number lists g h n has agree now few = record {
  alike = like_push first tails tail n.merges.alike n.kind has;
  agree = agree;
  limits = next_within first tail tails number lists g h n has now few;
}
