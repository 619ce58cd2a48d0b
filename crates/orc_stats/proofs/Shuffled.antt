-- Tallies in any order.
use Rattle.std.proofs.Common.{◌≡◌, refl, sym, ◌∙◌, ap, arith, ℕ, zero, suc, ◌+◌, ◌<◌, List, [], ◌∷◌, length, map, get_or, set, ◌≢◌, inl, inr}
use Rattle.std.specs.List.{swap}
use Rattle.std.specs.List.Sorted.{IsPermutation}
use Rattle.std.proofs.lemmas.List.{set-get_or, set_comm}
use Rattle.std.proofs.lemmas.List.Sorted.{IsPermutation-keeps, IsPermutation-map}
use Rattle.std.proofs.lemmas.List.Edits.{swap_is}
use Rattle.std.proofs.lemmas.Bool.{cases_lt}
use Rattle.std.proofs.lemmas.List.Sums.{sum_by-cons}
use Rattle.std.proofs.Common.{zero-add, sum_by, Some, false}
use Rattle.orc_stats.specs.declared.stat.Stat.{Stat}
use Rattle.orc_stats.specs.declared.stat.Body.{Body}
use Rattle.orc_stats.specs.declared.kind.StatKind.{StatKind}
use Rattle.orc_stats.specs.declared.kind.StatKind.TheVariants as kind
use Rattle.std.specs.List.{filter_map}
use Rattle.std.specs.Option.{option_map}
use Rattle.orc_values.specs.Cells.{Cell}
use Rattle.orc_stats.specs.declared.stat.Body.TheVariants as body
use Rattle.orc_stats.specs.Seen.{known_of}
use Rattle.orc_stats.specs.Statistics.{reduce, bit, bool_of, stat}
use Rattle.orc_stats.specs.Orders.{nat_sums}
use Rattle.orc_stats.specs.Joining.{joined}
use Rattle.orc_stats.specs.Tallies.{Measure, Kept, together, cell_kept, stat_kept, all_kept, cells_kept, stats_kept, stat_of_kept}
use Rattle.orc_stats.specs.Measures.{ints, dates, texts, bools, bins, child_numbers, no_measure}
use Rattle.orc_stats.specs.laws.TallyLaws.{together_comm, together_assoc, stat_is, cells_kept_parts, cells_kept_count, cells_kept_nulls, known_values}
use Rattle.orc_stats.specs.laws.TallyKinds.{ints_cells, dates_cells, texts_cells, bins_cells, children_cells, plain_cells, ints_stats, dates_stats, texts_stats, bools_stats, bins_stats, children_stats, plain_stats, picked_map}

module _ {P : Type 0} (m : Measure P) where
  together_left : (x u r : Kept P) → together m x (together m u r) ≡ together m u (together m x r)
  together_left x u r = sym (together_assoc m x u r) ∙ ap (λ k. together m k r) (together_comm m x u) ∙ together_assoc m u x r

  -- all but one of them
  others : (l : List (Kept P)) (i : ℕ) → i < length l → (r : Kept P) × ((u : Kept P) → all_kept m (set l i u) ≡ together m u r)
  others [] i h = absurd (omega arith)
  others (x ∷ l) zero h = (all_kept m l, λ u. refl)
  others (x ∷ l) (suc i) h =
      let rest = others l i (omega arith) in
      (together m x rest.0, λ u. ap (together m x) (rest.1 u) ∙ together_left x u rest.0)

  -- all but two of them
  others_2 : (l : List (Kept P)) (i j : ℕ) → i < j → j < length l
      → (r : Kept P) × ((u v : Kept P) → all_kept m (set (set l i u) j v) ≡ together m u (together m v r))
  others_2 [] i j below h = absurd (omega arith)
  others_2 (x ∷ l) zero zero below h = absurd (omega arith)
  others_2 (x ∷ l) zero (suc j) below h = let rest = others l j (omega arith) in (rest.0, λ u v. ap (together m u) (rest.1 v))
  others_2 (x ∷ l) (suc i) zero below h = absurd (omega arith)
  others_2 (x ∷ l) (suc i) (suc j) below h =
      let rest = others_2 l i j (omega arith) (omega arith) in
      (together m x rest.0, λ u v. ap (together m x) (rest.1 u v) ∙ together_left x u (together m v rest.0) ∙ ap (together m u) (together_left x v rest.0))

  swap_below : (l : List (Kept P)) (d : Kept P) (i j : ℕ) → i < j → j < length l → all_kept m (set (set l i (get_or l j d)) j (get_or l i d)) ≡ all_kept m l
  swap_below l d i j below h =
      let rest = others_2 l i j below h in
      let a : Kept P = get_or l i d in
      let b : Kept P = get_or l j d in
      let kept : set (set l i a) j b ≡ l = ap (λ k. set k j b) (set-get_or l i d) ∙ set-get_or l j d in
      rest.1 b a ∙ together_left b a rest.0 ∙ sym (rest.1 a b) ∙ ap (all_kept m) kept

  swap_any : (l : List (Kept P)) (d : Kept P) (i j : ℕ) → i < length l → j < length l → all_kept m (set (set l i (get_or l j d)) j (get_or l i d)) ≡ all_kept m l
  swap_any l d i j p q = elim (cases_lt i j) [
    | inl lt ↦ swap_below l d i j lt q
    | inr le ↦ elim (cases_lt j i) [
      | inl gt ↦ (let apart : i ≢ j = omega arith in ap (all_kept m) (set_comm l i j (get_or l j d) (get_or l i d) apart) ∙ swap_below l d j i gt p)
      | inr ge ↦ (let same : i ≡ j = omega arith in
          ap (all_kept m) (ap (λ k. set (set l i (get_or l k d)) k (get_or l i d)) (sym same) ∙ ap (λ k. set k i (get_or l i d)) (set-get_or l i d) ∙ set-get_or l i d))
    ]
  ]

  swapped : (l : List (Kept P)) (i j : ℕ) → i < length l → j < length l → all_kept m (swap l i j) ≡ all_kept m l
  swapped [] i j p q = absurd (omega arith)
  swapped (d ∷ l) i j p q = ap (all_kept m) (sym (swap_is (d ∷ l) i j d p q)) ∙ swap_any (d ∷ l) d i j p q

  all_kept-shuffled : (xs ys : List (Kept P)) → IsPermutation xs ys → all_kept m ys ≡ all_kept m xs
  all_kept-shuffled xs ys same = IsPermutation-keeps xs (λ l. all_kept m l ≡ all_kept m xs) refl (λ l i j p q h. swapped l i j p q ∙ h) ys same

  pub cells_kept-shuffled : (xs ys : List Cell) → IsPermutation xs ys → cells_kept m ys ≡ cells_kept m xs
  cells_kept-shuffled xs ys same = all_kept-shuffled (map (cell_kept m) xs) (map (cell_kept m) ys) (IsPermutation-map (cell_kept m) xs ys same)

  pub stats_kept-shuffled : (xs ys : List Stat) → IsPermutation xs ys → stats_kept m ys ≡ stats_kept m xs
  stats_kept-shuffled xs ys same = all_kept-shuffled (map (stat_kept m) xs) (map (stat_kept m) ys) (IsPermutation-map (stat_kept m) xs ys same)

-- the statistic of cells has no order
trues_counted : (cells : List Cell) → known_of (cells_kept bools cells).parts ≡ reduce ◌+◌ (map bit (filter_map bool_of cells))
trues_counted cells =
    ap known_of (cells_kept_parts bools cells)
    ∙ known_values ◌+◌ nat_sums (λ c. option_map bit (bool_of c)) cells
    ∙ ap (reduce ◌+◌) (picked_map bit bool_of cells)

pub stat-shuffled : (k : StatKind) (xs ys : List Cell) → IsPermutation xs ys → stat k ys ≡ stat k xs
stat-shuffled kind.Plain xs ys same = sym (plain_cells ys) ∙ ap (stat_of_kept no_measure) (cells_kept-shuffled no_measure xs ys same) ∙ plain_cells xs
stat-shuffled kind.Ints xs ys same = sym (ints_cells ys) ∙ ap (stat_of_kept ints) (cells_kept-shuffled ints xs ys same) ∙ ints_cells xs
stat-shuffled kind.Bools xs ys same =
    let kept = cells_kept-shuffled bools xs ys same in
    stat_is bools
    (sym (cells_kept_count bools ys) ∙ ap (λ t. t.count) kept ∙ cells_kept_count bools xs)
    (sym (cells_kept_nulls bools ys) ∙ ap (λ t. t.nulls) kept ∙ cells_kept_nulls bools xs)
    (ap body.Bools (sym (trues_counted ys) ∙ ap (λ t. known_of t.parts) kept ∙ trues_counted xs))
stat-shuffled kind.Dates xs ys same = sym (dates_cells ys) ∙ ap (stat_of_kept dates) (cells_kept-shuffled dates xs ys same) ∙ dates_cells xs
stat-shuffled kind.Texts xs ys same = sym (texts_cells ys) ∙ ap (stat_of_kept texts) (cells_kept-shuffled texts xs ys same) ∙ texts_cells xs
stat-shuffled kind.Bins xs ys same = sym (bins_cells ys) ∙ ap (stat_of_kept bins) (cells_kept-shuffled bins xs ys same) ∙ bins_cells xs
stat-shuffled kind.Children xs ys same = sym (children_cells ys) ∙ ap (stat_of_kept child_numbers) (cells_kept-shuffled child_numbers xs ys same) ∙ children_cells xs

-- joined statistics have no order
pub joined-shuffled : (k : StatKind) (xs ys : List Stat) → IsPermutation xs ys → joined k ys ≡ joined k xs
joined-shuffled kind.Plain xs ys same = sym (plain_stats ys) ∙ ap (stat_of_kept no_measure) (stats_kept-shuffled no_measure xs ys same) ∙ plain_stats xs
joined-shuffled kind.Ints xs ys same = sym (ints_stats ys) ∙ ap (stat_of_kept ints) (stats_kept-shuffled ints xs ys same) ∙ ints_stats xs
joined-shuffled kind.Bools xs ys same = sym (bools_stats ys) ∙ ap (stat_of_kept bools) (stats_kept-shuffled bools xs ys same) ∙ bools_stats xs
joined-shuffled kind.Dates xs ys same = sym (dates_stats ys) ∙ ap (stat_of_kept dates) (stats_kept-shuffled dates xs ys same) ∙ dates_stats xs
joined-shuffled kind.Texts xs ys same = sym (texts_stats ys) ∙ ap (stat_of_kept texts) (stats_kept-shuffled texts xs ys same) ∙ texts_stats xs
joined-shuffled kind.Bins xs ys same = sym (bins_stats ys) ∙ ap (stat_of_kept bins) (stats_kept-shuffled bins xs ys same) ∙ bins_stats xs
joined-shuffled kind.Children xs ys same = sym (children_stats ys) ∙ ap (stat_of_kept child_numbers) (stats_kept-shuffled child_numbers xs ys same) ∙ children_stats xs

-- a statistic of no cells adds nothing
pub joined-empty : (k : StatKind) (o : Body) (ss : List Stat)
    → (let none : Stat = record { count = 0; nulls = Some false; body = o } in joined k (none ∷ ss) ≡ joined k ss)
joined-empty k o ss = stat_is no_measure (sum_by-cons (λ (s : Stat). s.count) (record { count = 0; nulls = Some false; body = o }) ss ∙ zero-add (sum_by (λ s. s.count) ss)) refl refl
