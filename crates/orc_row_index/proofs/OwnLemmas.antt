-- What is counted of cells as their own column says them is the cells' statistic.
use Rattle.std.specs.Prelude.{All}
use Rattle.std.proofs.Common.{◌≡◌, ◌∙◌, ℕ, ◌+◌, ◌<◌, ◌≤◌, ◌^◌, true, List, [], ◌∷◌, length, map, drop, get_or, refl, sym, ap, subst, arith}
use Rattle.std.proofs.lemmas.List.{drop_more, drop_all, get_or-map}
use Rattle.std.proofs.lemmas.List.Elements.{All-from_recursion}
use Rattle.std.specs.List.{AllByRecursion}
use Rattle.orc_values.specs.Cells.{Cell, null, is_value}
use Rattle.orc_values.specs.Childless.{childless}
use Rattle.orc_values.specs.Fits.{RowsFit}
use Rattle.orc_values.specs.Own.{own_cell}
use Rattle.orc_values.specs.Shapes.{Shape}
use Rattle.orc_values.specs.declared.own.Own.{Own}
use Rattle.orc_stats.specs.declared.kind.StatKind.{StatKind}
use Rattle.orc_stats.specs.declared.stat.Stat.{Stat}
use Rattle.orc_stats.specs.Kinds.{is_of, kind_of}
use Rattle.orc_stats.proofs.Childless.{kind_childless, cell_childless}
use Rattle.orc_stats.specs.Statistics.{stat, bit}
use Rattle.orc_stats.specs.Tallies.{Measure, Kept, together, cell_kept, cells_kept, stat_of_kept}
use Rattle.orc_stats.specs.laws.TallyLaws.{together_assoc, none_together, cells_kept_count}
use Rattle.orc_stats.proofs.Fitting.{cell_kind}
use Rattle.orc_stats.proofs.Folding.{few_values}
use Rattle.orc_row_groups.specs.OwnCells.{own_cells, AreOwn}
use Rattle.orc_row_groups.proofs.OwnLemmas.{owns_long}

-- ---- statistics

own_kinds : (s : Shape) (cs : List Cell) → RowsFit s cs → AllByRecursion (λ c. is_of (kind_of s) c ≡ true) (map childless cs)
own_kinds s [] h = tt
own_kinds s (c ∷ cs) h = (kind_childless (kind_of s) c ∙ cell_kind c s h.0, own_kinds s cs h.1)

pub owns_kind : (k : StatKind) (s : Shape) (owns : List Own) (cells : List Cell) → k ≡ kind_of s → AreOwn owns cells → RowsFit s cells → All (λ c. is_of k c ≡ true) (own_cells owns)
owns_kind k s owns cells kind own fit =
    subst (λ (j : StatKind). All (λ c. is_of j c ≡ true) (own_cells owns)) (sym kind)
    (subst (λ (cs : List Cell). All (λ c. is_of (kind_of s) c ≡ true) cs) (sym own)
    (All-from_recursion (λ c. is_of (kind_of s) c ≡ true) (map childless cells) (own_kinds s cells fit)))

module _ {P : Type 0} (m : Measure P) where
  kept_childless : ((c : Cell) → m.of_cell (childless c) ≡ m.of_cell c) → (cs : List Cell) → cells_kept m (map childless cs) ≡ cells_kept m cs
  kept_childless same [] = refl
  kept_childless same (c ∷ cs) = λ i. together m (cell_childless m same c i) (kept_childless same cs i)

  -- what was counted of what is said of cells is, once closed, the cells' statistic
  pub own_stat : (k : StatKind) (s : Shape) (owns : List Own) (cells : List Cell) (kept : Kept P) (found : Stat) → ((c : Cell) → m.of_cell (childless c) ≡ m.of_cell c)
      → ((cs : List Cell) → length cs ≤ 2 ^ 62 → stat_of_kept m (cells_kept m cs) ≡ stat k cs) → k ≡ kind_of s → AreOwn owns cells → length cells ≤ 2 ^ 62
      → kept ≡ cells_kept m (own_cells owns) → found ≡ stat_of_kept m kept → found ≡ stat (kind_of s) cells
  own_stat k s owns cells kept found same are kind own few counted statistic_of =
      statistic_of ∙ ap (stat_of_kept m) (counted ∙ ap (cells_kept m) own ∙ kept_childless same cells) ∙ are cells few ∙ ap (λ (j : StatKind). stat j cells) kind

  -- ---- counting one after the other

  pub owns_none : (k : Kept P) (xs : List Own) (i : ℕ) → length xs ≤ i
      → together m k (cells_kept m (own_cells (drop i xs))) ≡ cells_kept m (own_cells xs) → k ≡ cells_kept m (own_cells xs)
  owns_none k xs i h e = sym (none_together m k) ∙ ap (λ (ys : List Own). together m k (cells_kept m (own_cells ys))) (sym (drop_all i xs h)) ∙ e

  pub owns_more : (k : Kept P) (xs : List Own) (i : ℕ) (d : Own) → i < length xs
      → together m k (cells_kept m (own_cells (drop i xs))) ≡ cells_kept m (own_cells xs)
      → together m (together m k (cell_kept m (own_cell (get_or xs i d)))) (cells_kept m (own_cells (drop (i + 1) xs))) ≡ cells_kept m (own_cells xs)
  owns_more k xs i d h e =
      together_assoc m k (cell_kept m (own_cell (get_or xs i d))) (cells_kept m (own_cells (drop (i + 1) xs)))
      ∙ ap (λ (ys : List Own). together m k (cells_kept m (own_cells ys))) (sym (drop_more xs i d h)) ∙ e

  pub owns_fit : (k : Kept P) (xs : List Own) (i : ℕ) (d : Own) → i < length xs → length xs ≤ 2 ^ 62
      → together m k (cells_kept m (own_cells (drop i xs))) ≡ cells_kept m (own_cells xs)
      → k.count + bit (is_value (own_cell (get_or xs i d))) ≤ 2 ^ 62
  owns_fit k xs i d h most e =
      let whole = ap (λ (t : Kept P). t.count) (owns_more k xs i d h e) in
      let all = cells_kept_count m (own_cells xs) in
      omega (arith, few_values (own_cells xs), owns_long xs)

-- each cell that is said is of the kind
pub own_kind : (k : StatKind) (xs : List Own) (i : ℕ) (d : Own) → i < length xs → All (λ c. is_of k c ≡ true) (own_cells xs) → is_of k (own_cell (get_or xs i d)) ≡ true
own_kind k xs i d h all = ap (is_of k) (sym (get_or-map own_cell xs i d null h)) ∙ all i null (omega (arith, owns_long xs))
