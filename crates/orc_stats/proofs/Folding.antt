-- Tallies of lists, one after the other.
use Rattle.std.proofs.Common.{◌≡◌, refl, sym, ◌∙◌, ap, arith, ℕ, suc, ◌+◌, ◌^◌, ◌<◌, ◌≤◌, List, [], ◌∷◌, length, drop, get_or, sum_by, true, All, Result, Ok, Err, IfErr, OnOk, subst}
use Rattle.std.proofs.lemmas.List.{drop_more, drop_all, get_or-map}
use Rattle.orc_values.specs.Cells.{Cell, null, leaf, list, struct, pairs, is_value, values}
use Rattle.orc_values.specs.Views.{view}
use Rattle.orc_values.specs.Lent.{lent_cells}
use Rattle.orc_values.specs.declared.lent.Lent.{Lent}
use Rattle.orc_stats.specs.declared.stat.Stat.{Stat}
use Rattle.orc_stats.specs.declared.kind.StatKind.{StatKind}
use Rattle.orc_stats.specs.declared.fault.StatFault.{StatFault}
use Rattle.orc_stats.specs.declared.fault.StatFault.TheVariants.{OutOfMemory}
use Rattle.orc_stats.specs.Kinds.{is_of, body_is_of}
use Rattle.orc_stats.specs.Faults.{JoinFault}
use Rattle.orc_stats.specs.Statistics.{bit}
use Rattle.orc_stats.specs.Tallies.{Measure, Kept, together, cell_kept, stat_kept, cells_kept, stats_kept}
use Rattle.orc_stats.specs.laws.TallyLaws.{together_assoc, none_together, cells_kept_count, stats_kept_count}

pub few_values : (cells : List Cell) → length (values cells) ≤ length cells
few_values [] = omega arith
few_values (null ∷ cells) = let h = few_values cells in omega arith
few_values (leaf a ∷ cells) = let h = few_values cells in omega arith
few_values (list cs ∷ cells) = let h = few_values cells in omega arith
few_values (struct cs ∷ cells) = let h = few_values cells in omega arith
few_values (pairs ps ∷ cells) = let h = few_values cells in omega arith

pub few_lent : (xs : List Lent) → length (lent_cells xs) ≡ length xs
few_lent [] = refl
few_lent (x ∷ xs) = ap suc (few_lent xs)

module _ {P : Type 0} (m : Measure P) where
  pub cells_none : (k : Kept P) (xs : List Lent) (i : ℕ) → length xs ≤ i
      → together m k (cells_kept m (lent_cells (drop i xs))) ≡ cells_kept m (lent_cells xs) → k ≡ cells_kept m (lent_cells xs)
  cells_none k xs i h e = sym (none_together m k) ∙ ap (λ ys. together m k (cells_kept m (lent_cells ys))) (sym (drop_all i xs h)) ∙ e

  pub cells_more : (k : Kept P) (xs : List Lent) (i : ℕ) (x : Lent) → i < length xs → x ≡ get_or xs i x
      → together m k (cells_kept m (lent_cells (drop i xs))) ≡ cells_kept m (lent_cells xs)
      → together m (together m k (cell_kept m (view x.0.now))) (cells_kept m (lent_cells (drop (i + 1) xs))) ≡ cells_kept m (lent_cells xs)
  cells_more k xs i x h is e =
      together_assoc m k (cell_kept m (view x.0.now)) (cells_kept m (lent_cells (drop (i + 1) xs)))
      ∙ ap (λ ys. together m k (cells_kept m (lent_cells ys))) (sym (drop_more xs i x h ∙ ap (λ y. y ∷ drop (i + 1) xs) (sym is))) ∙ e

  pub cells_fit : (k : Kept P) (xs : List Lent) (i : ℕ) (x : Lent) → i < length xs → x ≡ get_or xs i x → length xs ≤ 2 ^ 62
      → together m k (cells_kept m (lent_cells (drop i xs))) ≡ cells_kept m (lent_cells xs)
      → k.count + bit (is_value (view x.0.now)) ≤ 2 ^ 62
  cells_fit k xs i x h is most e =
      let whole = ap (λ t. t.count) (cells_more k xs i x h is e) in
      let all = cells_kept_count m (lent_cells xs) in
      omega (arith, few_values (lent_cells xs), few_lent xs)

  pub stats_none : (k : Kept P) (ss : List Stat) (i : ℕ) → length ss ≤ i
      → together m k (stats_kept m (drop i ss)) ≡ stats_kept m ss → k ≡ stats_kept m ss
  stats_none k ss i h e = sym (none_together m k) ∙ ap (λ ys. together m k (stats_kept m ys)) (sym (drop_all i ss h)) ∙ e

  pub stats_more : (k : Kept P) (ss : List Stat) (i : ℕ) (x : Stat) → i < length ss → x ≡ get_or ss i x
      → together m k (stats_kept m (drop i ss)) ≡ stats_kept m ss
      → together m (together m k (stat_kept m x)) (stats_kept m (drop (i + 1) ss)) ≡ stats_kept m ss
  stats_more k ss i x h is e =
      together_assoc m k (stat_kept m x) (stats_kept m (drop (i + 1) ss))
      ∙ ap (λ ys. together m k (stats_kept m ys)) (sym (drop_more ss i x h ∙ ap (λ y. y ∷ drop (i + 1) ss) (sym is))) ∙ e

  -- the values so far and those of the next statistic are among all
  pub stats_exceed : (k : Kept P) (ss : List Stat) (i : ℕ) (x : Stat) → i < length ss → x ≡ get_or ss i x
      → together m k (stats_kept m (drop i ss)) ≡ stats_kept m ss → k.count + x.count ≤ sum_by (λ s. s.count) ss
  stats_exceed k ss i x h is e =
      let whole = ap (λ t. t.count) (stats_more k ss i x h is e) in
      let all = stats_kept_count m ss in
      omega arith

-- each cell that is lent is of the kind
pub lent_kind : (k : StatKind) (xs : List Lent) (i : ℕ) (x : Lent) → i < length xs → x ≡ get_or xs i x
    → All (λ c. is_of k c ≡ true) (lent_cells xs) → is_of k (view x.0.now) ≡ true
lent_kind k xs i x h is all =
    ap (λ (y : Lent). is_of k (view y.0.now)) is
    ∙ ap (is_of k) (sym (get_or-map (λ (r : Lent). view r.0.now) xs i x null h))
    ∙ all i null (omega (arith, few_lent xs))

pub stat_kind : (k : StatKind) (ss : List Stat) (i : ℕ) (x : Stat) → x ≡ get_or ss i x → i < length ss
    → All (λ s. body_is_of k s.body ≡ true) ss → body_is_of k x.body ≡ true
stat_kind k ss i x is h all = ap (λ (y : Stat). body_is_of k y.body) is ∙ all i x h

pub memory_fault : (T : Type 0) (ss : List Stat) (r : Result Stat StatFault) → sum_by (λ s. s.count) ss ≤ 2 ^ 62
    → IfErr r (λ f. (f ≡ OutOfMemory) × T) → IfErr r (JoinFault T ss)
memory_fault T ss (Ok s) few h = tt
memory_fault T ss (Err f) few h = subst (JoinFault T ss) (sym h.0) (h.1, few)

pub on_ok : (Q : Type 0) (r : Result Stat StatFault) → Q → OnOk r Q
on_ok Q (Ok s) q = q
on_ok Q (Err f) q = tt
