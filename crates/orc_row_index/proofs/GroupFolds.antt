-- Cells are counted group by group, and the groups come together to all of them.
use Rattle.std.specs.Prelude.{All}
use Rattle.std.proofs.Common.{◌≡◌, ℕ, ◌+◌, ◌-◌, ◌≤◌, List, length, take, drop, sym, ap, ◌∙◌, subst, arith, length-drop}
use Rattle.std.proofs.lemmas.List.{take_all}
use Rattle.std.proofs.lemmas.List.Elements.{All-take, All-drop}
use Rattle.orc_values.specs.Cells.{Cell}
use Rattle.orc_values.specs.Shapes.{Shape}
use Rattle.orc_values.specs.declared.own.Own.{Own}
use Rattle.orc_column_reader.specs.declared.starting.ColumnStreams.{ColumnStreams}
use Rattle.orc_stats.specs.Tallies.{Measure, Kept, together, cells_kept}
use Rattle.orc_stats.specs.laws.TallyLaws.{cells_kept-append, cells_kept_count}
use Rattle.orc_row_groups.specs.Bounds.{bound_at, AreBounds, before_group, group_of}
use Rattle.orc_row_index.specs.OwnCells.{AreSpelledOwn}
use Rattle.orc_row_groups.specs.OwnCells.{own_cells}
use Rattle.orc_row_groups.specs.declared.counts.Counts.{Counts}
use Rattle.orc_row_index.specs.declared.placed.PlacedStreams.{PlacedStreams}
use Rattle.orc_row_index.specs.declared.walk.Walk.{Walk}
use Rattle.orc_row_index.proofs.Groups.{Stands}
use Rattle.orc_row_groups.proofs.Groups.{group_behind, take_short}
use Rattle.orc_values.proofs.Lists.{values_few}
use Rattle.orc_row_groups.proofs.BoundLemmas.{bound_past}

-- what is so of each cell is so of each of some of them
pub part_so : (P : Cell → Type 0) (cells part : List Cell) (n at : ℕ) → part ≡ take n (drop at cells) → All P cells → All P part
part_so P cells part n at e h = subst (λ (cs : List Cell). All P cs) (sym e) (All-take P n (drop at cells) (All-drop P at cells h))

pub part_short : (cells part : List Cell) (n at : ℕ) → part ≡ take n (drop at cells) → length part ≤ length cells
part_short cells part n at e = omega (arith, ap length e, take_short n (drop at cells), length-drop at cells)

module _ {P : Type 0} (m : Measure P) where
  -- what is kept of the cells before a group
  pub kept_first : (cells : List Cell) (bounds : List ℕ) (first : ℕ) (front : List Cell) (whole : Kept P) → whole ≡ cells_kept m front → front ≡ take (first - 0) (drop 0 cells) → first ≡ bound_at (length cells) bounds 0
      → whole ≡ cells_kept m (before_group cells bounds 0)
  kept_first cells bounds first front whole is part at =
      let all : first - 0 ≡ first = omega arith in
      is ∙ ap (cells_kept m) (part ∙ ap (λ (n : ℕ). take n cells) (all ∙ at))

  -- what the cells before a group and its own come to together
  pub kept_more : (cells : List Cell) (bounds : List ℕ) (group : ℕ) (whole own : Kept P) → AreBounds (length cells) bounds → whole ≡ cells_kept m (before_group cells bounds group) → own ≡ cells_kept m (group_of cells bounds group)
      → together m whole own ≡ cells_kept m (before_group cells bounds (group + 1))
  kept_more cells bounds group whole own rise so is =
      (λ i. together m (so i) (is i)) ∙ sym (cells_kept-append m (before_group cells bounds group) (group_of cells bounds group)) ∙ ap (cells_kept m) (sym (group_behind cells bounds group rise))

  pub group_room : (cells : List Cell) (bounds : List ℕ) (group most : ℕ) (whole own : Kept P) → AreBounds (length cells) bounds → length cells ≤ most → whole ≡ cells_kept m (before_group cells bounds group)
      → own ≡ cells_kept m (group_of cells bounds group) → whole.count + own.count ≤ most
  group_room cells bounds group most whole own rise few so is =
      let front = before_group cells bounds (group + 1) in
      let count : whole.count + own.count ≡ (cells_kept m front).count = ap (λ (t : Kept P). t.count) (kept_more cells bounds group whole own rise so is) in
      omega (arith, count, cells_kept_count m front, values_few front, take_short (bound_at (length cells) bounds (group + 1)) cells, few)

  pub kept_all : (cells : List Cell) (bounds : List ℕ) (group : ℕ) (whole : Kept P) → length bounds ≤ group → whole ≡ cells_kept m (before_group cells bounds group) → whole ≡ cells_kept m cells
  kept_all cells bounds group whole all so =
      so ∙ ap (λ (n : ℕ). cells_kept m (take n cells)) (bound_past (length cells) bounds group all) ∙ ap (cells_kept m) (take_all (length cells) cells (omega arith))

  -- In front of a group: whatever the cells are of which this is said, the groups before it have their entries; and the
  -- cells before it are counted.
  pub record AreEntered (s : Shape) (streams : ColumnStreams) (owns : List Own) (bounds : List ℕ) (placed : PlacedStreams) (group : ℕ) (old new : List ℕ) (counts : Counts) (walk : Walk) (whole : Kept P) : Type 0 where
    pub stands : (cells : List Cell) → AreSpelledOwn s streams owns cells → Stands s streams cells bounds placed group old new counts walk
    pub kept : whole ≡ cells_kept m (before_group (own_cells owns) bounds group)
