-- The entries of groups, one after the other.
use Rattle.std.proofs.Common.{◌≡◌, ℕ, ◌+◌, ◌-◌, ◌≤◌, min, Option, Some, List, [], ◌∷◌, ◌++◌, length, take, drop, refl, sym, ap, ◌∙◌, subst, arith, inl, inr, length-append}
use Rattle.std.proofs.lemmas.List.{take-append-drop}
use Rattle.orc_positions.specs.RunStarts.{start_of_stream}
use Rattle.orc_positions.specs.declared.run_start.RunStart.{RunStart}
use Rattle.orc_wire.specs.declared.row_index.RowIndexEntry.{RowIndexEntry}
use Rattle.orc_values.specs.Cells.{Cell, values}
use Rattle.orc_values.specs.Shapes.{Shape}
use Rattle.orc_values.specs.declared.own.Own.{Own}
use Rattle.orc_stats.specs.Kinds.{kind_of}
use Rattle.orc_stats.specs.Messages.{message_of}
use Rattle.orc_stats.specs.Statistics.{stat}
use Rattle.orc_stats.specs.declared.stat.Stat.{Stat}
use Rattle.orc_column_reader.specs.Starting.{AreStreams}
use Rattle.orc_column_reader.specs.Stripe.{Streams, IsColumn}
use Rattle.orc_column_reader.specs.declared.starting.ColumnStreams.{ColumnStreams}
use Rattle.orc_row_groups.specs.Bounds.{bound_at, AreBounds, before_group, group_of}
use Rattle.orc_row_index.specs.EntryText.{IsEntryText}
use Rattle.orc_row_index.specs.OwnCells.{AreSpelledOwn}
use Rattle.orc_row_groups.specs.OwnCells.{own_cells, AreOwn}
use Rattle.orc_row_index.specs.Positions.{ArePositions, writer, AreWrittenPositions, AddsPositions}
use Rattle.orc_row_groups.specs.Counts.{octets, most, AreCounted}
use Rattle.orc_row_index.specs.RowIndex.{IsWrittenEntry, AreEntries}
use Rattle.orc_row_index.specs.RunStreams.{RunStream, present_runs, value_bytes}
use Rattle.orc_row_index.specs.Walking.{runs, lent_bytes, ArePlaced, BeginsBefore, HavePositions, WalkedBefore}
use Rattle.orc_row_groups.specs.declared.counts.Counts.{Counts}
use Rattle.orc_row_index.specs.declared.placed.PlacedStreams.{PlacedStreams}
use Rattle.orc_row_index.specs.declared.walk.Walk.{Walk}
use Rattle.orc_row_index.proofs.ColumnPlaces.{column_there}
use Rattle.orc_row_groups.proofs.Counted.{values_more}
use Rattle.orc_row_index.proofs.EntryTexts.{AreAdded, none_added, one_added}
use Rattle.orc_row_index.proofs.StreamPlaces.{starts_before, later_before}
use Rattle.orc_values.proofs.Lists.{pushed_get}
use Rattle.orc_row_groups.proofs.Groups.{cells_between, bound_up, counted_own, group_behind}

pub entries_more : (s : Shape) (x : Streams) (cells : List Cell) (bounds : List ℕ) (n : ℕ) (entries : List RowIndexEntry) (entry : RowIndexEntry) → AreEntries s x cells bounds n entries
    → IsWrittenEntry s x (before_group cells bounds n) (group_of cells bounds n) entry → AreEntries s x cells bounds (n + 1) (entries ++ entry ∷ [])
entries_more s x cells bounds n entries entry h last = record {
  counted = length-append entries (entry ∷ []) ∙ ap (λ (k : ℕ). k + 1) h.counted;
  each = λ g e at. elim (pushed_get entries entry g e at) [
    | inl old ↦ h.each g e old
    | inr new ↦
        let here : n ≡ g = sym h.counted ∙ sym new.0 in
        subst (λ (k : ℕ). IsWrittenEntry s x (before_group cells bounds k) (group_of cells bounds k) e) here
        (subst (λ (y : RowIndexEntry). IsWrittenEntry s x (before_group cells bounds n) (group_of cells bounds n) y) new.1 last)
  ];
}

-- The first groups have their entries behind what was there; counts and walk are those of the cells before the next one.
pub record Stands (s : Shape) (streams : ColumnStreams) (cells : List Cell) (bounds : List ℕ) (placed : PlacedStreams) (group : ℕ) (old new : List ℕ) (counts : Counts) (walk : Walk) : Type 0 where
  pub entries : List RowIndexEntry
  pub are : (x : Streams) → AreStreams x streams → AreEntries s x cells bounds group entries
  pub added : AreAdded entries old new
  pub counted : AreCounted counts (before_group cells bounds group)
  pub walked : WalkedBefore (runs placed.present) (runs placed.own) walk (before_group cells bounds group)

-- the column's streams spell the cells
abbrev pub Spelled : Shape → ColumnStreams → List Cell → Type 0
Spelled s streams cells = (x : Streams) × AreStreams x streams × IsColumn s x cells

-- these are the ones of them that have positions
abbrev pub Placed : Shape → ColumnStreams → PlacedStreams → Type 0
Placed s streams placed = (x : Streams) → AreStreams x streams → ArePlaced s x placed

-- the streams that have positions have the places behind each front of the cells
pub front_there : (s : Shape) (streams : ColumnStreams) (cells : List Cell) (placed : PlacedStreams) (start : ℕ) → Spelled s streams cells → Placed s streams placed
    → HavePositions (runs placed.present) (lent_bytes placed.content) (runs placed.own) (take start cells)
front_there s streams cells placed start h p =
    let x = h.0 in
    let are = p x h.1 in
    let there = column_there s x cells (take start cells) (drop start cells) (sym (take-append-drop start cells)) h.2 in
    subst (λ (y : RunStream). HavePositions y (lent_bytes placed.content) (runs placed.own) (take start cells)) (sym are.present_is)
    (subst (λ (y : Option (List ℕ)). HavePositions (present_runs (x.stream 0)) y (runs placed.own) (take start cells)) (sym are.content_is)
    (subst (λ (y : RunStream). HavePositions (present_runs (x.stream 0)) (value_bytes s x) y (take start cells)) (sym are.own_is) there))

pub written_in : (s : Shape) (x : Streams) (placed : PlacedStreams) (before : List Cell) (ps : List ℕ) → ArePlaced s x placed
    → ArePositions writer (runs placed.present) (lent_bytes placed.content) (runs placed.own) before ps → AreWrittenPositions s x before ps
written_in s x placed before ps are h =
    subst (λ (y : RunStream). ArePositions writer (present_runs (x.stream 0)) (value_bytes s x) y before ps) are.own_is
    (subst (λ (y : Option (List ℕ)). ArePositions writer (present_runs (x.stream 0)) y (runs placed.own) before ps) are.content_is
    (subst (λ (y : RunStream). ArePositions writer y (lent_bytes placed.content) (runs placed.own) before ps) are.present_is h))

at_start : (c : RunStream) (run_start : RunStart) (n : ℕ) → run_start ≡ start_of_stream → BeginsBefore c start_of_stream n → BeginsBefore c run_start n
at_start c run_start n e h = subst (λ (m : RunStart). BeginsBefore c m n) (sym e) h

-- a walk from the start of both streams has come no further than no cells
pub walk_begins : (s : Shape) (streams : ColumnStreams) (cells : List Cell) (placed : PlacedStreams) (w : Walk) → Spelled s streams cells → Placed s streams placed → w.present ≡ start_of_stream → w.own ≡ start_of_stream
    → WalkedBefore (runs placed.present) (runs placed.own) w (take 0 cells)
walk_begins s streams cells placed w h p wp wo =
    let there = front_there s streams cells placed 0 h p in
    record {
      in_present = at_start (runs placed.present) w.present 0 wp (starts_before (runs placed.present) 0 0 there.in_present);
      in_own = at_start (runs placed.own) w.own 0 wo (starts_before (runs placed.own) 0 0 there.in_own);
    }

-- what is walked to no further than a front is walked to no further than a longer one
pub walked_to : (present own : RunStream) (walk : Walk) (cells : List Cell) (at start : ℕ) → at ≤ start → WalkedBefore present own walk (take at cells) → WalkedBefore present own walk (take start cells)
walked_to present own walk cells at start le h =
    let e = cells_between cells at start le in
    let more = take (start - at) (drop at cells) in
    record {
      in_present = later_before present walk.present (length (take at cells)) (length (take start cells)) (omega (arith, ap length e, length-append (take at cells) more)) h.in_present;
      in_own = later_before own walk.own (length (values (take at cells))) (length (values (take start cells))) (omega (arith, ap (λ cs. length (values cs)) e, values_more (take at cells) more)) h.in_own;
    }

-- no group yet: the cells before the first one are counted
pub stands_none : (s : Shape) (streams : ColumnStreams) (owns part : List Own) (cells : List Cell) (bounds : List ℕ) (placed : PlacedStreams) (old : List ℕ) (k m : Counts) (w : Walk) → AreSpelledOwn s streams owns cells → Placed s streams placed
    → AreOwn part (before_group cells bounds 0) → (k.cells ≡ 0) × (k.values ≡ 0) × (k.octets ≡ 0)
    → m.cells ≡ k.cells + length (own_cells part) → m.values ≡ k.values + length (values (own_cells part)) → m.octets ≡ min most (k.octets + octets (own_cells part))
    → w.present ≡ start_of_stream → w.own ≡ start_of_stream → Stands s streams cells bounds placed 0 old old m w
stands_none s streams owns part cells bounds placed old k m w h p own zeros c v o wp wo =
    let nothing : AreCounted k [] = record { cells_are = zeros.0; values_are = zeros.1; octets_are = omega (arith, zeros.2) } in
    record {
      entries = [];
      are = λ x h. record { counted = refl; each = λ g e at. absurd cc };
      added = none_added old;
      counted = counted_own k m [] part (before_group cells bounds 0) own nothing c v o;
      walked = walked_to (runs placed.present) (runs placed.own) w cells 0 (bound_at (length cells) bounds 0) (omega arith) (walk_begins s streams cells placed w h.spelled p wp wo);
    }

pub stands_more : (s : Shape) (streams : ColumnStreams) (part : List Own) (cells : List Cell) (bounds : List ℕ) (placed : PlacedStreams) (group : ℕ) (old mid new : List ℕ) (k m : Counts) (w v : Walk) (told : Stat)
    → AreBounds (length cells) bounds → Placed s streams placed → Stands s streams cells bounds placed group old mid k w → AreOwn part (group_of cells bounds group)
    → m.cells ≡ k.cells + length (own_cells part) → m.values ≡ k.values + length (values (own_cells part)) → m.octets ≡ min most (k.octets + octets (own_cells part))
    → WalkedBefore (runs placed.present) (runs placed.own) v (before_group cells bounds group)
    → told ≡ stat (kind_of s) (group_of cells bounds group)
    → AddsPositions (IsEntryText (runs placed.present) (lent_bytes placed.content) (runs placed.own) (before_group cells bounds group) told) mid new
    → Stands s streams cells bounds placed (group + 1) old new m v
stands_more s streams part cells bounds placed group old mid new k m w v told b p h own cs vs os walked says put =
    let text = put.1 in
    let at = bound_at (length cells) bounds group in
    record {
      entries = h.entries ++ text.entry ∷ [];
      are = λ x is. entries_more s x cells bounds group h.entries text.entry (h.are x is) (record {
        positions = written_in s x placed (take at cells) text.entry.positions (p x is) text.positions;
        statistics = text.statistics ∙ ap (λ (t : Stat). Some (message_of t)) says;
      });
      added = one_added h.entries text.entry old mid new put.0 h.added text.bounded text.text_is put.2;
      counted = subst (λ (ys : List Cell). AreCounted m ys) (sym (group_behind cells bounds group b)) (counted_own k m (take at cells) part (group_of cells bounds group) own h.counted cs vs os);
      walked = walked_to (runs placed.present) (runs placed.own) v cells at (bound_at (length cells) bounds (group + 1)) (bound_up (length cells) bounds group b) walked;
    }
