-- The entries of a row index, group by group.
use Rattle.std.specs.Prelude.{MatchBool}
use Rattle.std.proofs.Common.{◌≡◌, ℕ, ◌+◌, ◌<◌, ◌≤◌, Bool, Option, Some, List, [], ◌∷◌, ◌++◌, length, take, slice_get, refl, sym, ap, ◌∙◌, subst, arith, inl, inr, ◌⊎◌, length-append}
use Rattle.orc_wire.specs.declared.row_index.RowIndexEntry.{RowIndexEntry}
use Rattle.orc_values.specs.Cells.{Cell}
use Rattle.orc_values.specs.Shapes.{Shape}
use Rattle.orc_column_reader.specs.Starting.{AreStreams}
use Rattle.orc_column_reader.specs.Stripe.{Streams, IsColumn, has_dictionary}
use Rattle.orc_directory.specs.declared.fault.StreamKind.{StreamKind}
use Rattle.orc_directory.specs.declared.fault.StreamKind.TheVariants.{Present}
use Rattle.orc_directory.specs.declared.fault.StripeFault.{StripeFault}
use Rattle.orc_column_reader.specs.declared.starting.ColumnStreams.{ColumnStreams}
use Rattle.orc_row_groups.specs.Bounds.{bound_at}
use Rattle.orc_row_index.specs.Positions.{ArePositions, AreReadPositions, reader}
use Rattle.orc_row_index.specs.RunStreams.{RunStream, present_runs, value_bytes}
use Rattle.orc_row_index.specs.Walking.{runs, lent_bytes, ArePlaced}
use Rattle.orc_row_groups.specs.declared.counts.Counts.{Counts}
use Rattle.orc_row_index.specs.declared.placed.PlacedStreams.{PlacedStreams}
use Rattle.orc_values.proofs.Lists.{pushed_get}
use Rattle.orc_row_index.specs.RunStreams.{kind_of_values}
use Rattle.orc_row_index_check.specs.ColumnTables.{FailsIn, ColumnFails}
use Rattle.orc_row_index_check.specs.CountedBefore.{AreCountedBefore}
use Rattle.orc_row_index_check.specs.Decided.{Decides, AreDecided}

-- the entries before a group are decided, of whatever cells and bounds the counts are
pub record Deciding (s : Shape) (streams : ColumnStreams) (counts : List Counts) (entries : List RowIndexEntry) (group : ℕ) (right : List Bool) : Type 0 where
  pub long : length right ≡ group
  pub each : (x : Streams) (cells : List Cell) (bounds : List ℕ) → AreStreams x streams → IsColumn s x cells → AreCountedBefore counts cells bounds (length entries) → (g : ℕ) (entry : RowIndexEntry) (b : Bool)
      → slice_get entries g ≡ Some entry → slice_get right g ≡ Some b → Decides s x cells bounds g entry.positions b

pub deciding_none : (s : Shape) (streams : ColumnStreams) (counts : List Counts) (entries : List RowIndexEntry) (right : List Bool) → right ≡ [] → Deciding s streams counts entries 0 right
deciding_none s streams counts entries right none =
    subst (λ (bs : List Bool). Deciding s streams counts entries 0 bs) (sym none) (record { long = refl; each = λ x cells bounds is column counted g entry b there at. absurd cc })

-- what is said of the streams that are walked is said of the column's
decided_in : (s : Shape) (x : Streams) (placed : PlacedStreams) (before : List Cell) (ps : List ℕ) (b : Bool) → ArePlaced s x placed
    → MatchBool b (ArePositions reader (runs placed.present) (lent_bytes placed.content) (runs placed.own) before ps)
    (ArePositions reader (runs placed.present) (lent_bytes placed.content) (runs placed.own) before ps → ⊥)
    → MatchBool b (AreReadPositions s x before ps) (AreReadPositions s x before ps → ⊥)
decided_in s x placed before ps b are h =
    subst (λ (y : RunStream). MatchBool b (ArePositions reader (present_runs (x.stream 0)) (value_bytes s x) y before ps) (ArePositions reader (present_runs (x.stream 0)) (value_bytes s x) y before ps → ⊥)) are.own_is
    (subst (λ (y : Option (List ℕ)). MatchBool b (ArePositions reader (present_runs (x.stream 0)) y (runs placed.own) before ps) (ArePositions reader (present_runs (x.stream 0)) y (runs placed.own) before ps → ⊥)) are.content_is
    (subst (λ (y : RunStream). MatchBool b (ArePositions reader y (lent_bytes placed.content) (runs placed.own) before ps) (ArePositions reader y (lent_bytes placed.content) (runs placed.own) before ps → ⊥)) are.present_is h))

pub group_decided : (s : Shape) (x : Streams) (placed : PlacedStreams) (cells : List Cell) (bounds : List ℕ) (group start : ℕ) (ps : List ℕ) (b : Bool) → ArePlaced s x placed → start ≡ bound_at (length cells) bounds group
    → MatchBool b (ArePositions reader (runs placed.present) (lent_bytes placed.content) (runs placed.own) (take start cells) ps)
    (ArePositions reader (runs placed.present) (lent_bytes placed.content) (runs placed.own) (take start cells) ps → ⊥)
    → Decides s x cells bounds group ps b
group_decided s x placed cells bounds group start ps b are at h =
    subst (λ (n : ℕ). MatchBool b (AreReadPositions s x (take n cells) ps) (AreReadPositions s x (take n cells) ps → ⊥)) at (decided_in s x placed (take start cells) ps b are h)

same_entry : (a b : RowIndexEntry) → Some a ≡ Some b → a ≡ b
same_entry a b e = cc

pub deciding_more : (s : Shape) (streams : ColumnStreams) (counts : List Counts) (entries : List RowIndexEntry) (group : ℕ) (right new : List Bool) (entry : RowIndexEntry) (b : Bool)
    → Deciding s streams counts entries group right → slice_get entries group ≡ Some entry → new ≡ right ++ b ∷ []
    → ((x : Streams) (cells : List Cell) (bounds : List ℕ) → AreStreams x streams → IsColumn s x cells → AreCountedBefore counts cells bounds (length entries) → Decides s x cells bounds group entry.positions b)
    → Deciding s streams counts entries (group + 1) new
deciding_more s streams counts entries group right new entry b h there pushed last =
    subst (λ (bs : List Bool). Deciding s streams counts entries (group + 1) bs) (sym pushed) (record {
      long = length-append right (b ∷ []) ∙ ap (λ (n : ℕ). n + 1) h.long;
      each = λ x cells bounds is column counted g e c met found. elim (pushed_get right b g c found) [
        | inl old ↦ h.each x cells bounds is column counted g e c met old
        | inr fresh ↦
            let here : group ≡ g = sym h.long ∙ sym fresh.0 in
            let same : entry ≡ e = same_entry entry e (sym there ∙ ap (slice_get entries) here ∙ met) in
            subst (λ (d : Bool). Decides s x cells bounds g e.positions d) fresh.1
            (subst (λ (y : RowIndexEntry). Decides s x cells bounds g y.positions b) same
            (subst (λ (n : ℕ). Decides s x cells bounds n entry.positions b) here (last x cells bounds is column counted)))
      ];
    })

pub deciding_end : (s : Shape) (streams : ColumnStreams) (counts : List Counts) (entries : List RowIndexEntry) (group : ℕ) (right : List Bool) (x : Streams) (cells : List Cell) (bounds : List ℕ)
    → Deciding s streams counts entries group right → group ≡ length entries → AreStreams x streams → IsColumn s x cells → AreCountedBefore counts cells bounds (length entries) → AreDecided s x cells bounds entries right
deciding_end s streams counts entries group right x cells bounds h all is column counted = record { counted = h.long ∙ all; each = h.each x cells bounds is column counted }

-- each entry has its counts
pub counts_there : (counts : List Counts) (cells : List Cell) (bounds : List ℕ) (n group : ℕ) → AreCountedBefore counts cells bounds n → group < n → length counts ≤ group → ⊥
counts_there counts cells bounds n group h lt le = omega (arith, h.counted, lt, le)

-- ---- streams that are none of runs

pub fails_in : (s : Shape) (x : Streams) (placed : PlacedStreams) (column : ℕ) (kind : StreamKind) (f : StripeFault) → ArePlaced s x placed → kind ≡ kind_of_values s (has_dictionary x)
    → FailsIn column Present (runs placed.present) f ⊎ FailsIn column kind (runs placed.own) f → ColumnFails s x column f
fails_in s x placed column kind f are k (inl h) = inl (subst (λ (y : RunStream). FailsIn column Present y f) are.present_is h)
fails_in s x placed column kind f are k (inr h) = inr (subst (λ (y : RunStream). FailsIn column (kind_of_values s (has_dictionary x)) y f) are.own_is (subst (λ (y : StreamKind). FailsIn column y (runs placed.own) f) k h))
