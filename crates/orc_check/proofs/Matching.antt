-- Bytes that begin with the entries of a written index, group by group.
use Rattle.std.proofs.Common.{◌≡◌, ◌∙◌, ℕ, ◌+◌, ◌<◌, ◌≤◌, ◌^◌, Some, List, [], ◌∷◌, ◌++◌, length, take, slice_get, refl, sym, ap, subst, arith, append_assoc}
use Rattle.std.proofs.lemmas.List.{append-nil}
use Rattle.orc_wire.specs.CanonicalMessages.{row_index_text}
use Rattle.orc_wire.specs.Messages.{row_index}
use Rattle.orc_wire.specs.Spells.{Spells}
use Rattle.orc_wire.specs.declared.row_index.RowIndexEntry.{RowIndexEntry}
use Rattle.orc_values.specs.Cells.{Cell}
use Rattle.orc_values.specs.Fits.{RowsFit}
use Rattle.orc_values.specs.Shapes.{Shape}
use Rattle.orc_stats.specs.Messages.{message_of}
use Rattle.orc_stats.specs.declared.stat.Stat.{Stat}
use Rattle.orc_column_reader.specs.Starting.{AreStreams}
use Rattle.orc_column_reader.specs.Stripe.{Streams}
use Rattle.orc_values.specs.Limits.{cell_limit}
use Rattle.orc_column_reader.specs.declared.starting.ColumnStreams.{ColumnStreams}
use Rattle.orc_row_groups.specs.Bounds.{bound_at, before_group}
use Rattle.orc_row_index.specs.EntryText.{IsEntryText}
use Rattle.orc_row_index.specs.Positions.{AddsPositions}
use Rattle.orc_row_index.specs.RowIndex.{AreEntries, IsWrittenIndex}
use Rattle.orc_row_index.specs.Walking.{runs, lent_bytes, HavePositions, WalkedBefore}
use Rattle.orc_row_groups.specs.Counts.{AreCounted}
use Rattle.orc_row_index.specs.declared.placed.PlacedStreams.{PlacedStreams}
use Rattle.orc_row_index.specs.declared.walk.Walk.{Walk}
use Rattle.orc_row_index.proofs.EntryTexts.{texts_join, bounded_join, index_spelled}
use Rattle.orc_row_index.proofs.Groups.{front_there, walked_to, written_in, entries_more, Placed, Spelled}
use Rattle.orc_row_groups.proofs.Groups.{bound_up}
use Rattle.orc_row_index.proofs.WrittenIndex.{entries_whole}
use Rattle.orc_column_walk.specs.declared.found.GroupFound.{GroupFound}
use Rattle.orc_check.specs.OwnGroups.{AreGroupsOf}

-- Of some cells the first groups' entries stand in front, and the walk has come no further than the next group.
pub record MatchesBy (s : Shape) (x : Streams) (cells : List Cell) (bounds : List ℕ) (placed : PlacedStreams) (n : ℕ) (bytes rest : List ℕ) (walk : Walk) : Type 0 where
  pub entries : List RowIndexEntry
  pub are : AreEntries s x cells bounds n entries
  pub bounded : row_index_text.bounded (record { entries = entries })
  pub parts : bytes ≡ row_index_text.text (record { entries = entries }) ++ rest
  pub at : ℕ
  pub begun : at ≤ bound_at (length cells) bounds n
  pub walked : WalkedBefore (runs placed.present) (runs placed.own) walk (take at cells)

-- the same of whatever cells the groups are of
abbrev pub Matches : Shape → ColumnStreams → List GroupFound → PlacedStreams → ℕ → List ℕ → List ℕ → Walk → Type 0
Matches s streams groups placed n bytes rest walk =
    (x : Streams) (cells : List Cell) (bounds : List ℕ) → AreStreams x streams → AreGroupsOf s x cells bounds groups → MatchesBy s x cells bounds placed n bytes rest walk

module _ (s : Shape) (streams : ColumnStreams) (groups : List GroupFound) (placed : PlacedStreams) (is_placed : Placed s streams placed) where
  pub none_matched : (bytes : List ℕ) (walk : Walk) → ((cells : List Cell) → Spelled s streams cells → WalkedBefore (runs placed.present) (runs placed.own) walk (take 0 cells)) → Matches s streams groups placed 0 bytes bytes walk
  none_matched bytes walk begins x cells bounds is h = record {
    entries = [];
    are = record { counted = refl; each = λ g e at. absurd cc };
    bounded = tt;
    parts = refl;
    at = 0;
    begun = omega arith;
    walked = begins cells (x, is, h.column);
  }

  -- what the entry of the next group asks for
  abbrev pub Ready : ℕ → GroupFound → Walk → List Cell → Type 0
  Ready n group walk before =
      AreCounted group.before before
      × HavePositions (runs placed.present) (lent_bytes placed.content) (runs placed.own) before
      × WalkedBefore (runs placed.present) (runs placed.own) walk before

  module _ (n : ℕ) (group : GroupFound) (there : slice_get groups n ≡ Some group) (bytes mid : List ℕ) (walk : Walk) where
    ready : (x : Streams) (cells : List Cell) (bounds : List ℕ) → AreStreams x streams → AreGroupsOf s x cells bounds groups → MatchesBy s x cells bounds placed n bytes mid walk → Ready n group walk (before_group cells bounds n)
    ready x cells bounds is h m = (
      (h.are n group there).before,
      front_there s streams cells placed (bound_at (length cells) bounds n) (x, is, h.column) is_placed,
      walked_to (runs placed.present) (runs placed.own) walk cells m.at (bound_at (length cells) bounds n) m.begun m.walked,
    )

    pub next_ready : Matches s streams groups placed n bytes mid walk → (x : Streams) × AreStreams x streams × ((cells : List Cell) × (bounds : List ℕ) × AreGroupsOf s x cells bounds groups) → (before : List Cell) × Ready n group walk before
    next_ready m h = (before_group h.2.0 h.2.1 n, ready h.0 h.2.0 h.2.1 h.1 h.2.2 (m h.0 h.2.0 h.2.1 h.1 h.2.2))

    pub next_matched : (old text rest : List ℕ) (next : Walk) → Matches s streams groups placed n bytes mid walk → old ≡ [] → mid ≡ text ++ rest
        → ((before : List Cell) → AreCounted group.before before → HavePositions (runs placed.present) (lent_bytes placed.content) (runs placed.own) before → AddsPositions (IsEntryText (runs placed.present) (lent_bytes placed.content) (runs placed.own) before group.stat) old text)
        → ((before : List Cell) → AreCounted group.before before → WalkedBefore (runs placed.present) (runs placed.own) next before)
        → Matches s streams groups placed (n + 1) bytes rest next
    next_matched old text rest next all none split put walked x cells bounds is h =
        let m = all x cells bounds is h in
        let before = before_group cells bounds n in
        let r = ready x cells bounds is h m in
        let added = put before r.0 r.1 in
        let own = added.1 in
        let text_is : text ≡ row_index_text.text (record { entries = own.entry ∷ [] }) = added.2 ∙ ap (λ (t : List ℕ). t ++ added.0) none ∙ own.text_is in
        let front = row_index_text.text (record { entries = m.entries }) in
        record {
          entries = m.entries ++ own.entry ∷ [];
          are = entries_more s x cells bounds n m.entries own.entry m.are (record {
            positions = written_in s x placed before own.entry.positions (is_placed x is) own.positions;
            statistics = own.statistics ∙ ap (λ (t : Stat). Some (message_of t)) (h.are n group there).stat_is;
          });
          bounded = bounded_join m.entries (own.entry ∷ []) m.bounded own.bounded;
          parts =
              m.parts ∙ ap (λ (t : List ℕ). front ++ t) (split ∙ ap (λ (t : List ℕ). t ++ rest) text_is)
              ∙ sym (append_assoc front (row_index_text.text (record { entries = own.entry ∷ [] })) rest)
              ∙ ap (λ (t : List ℕ). t ++ rest) (sym (texts_join m.entries (own.entry ∷ [])));
          at = bound_at (length cells) bounds n;
          begun = bound_up (length cells) bounds n h.ascending;
          walked = walked before r.0;
        }

  no_bytes : (bytes : List ℕ) → length bytes ≡ 0 → bytes ≡ []
  no_bytes [] e = refl
  no_bytes (b ∷ bytes) e = absurd (omega (arith, e))

  -- all bytes are matched
  pub all_matched : (n : ℕ) (bytes rest : List ℕ) (walk : Walk) → Matches s streams groups placed n bytes rest walk → n ≡ length groups → length rest ≡ 0 → length bytes < 2 ^ 64
      → (x : Streams) (cells : List Cell) (bounds : List ℕ) → AreStreams x streams → RowsFit s cells → length cells < cell_limit → AreGroupsOf s x cells bounds groups → IsWrittenIndex s x cells bounds bytes
  all_matched n bytes rest walk all end none fits x cells bounds is fit few h =
      let m = all x cells bounds is h in
      let text = row_index_text.text (record { entries = m.entries }) in
      let whole_is : bytes ≡ text = m.parts ∙ ap (λ (t : List ℕ). text ++ t) (no_bytes rest none) ∙ append-nil text in
      let are : AreEntries s x cells bounds (length bounds) m.entries = subst (λ (k : ℕ). AreEntries s x cells bounds k m.entries) (end ∙ h.counted) m.are in
      let whole = entries_whole s x cells bounds (length bounds) m.entries fit few are in
      let short : length text < 2 ^ 64 = omega (arith, fits, ap length whole_is) in
      record {
        entries = m.entries;
        are = are;
        text_is = whole_is;
        spelled = subst (λ (t : List ℕ). Spells row_index 0 0 t (record { entries = m.entries })) (sym whole_is) (index_spelled m.entries m.bounded whole short);
      }
