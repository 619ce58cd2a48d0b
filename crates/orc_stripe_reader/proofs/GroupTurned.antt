-- A stripe's columns that are entered at the positions of a group.
use Rattle.std.proofs.Common.{◌≡◌, ℕ, ◌*◌, Some, List, [], ◌∷◌, ◌++◌, inl, inr, length, take, drop, sym, ap, ◌∙◌, subst, arith, slice_get}
use Rattle.std.proofs.lemmas.List.{take-append-drop}
use Rattle.std.proofs.lemmas.Option.{slice_get_within}
use Rattle.orc_values.specs.Cells.{Cell}
use Rattle.orc_values.specs.Columns.{cells}
use Rattle.orc_values.specs.Shapes.{Shape, width, shape_at}
use Rattle.orc_wire.specs.declared.row_index.RowIndexEntry.{RowIndexEntry}
use Rattle.orc_column_reader.specs.Stripe.{Streams, SpellRows, columns_of}
use Rattle.orc_group_reader.specs.Columns.{AgreeFromPositions}
use Rattle.orc_column_reader.specs.declared.column.ColumnReader.{ColumnReader}
use Rattle.orc_directory.specs.declared.fault.StripeFault.{StripeFault}
use Rattle.orc_group_reader.specs.ReadersAt.{ReadersAt}
use Rattle.orc_group_reader.specs.Refusals.{ColumnRefused}
use Rattle.orc_group_reader.specs.Rows.{RowsTurn, EntriesRefused}
use Rattle.orc_values.proofs.Lists.{pushed_get}
use Rattle.orc_stripe_reader.specs.Opened.{Opened}
use Rattle.orc_stripe_reader.specs.GroupCursors.{IsGroupEntry, StartsGroup, HasEntries, GroupRefused, EntersGroup}
use Rattle.orc_group_reader.proofs.ColumnsBehind.{entry_there}

both_parts : (s : Shape) (x : ℕ → Streams) (count n : ℕ) (rows : List Cell) → SpellRows s x count rows → SpellRows s x (length (take n rows ++ drop n rows)) (take n rows ++ drop n rows)
both_parts s x count n rows h = subst (λ (rs : List Cell). SpellRows s x (length rs) rs) (sym (take-append-drop n rows)) (subst (λ (k : ℕ). SpellRows s x k rows) (sym h.counted) h)

pub group_turns : (view : Opened) (x : ℕ → Streams) (rows : List Cell) (group : ℕ) (entries : List RowIndexEntry) → StartsGroup view x rows group → length entries ≡ width view.schema
    → ((c : ℕ) (found entry : RowIndexEntry) → slice_get entries c ≡ Some found → IsGroupEntry view c group entry → found ≡ entry)
    → RowsTurn view.schema x (columns_of view.footer view.bytes) (take (group * view.stride) rows) (drop (group * view.stride) rows) entries
group_turns view x rows group entries h counted only =
    let n = group * view.stride in
    record {
      spelled = both_parts view.schema x view.info.number_of_rows n rows h.spelled;
      agree = λ c entry at.
          let k = h.column c (omega (arith, slice_get_within entries c entry at, counted)) in
          let same : entry ≡ k.0 = only c entry k.0 at k.1 in
          subst (λ (e : RowIndexEntry). AgreeFromPositions (shape_at view.schema c) (x c) (columns_of view.footer view.bytes c) (cells view.schema c (take n rows)) e.positions) (sym same) k.2;
    }

-- ---- an entry more

pub one_more_entry : (view : Opened) (group : ℕ) (old new : List RowIndexEntry) (last : RowIndexEntry) (k : ℕ) → new ≡ old ++ last ∷ [] → length old ≡ k
    → ((c : ℕ) (entry : RowIndexEntry) → slice_get old c ≡ Some entry → IsGroupEntry view c group entry) → IsGroupEntry view k group last
    → (c : ℕ) (entry : RowIndexEntry) → slice_get new c ≡ Some entry → IsGroupEntry view c group entry
one_more_entry view group old new last k e n all is c entry at = elim (pushed_get old last c entry (ap (λ (t : List RowIndexEntry). slice_get t c) (sym e) ∙ at)) [
  | inl h ↦ all c entry h
  | inr h ↦ subst (λ (i : ℕ). IsGroupEntry view i group entry) (sym n ∙ sym h.0) (subst (λ (x : RowIndexEntry). IsGroupEntry view k group x) h.1 is)
]

pub one_more_only : (view : Opened) (group : ℕ) (old new : List RowIndexEntry) (last : RowIndexEntry) (k : ℕ) → new ≡ old ++ last ∷ [] → length old ≡ k
    → ((c : ℕ) (found entry : RowIndexEntry) → slice_get old c ≡ Some found → IsGroupEntry view c group entry → found ≡ entry) → ((entry : RowIndexEntry) → IsGroupEntry view k group entry → last ≡ entry)
    → (c : ℕ) (found entry : RowIndexEntry) → slice_get new c ≡ Some found → IsGroupEntry view c group entry → found ≡ entry
one_more_only view group old new last k e n all one c found entry at is = elim (pushed_get old last c found (ap (λ (t : List RowIndexEntry). slice_get t c) (sym e) ∙ at)) [
  | inl h ↦ all c found entry h is
  | inr h ↦ sym h.1 ∙ one entry (subst (λ (i : ℕ). IsGroupEntry view i group entry) (h.0 ∙ n) is)
]

-- ---- all entries

pub all_there : (view : Opened) (group : ℕ) (entries : List RowIndexEntry) → length entries ≡ width view.schema
    → ((c : ℕ) (entry : RowIndexEntry) → slice_get entries c ≡ Some entry → IsGroupEntry view c group entry) → HasEntries view group
all_there view group entries n all c lt = let k = entry_there entries c (omega (arith, n, lt)) in (k.0, all c k.0 k.1)

pub group_refused : (view : Opened) (group : ℕ) (s : Shape) (bytes : List ℕ) (given entries : List RowIndexEntry) (f : StripeFault) → s ≡ view.schema → bytes ≡ view.bytes → given ≡ entries
    → ((c : ℕ) (entry : RowIndexEntry) → slice_get entries c ≡ Some entry → IsGroupEntry view c group entry) → EntriesRefused s (columns_of view.footer bytes) given f → GroupRefused view group f
group_refused view group s bytes given entries f es eb eg all h =
    let c = h.0 in (
      c,
      h.1,
      all c h.1 (ap (λ (t : List RowIndexEntry). slice_get t c) (sym eg) ∙ h.2),
      subst (λ (t : Shape). ColumnRefused (shape_at t c) (columns_of view.footer view.bytes c) c h.1.positions f) es
          (subst (λ (b : List ℕ). ColumnRefused (shape_at s c) (columns_of view.footer b c) c h.1.positions f) eb h.4),
    )

pub enters_group : (view : Opened) (group : ℕ) (s : Shape) (bytes : List ℕ) (given entries : List RowIndexEntry) (readers : List ColumnReader) → s ≡ view.schema → bytes ≡ view.bytes → given ≡ entries → length entries ≡ width view.schema
    → ((c : ℕ) (entry : RowIndexEntry) → slice_get entries c ≡ Some entry → IsGroupEntry view c group entry) → ReadersAt s (columns_of view.footer bytes) given readers → EntersGroup view group readers
enters_group view group s bytes given entries readers es eb eg counted all h = record {
  entries = entries;
  counted = counted;
  of_group = all;
  stand = subst (λ (t : Shape). ReadersAt t (columns_of view.footer view.bytes) entries readers) es
      (subst (λ (b : List ℕ). ReadersAt s (columns_of view.footer b) entries readers) eb (subst (λ (es : List RowIndexEntry). ReadersAt s (columns_of view.footer bytes) es readers) eg h));
}
