-- The readers of all columns.
use Rattle.std.proofs.Common.{◌≡◌, true, ℕ, zero, suc, ◌<◌, Some, List, [], ◌∷◌, ◌++◌, length, refl, sym, ap, ◌∙◌, subst, arith, inl, inr, ◌⊎◌, slice_get, length-append}
use Rattle.orc_values.specs.Cells.{Cell}
use Rattle.orc_values.specs.Columns.{cells}
use Rattle.orc_values.specs.Fits.{fits}
use Rattle.orc_values.specs.Shapes.{Shape, width, shape_at}
use Rattle.orc_values.proofs.Together.{cells-append}
use Rattle.orc_values.proofs.Lists.{pushed_get}
use Rattle.orc_wire.specs.declared.row_index.RowIndexEntry.{RowIndexEntry}
use Rattle.orc_column_reader.specs.Columns.{CellsLeft}
use Rattle.orc_column_reader.specs.declared.column.ColumnReader.{ColumnReader}
use Rattle.orc_column_reader.specs.Stripe.{Streams, IsColumn}
use Rattle.orc_column_reader.proofs.ByNumber.{all-front}
use Rattle.orc_group_reader.specs.Columns.{ColumnIsLeft, Turns}
use Rattle.orc_group_reader.specs.ReadersAt.{ColumnAt}
use Rattle.orc_group_reader.specs.Rows.{RowsTurn}
use Rattle.orc_group_reader.proofs.ByColumn.{left_by_tree}

-- the column that is at hand
pub turned_here : (s own : Shape) (x y : ℕ → Streams) (entries : List RowIndexEntry) (before after : List Cell) (c : ℕ) (entry : RowIndexEntry) (positions : List ℕ) → own ≡ shape_at s c → positions ≡ entry.positions
    → RowsTurn s x y before after entries → c < width s → slice_get entries c ≡ Some entry → Turns own (x c) (y c) (cells s c before) (cells s c after) positions
turned_here s own x y entries before after c entry positions e ps t lt at =
    let here : Turns (shape_at s c) (x c) (y c) (cells s c before) (cells s c after) entry.positions =
    record {
      spelled = subst (λ (cs : List Cell). IsColumn (shape_at s c) (x c) cs) (cells-append s c before after) (t.spelled.column c lt);
      agree = t.agree c entry at;
    } in
    subst (λ (z : Shape). Turns z (x c) (y c) (cells s c before) (cells s c after) positions) (sym e)
    (subst (λ (ns : List ℕ). Turns (shape_at s c) (x c) (y c) (cells s c before) (cells s c after) ns) (sym ps) here)

pub one_more_left : (s own : Shape) (after : List Cell) (old new : List ColumnReader) (r : ColumnReader) (k : ℕ) → new ≡ old ++ r ∷ [] → length old ≡ k → own ≡ shape_at s k
    → ((c : ℕ) (q : ColumnReader) → slice_get old c ≡ Some q → ColumnIsLeft (shape_at s c) q (cells s c after)) → ColumnIsLeft own r (cells s k after)
    → (c : ℕ) (q : ColumnReader) → slice_get new c ≡ Some q → ColumnIsLeft (shape_at s c) q (cells s c after)
one_more_left s own after old new r k e n o all last c q at = elim (pushed_get old r c q (ap (λ t. slice_get t c) (sym e) ∙ at)) [
  | inl h ↦ all c q h
  | inr h ↦
      let i : k ≡ c = sym n ∙ sym h.0 in
      let l = subst (λ (z : Shape). ColumnIsLeft z r (cells s k after)) o last in
      subst (λ (p : ColumnReader). ColumnIsLeft (shape_at s c) p (cells s c after)) h.1 (subst (λ (j : ℕ). ColumnIsLeft (shape_at s j) r (cells s j after)) i l)
]

pub all_left : (s : Shape) (x y : ℕ → Streams) (entries : List RowIndexEntry) (before after : List Cell) (readers : List ColumnReader) → RowsTurn s x y before after entries → length readers ≡ width s
    → ((c : ℕ) (q : ColumnReader) → slice_get readers c ≡ Some q → ColumnIsLeft (shape_at s c) q (cells s c after)) → CellsLeft s readers after
all_left s x y entries before after readers t n all = left_by_tree s readers after (record {
  counted = n;
  fit = (all-front (λ (c : Cell). fits c s ≡ true) before after t.spelled.fit).1;
  few = λ c lt. let k = (t.spelled.column c lt).few in omega (arith, k, ap length (cells-append s c before after), length-append (cells s c before) (cells s c after));
  column = all;
})

pub one_more_at : (s own : Shape) (y : ℕ → Streams) (entries : List RowIndexEntry) (old new : List ColumnReader) (r : ColumnReader) (k : ℕ) (last : RowIndexEntry) → new ≡ old ++ r ∷ [] → length old ≡ k → own ≡ shape_at s k
    → slice_get entries k ≡ Some last
    → ((c : ℕ) (entry : RowIndexEntry) (q : ColumnReader) → slice_get entries c ≡ Some entry → slice_get old c ≡ Some q → ColumnAt (shape_at s c) (y c) c entry.positions q) → ColumnAt own (y k) k last.positions r
    → (c : ℕ) (entry : RowIndexEntry) (q : ColumnReader) → slice_get entries c ≡ Some entry → slice_get new c ≡ Some q → ColumnAt (shape_at s c) (y c) c entry.positions q
one_more_at s own y entries old new r k last e n o there all here c entry q found at = elim (pushed_get old r c q (ap (λ t. slice_get t c) (sym e) ∙ at)) [
  | inl h ↦ all c entry q found h
  | inr h ↦
      let i : k ≡ c = sym n ∙ sym h.0 in
      let same : last ≡ entry = some_same last entry (sym there ∙ ap (slice_get entries) i ∙ found) in
      let l = subst (λ (z : Shape). ColumnAt z (y k) k last.positions r) o here in
      subst (λ (p : ColumnReader). ColumnAt (shape_at s c) (y c) c entry.positions p) h.1
      (subst (λ (x : RowIndexEntry). ColumnAt (shape_at s c) (y c) c x.positions r) same (subst (λ (j : ℕ). ColumnAt (shape_at s j) (y j) j last.positions r) i l))
]
  where
    some_same : (a b : RowIndexEntry) → Some a ≡ Some b → a ≡ b
    some_same a b eq = cc
