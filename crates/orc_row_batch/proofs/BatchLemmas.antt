-- The rows of a batch: none, one more, and what its columns say of them.
use Rattle.std.proofs.Common.{◌≡◌, ℕ, zero, suc, ◌+◌, ◌<◌, ◌≤◌, inl, inr, true, List, [], ◌∷◌, ◌++◌, length, get_or, set, map, Some, None, refl, sym, ap, ◌∙◌, arith}
use Rattle.std.proofs.lemmas.Bool.Decides.{leb_tells}
use Rattle.std.specs.Prelude.{slice_get}
use Rattle.std.proofs.lemmas.Grind.{get_or-set_at}
use Rattle.std.proofs.lemmas.List.{length-map, map-set, length-set, get_or-set_same, get_or-set_other}
use Rattle.orc_values.specs.Cells.{Cell}
use Rattle.orc_values.specs.Childless.{childless}
use Rattle.orc_values.specs.Columns.{cells}
use Rattle.orc_values.specs.Fits.{fits}
use Rattle.orc_values.specs.Shapes.{Shape, width}
use Rattle.orc_values.proofs.Deeper.{width_pos, cells-zero}
use Rattle.orc_values.proofs.Together.{cells-append}
use Rattle.orc_row_batch.specs.Batch.{kept_columns, column_cells, kept_rows, Holds}
use Rattle.orc_row_batch.specs.Kept.{KeptColumn, nothing, kept, with_cells, told}
use Rattle.orc_row_batch.specs.Keeping.{column_at, AddsOne, AddsCells}
use Rattle.orc_row_batch.specs.declared.batch.RowBatch.{RowBatch}
use Rattle.orc_row_batch.specs.declared.vector.ColumnVector.{ColumnVector}
use Rattle.orc_row_batch.proofs.KeptLemmas.{with_more, told_back}
use Rattle.orc_values.proofs.NoCells.{no_rows}
use Rattle.orc_row_batch.proofs.RowsBack.{rows_back}
use Rattle.orc_values.proofs.Lists.{all_append}

-- ---- no rows

-- all columns keep nothing
abbrev pub AreEmpty : List ColumnVector → Type 0
AreEmpty vectors = (c : ℕ) → column_at (kept_columns vectors) c ≡ nothing

pub none_held : (s : Shape) (batch : RowBatch) → length batch.columns.items ≡ width s → AreEmpty batch.columns.items → Holds s [] batch
none_held s batch wide empty = record {
  columns = wide;
  fit = tt;
  kept_cells = λ c l. empty c ∙ ap (λ cs. with_cells cs (nothing)) (sym (no_rows s c));
}

-- ---- a row more

pub one_more : (s : Shape) (rows : List Cell) (row : Cell) (old new : RowBatch) → Holds s rows old → fits row s ≡ true → length new.columns.items ≡ length old.columns.items
    → AddsCells s 0 (row ∷ []) (kept_columns old.columns.items) (kept_columns new.columns.items) → Holds s (rows ++ row ∷ []) new
one_more s rows row old new h fit wide adds = record {
  columns = wide ∙ h.columns;
  fit = all_append (λ c. fits c s ≡ true) rows (row ∷ []) h.fit (fit, tt);
  kept_cells = λ c l.
      let e : 0 + c ≡ c = omega arith in
      (rw e at (adds.added c l)) ∙ ap (with_cells (cells s c (row ∷ []))) (h.kept_cells c l) ∙ sym (with_more (cells s c rows) (cells s c (row ∷ [])) (nothing))
      ∙ ap (λ cs. with_cells cs (nothing)) (sym (cells-append s c rows (row ∷ [])));
}

-- ---- what the columns say

pub column_said : (s : Shape) (rows : List Cell) (batch : RowBatch) (c : ℕ) → Holds s rows batch → c < width s → column_cells batch c ≡ map childless (cells s c rows)
column_said s rows batch c h l = ap told (h.kept_cells c l) ∙ told_back (cells s c rows)

-- the rows that a batch has are those that it holds
pub held_rows : (s : Shape) (rows : List Cell) (batch : RowBatch) → Holds s rows batch → kept_rows s batch ≡ rows
held_rows s rows batch h =
    rows_back s (column_cells batch) 0 rows h.fit (λ c l. let e : 0 + c ≡ c = omega arith in ap (column_cells batch) e ∙ column_said s rows batch c h l)

-- there are as many as the first column has cells
pub rows_counted : (s : Shape) (rows : List Cell) (batch : RowBatch) → Holds s rows batch → length (column_at (kept_columns batch.columns.items) 0).cells ≡ length rows
rows_counted s rows batch h =
    ap (λ (k : KeptColumn). length k.cells) (h.kept_cells 0 (width_pos s)) ∙ length-map (cells s 0 rows) _ ∙ ap length (cells-zero s rows)

-- ---- columns one by one

empty_end : (vectors : List ColumnVector) (v : ColumnVector) → AreEmpty vectors → kept v ≡ nothing → AreEmpty (vectors ++ v ∷ [])
empty_end [] v h e zero = e
empty_end [] v h e (suc c) = refl
empty_end (x ∷ xs) v h e zero = h zero
empty_end (x ∷ xs) v h e (suc c) = empty_end xs v (λ d. h (suc d)) e c

pub empty_more : (old new : List ColumnVector) (v : ColumnVector) → AreEmpty old → kept v ≡ nothing → new ≡ old ++ v ∷ [] → AreEmpty new
empty_more old new v h e is = rw is (empty_end old v h e)

pub none_empty : AreEmpty []
none_empty c = refl

-- the first so many columns keep nothing
abbrev pub AreEmptyBelow : ℕ → List ColumnVector → Type 0
AreEmptyBelow n vectors = (c : ℕ) → c < n → column_at (kept_columns vectors) c ≡ nothing

pub none_below : (vectors : List ColumnVector) → AreEmptyBelow 0 vectors
none_below vectors c l = absurd (omega (arith, l))

pub below_set : (vectors : List ColumnVector) (i : ℕ) (v : ColumnVector) → AreEmptyBelow i vectors → kept v ≡ nothing → i < length vectors → AreEmptyBelow (i + 1) (set vectors i v)
below_set vectors i v h e l c b =
    let m = map-set kept vectors i v in
    let long : i < length (kept_columns vectors) = omega (arith, l, length-map vectors kept) in
    elim (leb_tells (suc c) i) [
      | inl p ↦ rw m (get_or-set_other (kept_columns vectors) i c (kept v) (nothing) (λ same. omega (arith, same, p.1)) ∙ h c p.1)
      | inr p ↦ rw m (get_or-set_at (kept_columns vectors) i c (kept v) (nothing) (omega (arith, b, p.1)) long ∙ e)
    ]

past_end : (vectors : List ColumnVector) (c : ℕ) → length vectors ≤ c → column_at (kept_columns vectors) c ≡ nothing
past_end [] c l = refl
past_end (x ∷ xs) zero l = absurd (omega (arith, l))
past_end (x ∷ xs) (suc c) l = past_end xs c (omega (arith, l))

pub all_below : (vectors : List ColumnVector) (n : ℕ) → AreEmptyBelow n vectors → length vectors ≤ n → AreEmpty vectors
all_below vectors n h l c = elim (leb_tells (suc c) n) [ inl p ↦ h c p.1 | inr p ↦ past_end vectors c (omega (arith, l, p.1)) ]

-- ---- a column by its number

pub column_here : (vectors : List ColumnVector) (i : ℕ) (v : ColumnVector) → i < length vectors → v ≡ get_or vectors i v → column_at (kept_columns vectors) i ≡ kept v
column_here [] i v l is = absurd (omega (arith, l))
column_here (x ∷ xs) zero v l is = ap kept (sym is)
column_here (x ∷ xs) (suc i) v l is = column_here xs i v (omega (arith, l)) is

pub column_set : (vectors : List ColumnVector) (i : ℕ) (old new : ColumnVector) (cell : Cell) → i < length vectors → old ≡ get_or vectors i old → kept new ≡ with_cells (cell ∷ []) (kept old)
    → AddsOne i cell (kept_columns vectors) (kept_columns (set vectors i new))
column_set vectors i old new cell l is e =
    let m = map-set kept vectors i new in
    let long : i < length (kept_columns vectors) = omega (arith, l, length-map vectors kept) in
    record {
      same = ap length m ∙ length-set (kept_columns vectors) i (kept new);
      added = rw m (get_or-set_same (kept_columns vectors) i (kept new) (nothing) long ∙ e ∙ ap (with_cells (cell ∷ [])) (sym (column_here vectors i old l is)));
      others = λ k other. rw m (get_or-set_other (kept_columns vectors) i k (kept new) (nothing) other);
    }

pub first_column : (vectors : List ColumnVector) (v : ColumnVector) → Some v ≡ slice_get vectors 0 → column_at (kept_columns vectors) 0 ≡ kept v
first_column [] v e = cc
first_column (x ∷ xs) v e = let same : x ≡ v = cc in ap kept same

pub no_column : (vectors : List ColumnVector) → None ≡ slice_get vectors 0 → column_at (kept_columns vectors) 0 ≡ nothing
no_column [] e = refl
no_column (x ∷ xs) e = cc

-- the same of columns that stand in the batch
pub none_left : (s : Shape) (batch : RowBatch) (vectors : List ColumnVector) → batch.columns.items ≡ vectors → length vectors ≡ width s → AreEmpty vectors → Holds s [] batch
none_left s batch vectors is wide empty = none_held s batch (ap length is ∙ wide) (rw is empty)
