-- The indexes of columns, one after the other.
use Rattle.std.proofs.Common.{◌≡◌, ℕ, zero, suc, ◌+◌, ◌<◌, ◌≤◌, Some, List, [], ◌∷◌, ◌++◌, length, slice_get, refl, sym, ap, ◌∙◌, subst, arith, inl, inr, append-nil, append_assoc, length-append}
use Rattle.orc_values.specs.Shapes.{Shape, shape_at}
use Rattle.orc_values.specs.Cells.{Cell}
use Rattle.orc_values.specs.Columns.{cells}
use Rattle.orc_row_index.specs.RowIndex.{IsWrittenIndex}
use Rattle.orc_stripe_writer.specs.declared.body.Body.{Body}
use Rattle.orc_stripe_writer.specs.Firsts.{firsts_of}
use Rattle.orc_row_groups.specs.Groups.{starts_of_groups, bounds_of}
use Rattle.orc_stripe_writer.specs.IndexSteps.{AddsIndexIf}
use Rattle.orc_stripe_writer.specs.Indexes.{streams_written, index_line, index_lines, index_bytes, HaveIndexes, AddsIndex}
use Rattle.orc_stripe_writer.specs.WrittenColumn.{Written}
use Rattle.orc_stripe_writer.specs.WrittenStripe.{indexed_columns}
use Rattle.orc_stripe_writer.proofs.WrittenReads.{column_at, there}
use Rattle.orc_values.proofs.Lists.{pushed_get}
use Rattle.orc_row_groups.specs.Bounds.{AreBounds}
use Rattle.orc_row_groups.proofs.GroupLemmas.{starts_are_bounds}

-- ---- lists

pub get_within : {X : Type 0} (xs : List X) (c : ℕ) (x : X) → slice_get xs c ≡ Some x → c < length xs
get_within [] c x h = cc
get_within (y ∷ xs) zero x h = omega arith
get_within (y ∷ xs) (suc c) x h = omega (arith, get_within xs c x h)

pub same_some : {X : Type 0} (x y : X) → Some x ≡ Some y → x ≡ y
same_some x y e = cc

index_bytes-append : (ts : List (List ℕ)) (t : List ℕ) → index_bytes (ts ++ t ∷ []) ≡ index_bytes ts ++ t
index_bytes-append [] t = append-nil t
index_bytes-append (u ∷ ts) t = ap (λ bs. u ++ bs) (index_bytes-append ts t) ∙ sym (append_assoc u (index_bytes ts) t)

index_lines-append : (b : ℕ) (ts : List (List ℕ)) (t : List ℕ) (n : ℕ) → b + length ts ≡ n → index_lines b (ts ++ t ∷ []) ≡ index_lines b ts ++ index_line n t ∷ []
index_lines-append b [] t n e = let here : b ≡ n = omega (arith, e) in λ i. index_line (here i) t ∷ []
index_lines-append b (u ∷ ts) t n e = ap (λ ls. index_line b u ∷ ls) (index_lines-append (suc b) ts t n (omega (arith, e)))

index_lines-long : (b : ℕ) (ts : List (List ℕ)) → length (index_lines b ts) ≡ length ts
index_lines-long b [] = refl
index_lines-long b (t ∷ ts) = ap suc (index_lines-long (suc b) ts)

-- ---- one more index

pub no_indexes : (s : Shape) (rows : List Cell) (firsts : List ℕ) (columns : List Written) (body : Body) → body.bytes.items ≡ [] → body.directory.items ≡ [] → HaveIndexes s rows firsts columns 0 body
no_indexes s rows firsts columns body bytes lines = record { indexes = []; are = record { counted = refl; each = λ c w t p q. absurd cc }; bytes_are = bytes; lines_are = lines }

as_many_lines : (s : Shape) (rows : List Cell) (firsts : List ℕ) (columns : List Written) (n : ℕ) (body : Body) → HaveIndexes s rows firsts columns n body → length body.directory.items ≡ n
as_many_lines s rows firsts columns n body h = ap length h.lines_are ∙ index_lines-long 0 h.indexes ∙ h.are.counted

-- the index that is expected of a column
abbrev pub IsIndexOf : Shape → List Cell → List ℕ → ℕ → Written → List ℕ → Type 0
IsIndexOf s rows firsts c w text = IsWrittenIndex (shape_at s c) (streams_written w) (cells s c rows) (bounds_of s c rows firsts) text

more_indexes : (s : Shape) (rows : List Cell) (firsts : List ℕ) (columns : List Written) (n : ℕ) (old new : Body) → n < length columns → HaveIndexes s rows firsts columns n old
    → AddsIndex (IsIndexOf s rows firsts n (column_at columns n)) old new → HaveIndexes s rows firsts columns (n + 1) new
more_indexes s rows firsts columns n old new less h a =
    let many = as_many_lines s rows firsts columns n old h in
    let first : 0 + length h.indexes ≡ n = omega (arith, h.are.counted) in
    record {
      indexes = h.indexes ++ a.text ∷ [];
      are = record {
        counted = length-append h.indexes (a.text ∷ []) ∙ ap (λ (j : ℕ). j + 1) h.are.counted;
        each = λ c w t p q. elim (pushed_get h.indexes a.text c t q) [
          | inl old ↦ h.are.each c w t p old
          | inr fresh ↦
              let here : n ≡ c = sym h.are.counted ∙ sym fresh.0 in
              let same : column_at columns n ≡ w = same_some (column_at columns n) w (sym (there columns n less) ∙ ap (slice_get columns) here ∙ p) in
              subst (λ (j : ℕ). IsIndexOf s rows firsts j w t) here (subst (λ (v : Written). IsIndexOf s rows firsts n v t) same (subst (λ (y : List ℕ). IsIndexOf s rows firsts n (column_at columns n) y) fresh.1 a.is))
        ];
      };
      bytes_are = a.bytes ∙ ap (λ bs. bs ++ a.text) h.bytes_are ∙ sym (index_bytes-append h.indexes a.text);
      lines_are = a.directory ∙ (λ i. h.lines_are i ++ index_line (many i) a.text ∷ []) ∙ sym (index_lines-append 0 h.indexes a.text n first);
    }

-- ---- more columns, and then the index of the last

column_behind : (ws : List Written) (w : Written) (n : ℕ) → length ws ≡ n → column_at (ws ++ w ∷ []) n ≡ w
column_behind [] w zero e = refl
column_behind [] w (suc n) e = absurd (omega (arith, e))
column_behind (v ∷ ws) w zero e = absurd (omega (arith, e))
column_behind (v ∷ ws) w (suc n) e = column_behind ws w n (omega (arith, e))

-- of the columns that have an index nothing changes where one more is written
one_more_column : (s : Shape) (rows : List Cell) (firsts : List ℕ) (columns : List Written) (w : Written) (n : ℕ) (body : Body) → n ≤ length columns → HaveIndexes s rows firsts columns n body
    → HaveIndexes s rows firsts (columns ++ w ∷ []) n body
one_more_column s rows firsts columns w n body le h = record {
  indexes = h.indexes;
  are = record {
    counted = h.are.counted;
    each = λ c v t p q. elim (pushed_get columns w c v p) [
      | inl old ↦ h.are.each c v t old q
      | inr fresh ↦ absurd (let less = get_within h.indexes c t q in omega (arith, less, h.are.counted, le, fresh.0))
    ];
  };
  bytes_are = h.bytes_are;
  lines_are = h.lines_are;
}

pub indexes_grow : (stride : ℕ) (s : Shape) (rows : List Cell) (firsts : List ℕ) (columns : List Written) (w : Written) (n : ℕ) (old new : Body) → length columns ≡ n
    → HaveIndexes s rows firsts columns (indexed_columns stride n) old → AddsIndexIf stride (IsIndexOf s rows firsts n w) old new → HaveIndexes s rows firsts (columns ++ w ∷ []) (indexed_columns stride (n + 1)) new
indexes_grow zero s rows firsts columns w n old new many h a =
    subst (λ (b : Body). HaveIndexes s rows firsts (columns ++ w ∷ []) 0 b) (sym a) (one_more_column s rows firsts columns w 0 old (omega arith) h)
indexes_grow (suc k) s rows firsts columns w n old new many h a =
    more_indexes s rows firsts (columns ++ w ∷ []) n old new (omega (arith, length-append columns (w ∷ []), many)) (one_more_column s rows firsts columns w n old (omega (arith, many)) h)
    (subst (λ (v : Written). AddsIndex (IsIndexOf s rows firsts n v) old new) (sym (column_behind columns w n many)) a)

-- without a stride no group is told of, and there is no index
pub indexed_by_starts : (stride : ℕ) (s : Shape) (rows : List Cell) (columns : List Written) (n : ℕ) (body : Body) → HaveIndexes s rows (firsts_of stride (length rows)) columns (indexed_columns stride n) body
    → HaveIndexes s rows (starts_of_groups stride (length rows)) columns (indexed_columns stride n) body
indexed_by_starts zero s rows columns n body h = record {
  indexes = h.indexes;
  are = record { counted = h.are.counted; each = λ c w t p q. absurd (let less = get_within h.indexes c t q in omega (arith, less, h.are.counted)) };
  bytes_are = h.bytes_are;
  lines_are = h.lines_are;
}
indexed_by_starts (suc k) s rows columns n body h = h

-- ---- the rows with which groups begin

-- so are those of a stripe's indexes, of which there are none without a stride
pub firsts_are_bounds : (stride rows : ℕ) → AreBounds rows (firsts_of stride rows)
firsts_are_bounds zero rows g = omega arith
firsts_are_bounds (suc k) rows g = starts_are_bounds (suc k) rows (omega arith) g
