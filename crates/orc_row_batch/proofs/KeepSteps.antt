-- One walk of a row, cell by cell, puts each behind the cells of its own column.
use Rattle.std.proofs.Common.{◌≡◌, ℕ, zero, suc, ◌+◌, ◌-◌, ◌<◌, ◌≤◌, inl, inr, List, [], ◌∷◌, ◌++◌, length, get_or, map, flat_map, take, drop, Option, string_bytes, refl, sym, ap, ◌∙◌, subst, arith, add-one, append-nil, drop-cons}
use Rattle.std.proofs.Math.Seq.{take-suc}
use Rattle.std.proofs.lemmas.Bool.Decides.{leb_tells}
use Rattle.std.proofs.lemmas.List.{map-append, take_all, drop_all}
use Rattle.orc_values.specs.declared.kind.Scalar.{Scalar}
use Rattle.orc_values.specs.Shapes.{Shape, scalar, list_of, map_of, struct_of, Fields, no_field, field, width, widths}
use Rattle.orc_values.specs.Cells.{Cell, parts, keys_in, values_in, values}
use Rattle.orc_values.specs.Columns.{cells, cells_within}
use Rattle.orc_values.specs.Views.{view, views, paired, shape, fields as fields_view}
use Rattle.orc_values.specs.declared.tree.Field.{Field}
use Rattle.orc_values.specs.declared.value.Value.{Value}
use Rattle.orc_values.specs.declared.value.MapPair.{MapPair}
use Rattle.orc_values.proofs.ByColumn.{parts_values, keys_values, values_values}
use Rattle.orc_values.proofs.Listed.{fields_from, widths_from}
use Rattle.orc_values.proofs.Together.{cells-append}
use Rattle.orc_row_batch.specs.Kept.{KeptColumn, with_cells}
use Rattle.orc_row_batch.specs.Keeping.{column_at, AddsOne, AddsCells, AddsFields}
use Rattle.orc_row_batch.proofs.KeptLemmas.{with_none, with_more}
use Rattle.orc_values.proofs.NoCells.{no_rows, one_struct}

-- ---- rows one after the other

no_cell_more : (s : Shape) (c : ℕ) (k : KeptColumn) → k ≡ with_cells (cells s c []) k
no_cell_more s c k = sym (ap (λ cs. with_cells cs k) (no_rows s c) ∙ with_none k)

pub adds_none : (s : Shape) (place : ℕ) (columns : List KeptColumn) → AddsCells s place [] columns columns
adds_none s place columns = record {
  same = refl;
  added = λ c l. no_cell_more s c (column_at columns (place + c));
  others = λ k h. refl;
}

pub adds_more : (s : Shape) (place : ℕ) (a b : List Cell) (old mid new : List KeptColumn) → AddsCells s place a old mid → AddsCells s place b mid new → AddsCells s place (a ++ b) old new
adds_more s place a b old mid new p q = record {
  same = q.same ∙ p.same;
  added = λ c l.
      let k = column_at old (place + c) in
      q.added c l ∙ ap (with_cells (cells s c b)) (p.added c l) ∙ sym (with_more (cells s c a) (cells s c b) k) ∙ ap (λ cs. with_cells cs k) (sym (cells-append s c a b));
  others = λ k h. q.others k h ∙ p.others k h;
}

-- ---- a cell, and what is in it

pub adds_scalar : (k : Scalar) (o : List ℕ) (place : ℕ) (cell : Cell) (old new : List KeptColumn) → AddsOne place cell old new → AddsCells (scalar k o) place (cell ∷ []) old new
adds_scalar k o place cell old new p = record {
  same = p.same;
  added = λ c l. let e : place + c ≡ place = omega arith in rw e p.added;
  others = λ i h. p.others i (λ e. elim h [ inl a ↦ omega arith | inr b ↦ omega arith ]);
}

module _ (s : Shape) (o : List ℕ) (place : ℕ) (cell : Cell) (old mid new : List KeptColumn) (p : AddsOne place cell old mid) (q : AddsCells s (place + 1) (parts cell) mid new) where
  list_added : (c : ℕ) → c < 1 + width s → column_at new (place + c) ≡ with_cells (cells (list_of s o) c (cell ∷ [])) (column_at old (place + c))
  list_added zero l =
      let e : place + 0 ≡ place = omega arith in
      let n = q.others place (inl (omega arith)) in
      rw (e, n) p.added
  list_added (suc c) l =
      let e : place + suc c ≡ (place + 1) + c = omega arith in
      let f : cells (list_of s o) (suc c) (cell ∷ []) ≡ cells s c (parts cell) = ap (cells s c) (parts_values (cell ∷ []) ∙ append-nil (parts cell)) in
      let n = p.others ((place + 1) + c) (λ w. omega (arith, w)) in
      rw (e, f, ← n) (q.added c (omega arith))

  pub adds_list : AddsCells (list_of s o) place (cell ∷ []) old new
  adds_list = record {
    same = q.same ∙ p.same;
    added = list_added;
    others = λ k h. q.others k (elim h [ inl a ↦ inl (omega arith) | inr b ↦ inr (omega arith) ]) ∙ p.others k (λ w. elim h [ inl a ↦ omega arith | inr b ↦ omega arith ]);
  }

module _ (k v : Shape) (o : List ℕ) (place : ℕ) (cell : Cell) (old one mid new : List KeptColumn) (p : AddsOne place cell old one)
    (q : AddsCells k (place + 1) (keys_in cell) one mid) (r : AddsCells v (place + 1 + width k) (values_in cell) mid new) where
  map_added : (c : ℕ) → c < 1 + (width k + width v) → column_at new (place + c) ≡ with_cells (cells (map_of k v o) c (cell ∷ [])) (column_at old (place + c))
  map_added zero l =
      let e : place + 0 ≡ place = omega arith in
      let n = r.others place (inl (omega arith)) in
      let m = q.others place (inl (omega arith)) in
      rw (e, n, m) p.added
  map_added (suc c) l =
      elim (leb_tells (suc c) (width k)) [
        | inl t ↦
            let e : place + suc c ≡ (place + 1) + c = omega arith in
            let f : cells k c (flat_map keys_in (values (cell ∷ []))) ≡ cells k c (keys_in cell) = ap (cells k c) (keys_values (cell ∷ []) ∙ append-nil (keys_in cell)) in
            let n = r.others ((place + 1) + c) (inl (omega (arith, t.1))) in
            let m = p.others ((place + 1) + c) (λ w. omega (arith, w)) in
            rw (t.0, f, e, n, ← m) (q.added c t.1)
        | inr t ↦
            let e : place + suc c ≡ (place + 1 + width k) + (c - width k) = omega (arith, t.1) in
            let f : cells v (c - width k) (flat_map values_in (values (cell ∷ []))) ≡ cells v (c - width k) (values_in cell) = ap (cells v (c - width k)) (values_values (cell ∷ []) ∙ append-nil (values_in cell)) in
            let n = q.others ((place + 1 + width k) + (c - width k)) (inr (omega arith)) in
            let m = p.others ((place + 1 + width k) + (c - width k)) (λ w. omega (arith, w)) in
            rw (t.0, f, e, ← m, ← n) (r.added (c - width k) (omega (arith, l, t.1)))
      ]

  pub adds_map : AddsCells (map_of k v o) place (cell ∷ []) old new
  adds_map = record {
    same = r.same ∙ q.same ∙ p.same;
    added = map_added;
    others = λ i h.
        r.others i (elim h [ inl a ↦ inl (omega arith) | inr b ↦ inr (omega arith) ])
        ∙ q.others i (elim h [ inl a ↦ inl (omega arith) | inr b ↦ inr (omega arith) ])
        ∙ p.others i (λ w. elim h [ inl a ↦ omega arith | inr b ↦ omega arith ]);
  }

module _ (fs : Fields) (o : List ℕ) (place : ℕ) (cell : Cell) (old mid new : List KeptColumn) (p : AddsOne place cell old mid) (q : AddsFields fs (place + 1) (parts cell) mid new) where
  struct_added : (c : ℕ) → c < 1 + widths fs → column_at new (place + c) ≡ with_cells (cells (struct_of fs o) c (cell ∷ [])) (column_at old (place + c))
  struct_added zero l =
      let e : place + 0 ≡ place = omega arith in
      let n = q.others place (inl (omega arith)) in
      rw (e, n) p.added
  struct_added (suc c) l =
      let e : place + suc c ≡ (place + 1) + c = omega arith in
      let f : cells (struct_of fs o) (suc c) (cell ∷ []) ≡ cells_within fs c (parts cell ∷ []) = one_struct fs c cell in
      let n = p.others ((place + 1) + c) (λ w. omega (arith, w)) in
      rw (e, f, ← n) (q.added c (omega arith))

  pub adds_struct : AddsCells (struct_of fs o) place (cell ∷ []) old new
  adds_struct = record {
    same = q.same ∙ p.same;
    added = struct_added;
    others = λ k h. q.others k (elim h [ inl a ↦ inl (omega arith) | inr b ↦ inr (omega arith) ]) ∙ p.others k (λ w. elim h [ inl a ↦ omega arith | inr b ↦ omega arith ]);
  }

-- ---- the fields of a struct

pub adds_no_field : (place : ℕ) (parts : List Cell) (columns : List KeptColumn) → AddsFields no_field place parts columns columns
adds_no_field place parts columns = record { same = refl; added = λ c l. absurd (omega arith); others = λ k h. refl }

module _ (name : List ℕ) (s : Shape) (fs : Fields) (place : ℕ) (part : Cell) (rest : List Cell) (old mid new : List KeptColumn)
    (p : AddsCells s place (part ∷ []) old mid) (q : AddsFields fs (place + width s) rest mid new) where
  field_added : (c : ℕ) → c < width s + widths fs → column_at new (place + c) ≡ with_cells (cells_within (field name s fs) c ((part ∷ rest) ∷ [])) (column_at old (place + c))
  field_added c l =
      elim (leb_tells (suc c) (width s)) [
        | inl t ↦ let n = q.others (place + c) (inl (omega (arith, t.1))) in rw (t.0, n) (p.added c t.1)
        | inr t ↦
            let e : place + c ≡ (place + width s) + (c - width s) = omega (arith, t.1) in
            let n = p.others ((place + width s) + (c - width s)) (inr (omega arith)) in
            rw (t.0, e, ← n) (q.added (c - width s) (omega (arith, t.1)))
      ]

  pub adds_field : AddsFields (field name s fs) place (part ∷ rest) old new
  adds_field = record {
    same = q.same ∙ p.same;
    added = field_added;
    others = λ k h. q.others k (elim h [ inl a ↦ inl (omega arith) | inr b ↦ inr (omega arith) ]) ∙ p.others k (elim h [ inl a ↦ inl (omega arith) | inr b ↦ inr (omega arith) ]);
  }

module _ (name : List ℕ) (s : Shape) (fs : Fields) (place : ℕ) (old new : List KeptColumn) (q : AddsFields fs (place + width s) [] old new) where
  lacking_added : (c : ℕ) → c < width s + widths fs → column_at new (place + c) ≡ with_cells (cells_within (field name s fs) c ([] ∷ [])) (column_at old (place + c))
  lacking_added c l =
      elim (leb_tells (suc c) (width s)) [
        | inl t ↦
            let n = q.others (place + c) (inl (omega (arith, t.1))) in
            rw (t.0, n) (no_cell_more s c (column_at old (place + c)))
        | inr t ↦
            let e : place + c ≡ (place + width s) + (c - width s) = omega (arith, t.1) in
            rw (t.0, e) (q.added (c - width s) (omega (arith, t.1)))
      ]

  -- a struct without this field and those behind it
  pub adds_lacking : AddsFields (field name s fs) place [] old new
  adds_lacking = record {
    same = q.same;
    added = lacking_added;
    others = λ k h. q.others k (elim h [ inl a ↦ inl (omega arith) | inr b ↦ inr (omega arith) ]);
  }

-- ---- the walk's steps, as the code takes them

pub list_kept : (x s : Shape) (o : List ℕ) (place : ℕ) (cell : Cell) (old mid new : List KeptColumn) → x ≡ list_of s o → AddsOne place cell old mid → AddsCells s (place + 1) (parts cell) mid new → AddsCells x place (cell ∷ []) old new
list_kept x s o place cell old mid new e p q = rw e (adds_list s o place cell old mid new p q)

pub map_kept : (x k v : Shape) (o : List ℕ) (place : ℕ) (cell : Cell) (old one mid new : List KeptColumn) → x ≡ map_of k v o → AddsOne place cell old one
    → AddsCells k (place + 1) (keys_in cell) one mid → AddsCells v (place + 1 + width k) (values_in cell) mid new → AddsCells x place (cell ∷ []) old new
map_kept x k v o place cell old one mid new e p q r = rw e (adds_map k v o place cell old one mid new p q r)

pub struct_kept : (x : Shape) (fs : Fields) (o : List ℕ) (place : ℕ) (cell : Cell) (old mid new : List KeptColumn) → x ≡ struct_of fs o → AddsOne place cell old mid → AddsFields fs (place + 1) (parts cell) mid new → AddsCells x place (cell ∷ []) old new
struct_kept x fs o place cell old mid new e p q = rw e (adds_struct fs o place cell old mid new p q)

-- a part more
pub part_kept : (s : Shape) (place : ℕ) (rows : List (Option Value)) (i : ℕ) (r : Option Value) (old mid new : List KeptColumn) → i < length rows → r ≡ get_or rows i r
    → AddsCells s place (views (take i rows)) old mid → AddsCells s place (view r ∷ []) mid new → AddsCells s place (views (take (i + 1) rows)) old new
part_kept s place rows i r old mid new l is p q =
    let t : take (i + 1) rows ≡ take i rows ++ r ∷ [] = ap (λ n. take n rows) (add-one i) ∙ take-suc rows i r l ∙ ap (λ x. take i rows ++ x ∷ []) (sym is) in
    let e : views (take (i + 1) rows) ≡ views (take i rows) ++ view r ∷ [] = ap views t ∙ map-append view (take i rows) (r ∷ []) in
    rw e (adds_more s place (views (take i rows)) (view r ∷ []) old mid new p q)

-- a pair more, of which one part is kept here
pub pair_kept : (f : Cell × Cell → Cell) (s : Shape) (place : ℕ) (ps : List MapPair) (i : ℕ) (p : MapPair) (c : Cell) (old mid new : List KeptColumn) → i < length ps → p ≡ get_or ps i p → f (paired p) ≡ c
    → AddsCells s place (map f (map paired (take i ps))) old mid → AddsCells s place (c ∷ []) mid new → AddsCells s place (map f (map paired (take (i + 1) ps))) old new
pair_kept f s place ps i p c old mid new l is own before now =
    let t : take (i + 1) ps ≡ take i ps ++ p ∷ [] = ap (λ n. take n ps) (add-one i) ∙ take-suc ps i p l ∙ ap (λ x. take i ps ++ x ∷ []) (sym is) in
    let e : map f (map paired (take (i + 1) ps)) ≡ map f (map paired (take i ps)) ++ c ∷ [] =
    ap (λ x. map f (map paired x)) t ∙ ap (map f) (map-append paired (take i ps) (p ∷ [])) ∙ map-append f (map paired (take i ps)) (paired p ∷ []) ∙ ap (λ x. map f (map paired (take i ps)) ++ x ∷ []) own in
    rw e (adds_more s place (map f (map paired (take i ps))) (c ∷ []) old mid new before now)

-- all pairs
pub pairs_kept : (f : Cell × Cell → Cell) (s : Shape) (place : ℕ) (ps : List MapPair) (i : ℕ) (old new : List KeptColumn) → length ps ≤ i → AddsCells s place (map f (map paired (take i ps))) old new → AddsCells s place (map f (map paired ps)) old new
pairs_kept f s place ps i old new l p = rw (take_all i ps l) at p

-- all parts
pub parts_kept : (s : Shape) (place : ℕ) (rows : List (Option Value)) (i : ℕ) (old new : List KeptColumn) → length rows ≤ i → AddsCells s place (views (take i rows)) old new → AddsCells s place (views rows) old new
parts_kept s place rows i old new l p = rw (take_all i rows l) at p

-- ---- fields, one after the other, as the code goes through them

-- So many fields are kept: with what the others add, all are.
pub record FieldsKept (fields : List Field) (rows : List (Option Value)) (first next place : ℕ) (old mid : List KeptColumn) : Type 0 where
  pub same : length mid ≡ length old
  pub left : next + widths (fields_view (drop place fields)) ≡ first + widths (fields_view fields)
  pub all : (new : List KeptColumn) → AddsFields (fields_view (drop place fields)) next (views (drop place rows)) mid new → AddsFields (fields_view fields) first (views rows) old new

pub none_kept : (fields : List Field) (rows : List (Option Value)) (first : ℕ) (old : List KeptColumn) → FieldsKept fields rows first first 0 old old
none_kept fields rows first old = record { same = refl; left = refl; all = λ new h. h }

module _ (fields : List Field) (rows : List (Option Value)) (first next place : ℕ) (old mid : List KeptColumn) (h : FieldsKept fields rows first next place old mid) where
  module _ (here : Field) (after : ℕ) (lt : place < length fields) (is : here ≡ get_or fields place here) (there : after ≡ next + width (shape here.tree)) where
    left_after : after + widths (fields_view (drop (suc place) fields)) ≡ first + widths (fields_view fields)
    left_after = let l = h.left in omega (arith, l, there, widths_from fields place here lt is)

    abbrev AddsHere : List Cell → List KeptColumn → List KeptColumn → Type 0
    AddsHere parts a b = AddsFields (field (string_bytes here.name) (shape here.tree) (fields_view (drop (suc place) fields))) next parts a b

    -- a struct has this field
    pub field_kept : (part : Option Value) (new : List KeptColumn) → place < length rows → part ≡ get_or rows place part → AddsCells (shape here.tree) next (view part ∷ []) mid new → FieldsKept fields rows first after (suc place) old new
    field_kept part new l at p =
        let e = fields_from fields place here lt is in
        let d : views (drop place rows) ≡ view part ∷ views (drop (suc place) rows) = ap views (drop-cons rows place part l) ∙ ap (λ x. view x ∷ views (drop (suc place) rows)) (sym at) in
        record {
          same = p.same ∙ h.same;
          left = left_after;
          all = λ last q.
              let rest = subst (λ n. AddsFields (fields_view (drop (suc place) fields)) n (views (drop (suc place) rows)) new last) there q in
              let both : AddsHere (view part ∷ views (drop (suc place) rows)) mid last = adds_field (string_bytes here.name) (shape here.tree) (fields_view (drop (suc place) fields)) next (view part) (views (drop (suc place) rows)) mid new last p rest in
              h.all last (subst (λ fs. AddsFields fs next (views (drop place rows)) mid last) (sym e) (subst (λ cs. AddsHere cs mid last) (sym d) both));
        }

    -- it lacks it
    pub field_lacking : length rows ≤ place → FieldsKept fields rows first after (suc place) old mid
    field_lacking l =
        let e = fields_from fields place here lt is in
        let none : views (drop place rows) ≡ [] = ap views (drop_all place rows l) in
        let later : views (drop (suc place) rows) ≡ [] = ap views (drop_all (suc place) rows (omega (arith, l))) in
        record {
          same = h.same;
          left = left_after;
          all = λ last q.
              let rest = subst (λ n. AddsFields (fields_view (drop (suc place) fields)) n [] mid last) there (subst (λ cs. AddsFields (fields_view (drop (suc place) fields)) after cs mid last) later q) in
              let both : AddsHere [] mid last = adds_lacking (string_bytes here.name) (shape here.tree) (fields_view (drop (suc place) fields)) next mid last rest in
              h.all last (subst (λ fs. AddsFields fs next (views (drop place rows)) mid last) (sym e) (subst (λ cs. AddsHere cs mid last) (sym none) both));
        }

  -- all of them are
  module _ (end : length fields ≤ place) where
    none_left : fields_view (drop place fields) ≡ no_field
    none_left = ap fields_view (drop_all place fields end)

    pub fields_kept : AddsFields (fields_view fields) first (views rows) old mid
    fields_kept = h.all mid (subst (λ fs. AddsFields fs next (views (drop place rows)) mid mid) (sym none_left) (adds_no_field next (views (drop place rows)) mid))
