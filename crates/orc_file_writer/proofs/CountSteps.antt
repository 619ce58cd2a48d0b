-- One walk of a row, cell by cell, counts the cells of each column.
use Rattle.std.proofs.Common.{◌≡◌, ℕ, zero, suc, ◌+◌, ◌-◌, ◌<◌, ◌≤◌, ◌^◌, inl, inr, Bool, true, false, ltb, List, [], ◌∷◌, ◌++◌, length, get_or, map, flat_map, take, drop, Option, string_bytes, refl, sym, ap, ◌∙◌, subst, arith, add-one, length-append, append-nil, drop-cons}
use Rattle.std.specs.Prelude.{min}
use Rattle.std.specs.Bool.{OnTrue, OnFalse}
use Rattle.std.proofs.Math.Seq.{take-suc}
use Rattle.std.proofs.lemmas.Bool.{lt-ltb, le-ltb, ltb-true, and_parts}
use Rattle.std.proofs.lemmas.Bool.Decides.{leb_tells}
use Rattle.std.proofs.lemmas.List.{map-append, take_all, drop_all}
use Rattle.orc_values.specs.declared.kind.Scalar.{Scalar}
use Rattle.orc_values.specs.Shapes.{Shape, scalar, list_of, map_of, struct_of, Fields, no_field, field, width, widths}
use Rattle.orc_values.specs.Cells.{Cell, parts, keys_in, values_in, values}
use Rattle.orc_values.specs.Columns.{cells, cells_within}
use Rattle.orc_values.specs.Views.{view, views, paired, shape, fields as fields_view}
use Rattle.orc_values.specs.declared.tree.Field.{Field}
use Rattle.orc_values.specs.declared.value.Value.{Value}
use Rattle.orc_values.specs.declared.value.MapPair.{MapPair}
use Rattle.orc_values.proofs.ByColumn.{parts_values, keys_values, values_values}
use Rattle.orc_values.proofs.Listed.{fields_from, widths_from}
use Rattle.orc_values.proofs.Together.{cells-append}
use Rattle.orc_file_writer.specs.Counts.{with_row, are_few}
use Rattle.orc_file_writer.specs.Counting.{IsMoreBy, CountsOne, CountsCells, CountsFields}
use Rattle.orc_file_writer.proofs.CountLemmas.{length-with_row, with_row_at}
use Rattle.orc_values.proofs.NoCells.{no_rows, one_struct}

-- ---- numbers up to the limit

none_more : (n x : ℕ) → n ≡ 0 → IsMoreBy n x x
none_more n x z = omega (arith, z)

both_more : (a b x y z : ℕ) → IsMoreBy a x y → IsMoreBy b y z → IsMoreBy (a + b) x z
both_more a b x y z p q = omega (arith, p, q)

-- ---- rows one after the other

pub adds_none : (s : Shape) (place : ℕ) (counts : List ℕ) → CountsCells s place [] counts counts
adds_none s place counts = record {
  same = refl;
  added = λ c l. none_more (length (cells s c [])) (get_or counts (place + c) 0) (ap length (no_rows s c));
  others = λ k h. refl;
}

pub adds_more : (s : Shape) (place : ℕ) (a b : List Cell) (old mid new : List ℕ) → CountsCells s place a old mid → CountsCells s place b mid new → CountsCells s place (a ++ b) old new
adds_more s place a b old mid new p q = record {
  same = q.same ∙ p.same;
  added = λ c l.
      let e : length (cells s c (a ++ b)) ≡ length (cells s c a) + length (cells s c b) = ap length (cells-append s c a b) ∙ length-append (cells s c a) (cells s c b) in
      rw e (both_more (length (cells s c a)) (length (cells s c b)) (get_or old (place + c) 0) (get_or mid (place + c) 0) (get_or new (place + c) 0) (p.added c l) (q.added c l));
  others = λ k h. q.others k h ∙ p.others k h;
}

-- ---- a cell, and what is in it

pub adds_scalar : (k : Scalar) (o : List ℕ) (place : ℕ) (cell : Cell) (old new : List ℕ) → CountsOne place old new → CountsCells (scalar k o) place (cell ∷ []) old new
adds_scalar k o place cell old new p = record {
  same = p.same;
  added = λ c l. let e : place + c ≡ place = omega arith in rw e p.added;
  others = λ i h. p.others i (λ e. elim h [ inl a ↦ omega arith | inr b ↦ omega arith ]);
}

module _ (s : Shape) (o : List ℕ) (place : ℕ) (cell : Cell) (old mid new : List ℕ) (p : CountsOne place old mid) (q : CountsCells s (place + 1) (parts cell) mid new) where
  list_added : (c : ℕ) → c < 1 + width s → IsMoreBy (length (cells (list_of s o) c (cell ∷ []))) (get_or old (place + c) 0) (get_or new (place + c) 0)
  list_added zero l =
      let e : place + 0 ≡ place = omega arith in
      let n = q.others place (inl (omega arith)) in
      rw (e, n) p.added
  list_added (suc c) l =
      let e : place + suc c ≡ (place + 1) + c = omega arith in
      let f : cells (list_of s o) (suc c) (cell ∷ []) ≡ cells s c (parts cell) = ap (cells s c) (parts_values (cell ∷ []) ∙ append-nil (parts cell)) in
      let n = p.others ((place + 1) + c) (λ w. omega (arith, w)) in
      rw (e, f, ← n) (q.added c (omega arith))

  pub adds_list : CountsCells (list_of s o) place (cell ∷ []) old new
  adds_list = record {
    same = q.same ∙ p.same;
    added = list_added;
    others = λ k h. q.others k (elim h [ inl a ↦ inl (omega arith) | inr b ↦ inr (omega arith) ]) ∙ p.others k (λ w. elim h [ inl a ↦ omega arith | inr b ↦ omega arith ]);
  }

module _ (k v : Shape) (o : List ℕ) (place : ℕ) (cell : Cell) (old one mid new : List ℕ) (p : CountsOne place old one)
    (q : CountsCells k (place + 1) (keys_in cell) one mid) (r : CountsCells v (place + 1 + width k) (values_in cell) mid new) where
  map_added : (c : ℕ) → c < 1 + (width k + width v) → IsMoreBy (length (cells (map_of k v o) c (cell ∷ []))) (get_or old (place + c) 0) (get_or new (place + c) 0)
  map_added zero l =
      let e : place + 0 ≡ place = omega arith in
      let n = r.others place (inl (omega arith)) in
      let m = q.others place (inl (omega arith)) in
      rw (e, n, m) p.added
  map_added (suc c) l =
      elim (leb_tells (suc c) (width k)) [
        | inl t ↦
            let e : place + suc c ≡ (place + 1) + c = omega arith in
            let f : cells k c (flat_map keys_in (values (cell ∷ []))) ≡ cells k c (keys_in cell) = ap (cells k c) (keys_values (cell ∷ []) ∙ append-nil (keys_in cell)) in
            let n = r.others ((place + 1) + c) (inl (omega (arith, t.1))) in
            let m = p.others ((place + 1) + c) (λ w. omega (arith, w)) in
            rw (t.0, f, e, n, ← m) (q.added c t.1)
        | inr t ↦
            let e : place + suc c ≡ (place + 1 + width k) + (c - width k) = omega (arith, t.1) in
            let f : cells v (c - width k) (flat_map values_in (values (cell ∷ []))) ≡ cells v (c - width k) (values_in cell) = ap (cells v (c - width k)) (values_values (cell ∷ []) ∙ append-nil (values_in cell)) in
            let n = q.others ((place + 1 + width k) + (c - width k)) (inr (omega arith)) in
            let m = p.others ((place + 1 + width k) + (c - width k)) (λ w. omega (arith, w)) in
            rw (t.0, f, e, ← m, ← n) (r.added (c - width k) (omega (arith, l, t.1)))
      ]

  pub adds_map : CountsCells (map_of k v o) place (cell ∷ []) old new
  adds_map = record {
    same = r.same ∙ q.same ∙ p.same;
    added = map_added;
    others = λ i h.
        r.others i (elim h [ inl a ↦ inl (omega arith) | inr b ↦ inr (omega arith) ])
        ∙ q.others i (elim h [ inl a ↦ inl (omega arith) | inr b ↦ inr (omega arith) ])
        ∙ p.others i (λ w. elim h [ inl a ↦ omega arith | inr b ↦ omega arith ]);
  }

module _ (fs : Fields) (o : List ℕ) (place : ℕ) (cell : Cell) (old mid new : List ℕ) (p : CountsOne place old mid) (q : CountsFields fs (place + 1) (parts cell) mid new) where
  struct_added : (c : ℕ) → c < 1 + widths fs → IsMoreBy (length (cells (struct_of fs o) c (cell ∷ []))) (get_or old (place + c) 0) (get_or new (place + c) 0)
  struct_added zero l =
      let e : place + 0 ≡ place = omega arith in
      let n = q.others place (inl (omega arith)) in
      rw (e, n) p.added
  struct_added (suc c) l =
      let e : place + suc c ≡ (place + 1) + c = omega arith in
      let f : cells (struct_of fs o) (suc c) (cell ∷ []) ≡ cells_within fs c (parts cell ∷ []) = one_struct fs c cell in
      let n = p.others ((place + 1) + c) (λ w. omega (arith, w)) in
      rw (e, f, ← n) (q.added c (omega arith))

  pub adds_struct : CountsCells (struct_of fs o) place (cell ∷ []) old new
  adds_struct = record {
    same = q.same ∙ p.same;
    added = struct_added;
    others = λ k h. q.others k (elim h [ inl a ↦ inl (omega arith) | inr b ↦ inr (omega arith) ]) ∙ p.others k (λ w. elim h [ inl a ↦ omega arith | inr b ↦ omega arith ]);
  }

-- ---- the fields of a struct

pub adds_no_field : (place : ℕ) (parts : List Cell) (counts : List ℕ) → CountsFields no_field place parts counts counts
adds_no_field place parts counts = record { same = refl; added = λ c l. absurd (omega arith); others = λ k h. refl }

module _ (name : List ℕ) (s : Shape) (fs : Fields) (place : ℕ) (part : Cell) (rest : List Cell) (old mid new : List ℕ)
    (p : CountsCells s place (part ∷ []) old mid) (q : CountsFields fs (place + width s) rest mid new) where
  field_added : (c : ℕ) → c < width s + widths fs → IsMoreBy (length (cells_within (field name s fs) c ((part ∷ rest) ∷ []))) (get_or old (place + c) 0) (get_or new (place + c) 0)
  field_added c l =
      elim (leb_tells (suc c) (width s)) [
        | inl t ↦ let n = q.others (place + c) (inl (omega (arith, t.1))) in rw (t.0, n) (p.added c t.1)
        | inr t ↦
            let e : place + c ≡ (place + width s) + (c - width s) = omega (arith, t.1) in
            let n = p.others ((place + width s) + (c - width s)) (inr (omega arith)) in
            rw (t.0, e, ← n) (q.added (c - width s) (omega (arith, t.1)))
      ]

  pub adds_field : CountsFields (field name s fs) place (part ∷ rest) old new
  adds_field = record {
    same = q.same ∙ p.same;
    added = field_added;
    others = λ k h. q.others k (elim h [ inl a ↦ inl (omega arith) | inr b ↦ inr (omega arith) ]) ∙ p.others k (elim h [ inl a ↦ inl (omega arith) | inr b ↦ inr (omega arith) ]);
  }

module _ (name : List ℕ) (s : Shape) (fs : Fields) (place : ℕ) (old new : List ℕ) (q : CountsFields fs (place + width s) [] old new) where
  lacking_added : (c : ℕ) → c < width s + widths fs → IsMoreBy (length (cells_within (field name s fs) c ([] ∷ []))) (get_or old (place + c) 0) (get_or new (place + c) 0)
  lacking_added c l =
      elim (leb_tells (suc c) (width s)) [
        | inl t ↦
            let n = q.others (place + c) (inl (omega (arith, t.1))) in
            rw (t.0, n) (none_more (length (cells s c [])) (get_or old (place + c) 0) (ap length (no_rows s c)))
        | inr t ↦
            let e : place + c ≡ (place + width s) + (c - width s) = omega (arith, t.1) in
            rw (t.0, e) (q.added (c - width s) (omega (arith, t.1)))
      ]

  -- a struct without this field and those behind it
  pub adds_lacking : CountsFields (field name s fs) place [] old new
  adds_lacking = record {
    same = q.same;
    added = lacking_added;
    others = λ k h. q.others k (elim h [ inl a ↦ inl (omega arith) | inr b ↦ inr (omega arith) ]);
  }

-- ---- the walk's steps, as the code takes them

pub list_counted : (x s : Shape) (o : List ℕ) (place : ℕ) (cell : Cell) (old mid new : List ℕ) → x ≡ list_of s o → CountsOne place old mid → CountsCells s (place + 1) (parts cell) mid new → CountsCells x place (cell ∷ []) old new
list_counted x s o place cell old mid new e p q = rw e (adds_list s o place cell old mid new p q)

pub map_counted : (x k v : Shape) (o : List ℕ) (place : ℕ) (cell : Cell) (old one mid new : List ℕ) → x ≡ map_of k v o → CountsOne place old one
    → CountsCells k (place + 1) (keys_in cell) one mid → CountsCells v (place + 1 + width k) (values_in cell) mid new → CountsCells x place (cell ∷ []) old new
map_counted x k v o place cell old one mid new e p q r = rw e (adds_map k v o place cell old one mid new p q r)

pub struct_counted : (x : Shape) (fs : Fields) (o : List ℕ) (place : ℕ) (cell : Cell) (old mid new : List ℕ) → x ≡ struct_of fs o → CountsOne place old mid → CountsFields fs (place + 1) (parts cell) mid new → CountsCells x place (cell ∷ []) old new
struct_counted x fs o place cell old mid new e p q = rw e (adds_struct fs o place cell old mid new p q)

-- a part more
pub part_counted : (s : Shape) (place : ℕ) (rows : List (Option Value)) (i : ℕ) (r : Option Value) (old mid new : List ℕ) → i < length rows → r ≡ get_or rows i r
    → CountsCells s place (views (take i rows)) old mid → CountsCells s place (view r ∷ []) mid new → CountsCells s place (views (take (i + 1) rows)) old new
part_counted s place rows i r old mid new l is p q =
    let t : take (i + 1) rows ≡ take i rows ++ r ∷ [] = ap (λ n. take n rows) (add-one i) ∙ take-suc rows i r l ∙ ap (λ x. take i rows ++ x ∷ []) (sym is) in
    let e : views (take (i + 1) rows) ≡ views (take i rows) ++ view r ∷ [] = ap views t ∙ map-append view (take i rows) (r ∷ []) in
    rw e (adds_more s place (views (take i rows)) (view r ∷ []) old mid new p q)

-- a pair more, of which one part is counted
pub pair_counted : (f : Cell × Cell → Cell) (s : Shape) (place : ℕ) (ps : List MapPair) (i : ℕ) (p : MapPair) (c : Cell) (old mid new : List ℕ) → i < length ps → p ≡ get_or ps i p → f (paired p) ≡ c
    → CountsCells s place (map f (map paired (take i ps))) old mid → CountsCells s place (c ∷ []) mid new → CountsCells s place (map f (map paired (take (i + 1) ps))) old new
pair_counted f s place ps i p c old mid new l is own before now =
    let t : take (i + 1) ps ≡ take i ps ++ p ∷ [] = ap (λ n. take n ps) (add-one i) ∙ take-suc ps i p l ∙ ap (λ x. take i ps ++ x ∷ []) (sym is) in
    let e : map f (map paired (take (i + 1) ps)) ≡ map f (map paired (take i ps)) ++ c ∷ [] =
    ap (λ x. map f (map paired x)) t ∙ ap (map f) (map-append paired (take i ps) (p ∷ [])) ∙ map-append f (map paired (take i ps)) (paired p ∷ []) ∙ ap (λ x. map f (map paired (take i ps)) ++ x ∷ []) own in
    rw e (adds_more s place (map f (map paired (take i ps))) (c ∷ []) old mid new before now)

-- all pairs
pub pairs_counted : (f : Cell × Cell → Cell) (s : Shape) (place : ℕ) (ps : List MapPair) (i : ℕ) (old new : List ℕ) → length ps ≤ i → CountsCells s place (map f (map paired (take i ps))) old new → CountsCells s place (map f (map paired ps)) old new
pairs_counted f s place ps i old new l p = rw (take_all i ps l) at p

-- all parts
pub parts_counted : (s : Shape) (place : ℕ) (rows : List (Option Value)) (i : ℕ) (old new : List ℕ) → length rows ≤ i → CountsCells s place (views (take i rows)) old new → CountsCells s place (views rows) old new
parts_counted s place rows i old new l p = rw (take_all i rows l) at p

-- ---- fields, one after the other, as the code goes through them

-- So many fields are counted: with what the others have more, all have more.
pub record FieldsCounted (fields : List Field) (rows : List (Option Value)) (first next place : ℕ) (old mid : List ℕ) : Type 0 where
  pub same : length mid ≡ length old
  pub left : next + widths (fields_view (drop place fields)) ≡ first + widths (fields_view fields)
  pub all : (new : List ℕ) → CountsFields (fields_view (drop place fields)) next (views (drop place rows)) mid new → CountsFields (fields_view fields) first (views rows) old new

pub none_counted : (fields : List Field) (rows : List (Option Value)) (first : ℕ) (old : List ℕ) → FieldsCounted fields rows first first 0 old old
none_counted fields rows first old = record { same = refl; left = refl; all = λ new h. h }

module _ (fields : List Field) (rows : List (Option Value)) (first next place : ℕ) (old mid : List ℕ) (h : FieldsCounted fields rows first next place old mid) where
  module _ (here : Field) (after : ℕ) (lt : place < length fields) (is : here ≡ get_or fields place here) (there : after ≡ next + width (shape here.tree)) where
    left_after : after + widths (fields_view (drop (suc place) fields)) ≡ first + widths (fields_view fields)
    left_after = let l = h.left in omega (arith, l, there, widths_from fields place here lt is)

    abbrev AddsHere : List Cell → List ℕ → List ℕ → Type 0
    AddsHere parts a b = CountsFields (field (string_bytes here.name) (shape here.tree) (fields_view (drop (suc place) fields))) next parts a b

    -- a struct has this field
    pub field_counted : (part : Option Value) (new : List ℕ) → place < length rows → part ≡ get_or rows place part → CountsCells (shape here.tree) next (view part ∷ []) mid new → FieldsCounted fields rows first after (suc place) old new
    field_counted part new l at p =
        let e = fields_from fields place here lt is in
        let d : views (drop place rows) ≡ view part ∷ views (drop (suc place) rows) = ap views (drop-cons rows place part l) ∙ ap (λ x. view x ∷ views (drop (suc place) rows)) (sym at) in
        record {
          same = p.same ∙ h.same;
          left = left_after;
          all = λ last q.
              let rest = subst (λ n. CountsFields (fields_view (drop (suc place) fields)) n (views (drop (suc place) rows)) new last) there q in
              let both : AddsHere (view part ∷ views (drop (suc place) rows)) mid last = adds_field (string_bytes here.name) (shape here.tree) (fields_view (drop (suc place) fields)) next (view part) (views (drop (suc place) rows)) mid new last p rest in
              h.all last (subst (λ fs. CountsFields fs next (views (drop place rows)) mid last) (sym e) (subst (λ cs. AddsHere cs mid last) (sym d) both));
        }

    -- it lacks it
    pub field_lacking : length rows ≤ place → FieldsCounted fields rows first after (suc place) old mid
    field_lacking l =
        let e = fields_from fields place here lt is in
        let none : views (drop place rows) ≡ [] = ap views (drop_all place rows l) in
        let later : views (drop (suc place) rows) ≡ [] = ap views (drop_all (suc place) rows (omega (arith, l))) in
        record {
          same = h.same;
          left = left_after;
          all = λ last q.
              let rest = subst (λ n. CountsFields (fields_view (drop (suc place) fields)) n [] mid last) there (subst (λ cs. CountsFields (fields_view (drop (suc place) fields)) after cs mid last) later q) in
              let both : AddsHere [] mid last = adds_lacking (string_bytes here.name) (shape here.tree) (fields_view (drop (suc place) fields)) next mid last rest in
              h.all last (subst (λ fs. CountsFields fs next (views (drop place rows)) mid last) (sym e) (subst (λ cs. AddsHere cs mid last) (sym none) both));
        }

  -- all of them are
  module _ (end : length fields ≤ place) where
    none_left : fields_view (drop place fields) ≡ no_field
    none_left = ap fields_view (drop_all place fields end)

    pub fields_counted : CountsFields (fields_view fields) first (views rows) old mid
    fields_counted = h.all mid (subst (λ fs. CountsFields fs next (views (drop place rows)) mid mid) (sym none_left) (adds_no_field next (views (drop place rows)) mid))

-- ---- a row's counts, where they are below the limit, and where they aren't

same_test : (m x y : ℕ) → min m x ≡ min m y → ltb x m ≡ ltb y m
same_test m x y e =
    elim (leb_tells (suc x) m) [
      | inl p ↦ p.0 ∙ sym (lt-ltb y m (omega (arith, p.1, e)))
      | inr p ↦ p.0 ∙ sym (le-ltb y m (omega (arith, p.1, e)))
    ]

-- two lists have the same numbers, up to the limit
abbrev AreSame : List ℕ → List ℕ → Type 0
AreSame xs ys = (i : ℕ) → i < length ys → min (2 ^ 31) (get_or xs i 0) ≡ min (2 ^ 31) (get_or ys i 0)

same_few : (xs ys : List ℕ) → length xs ≡ length ys → AreSame xs ys → are_few xs ≡ are_few ys
same_few [] [] w h = refl
same_few [] (y ∷ ys) w h = absurd (omega (arith, w))
same_few (x ∷ xs) [] w h = absurd (omega (arith, w))
same_few (x ∷ xs) (y ∷ ys) w h =
    let t = same_test (2 ^ 31) x y (h 0 (omega arith)) in
    let r = same_few xs ys (omega (arith, w)) (λ i l. h (suc i) (omega arith)) in
    rw (t, r) refl

few_same : (xs ys : List ℕ) → length xs ≡ length ys → AreSame xs ys → are_few xs ≡ true → xs ≡ ys
few_same [] [] w h f = refl
few_same [] (y ∷ ys) w h f = absurd (omega (arith, w))
few_same (x ∷ xs) [] w h f = absurd (omega (arith, w))
few_same (x ∷ xs) (y ∷ ys) w h f =
    let p = and_parts (ltb x (2 ^ 31)) (are_few xs) f in
    let t = ltb-true x (2 ^ 31) p.0 in
    let m = h 0 (omega arith) in
    let e : x ≡ y = omega (arith, t, m) in
    rw (e, few_same xs ys (omega (arith, w)) (λ i l. h (suc i) (omega arith)) p.1) refl

module _ (s : Shape) (row : Cell) (counts sums : List ℕ) (wide : length counts ≡ width s) (h : CountsCells s 0 (row ∷ []) counts sums) where
  sums_length : length sums ≡ length (with_row s 0 row counts)
  sums_length = h.same ∙ sym (length-with_row s 0 row counts)

  sums_same : AreSame sums (with_row s 0 row counts)
  sums_same i l =
      let n = length-with_row s 0 row counts in
      let e : 0 + i ≡ i = omega arith in
      let a = h.added i (omega (arith, n, wide)) in
      rw (with_row_at s 0 i row counts (omega (arith, n)), e) (rw e at a)

  sums_are : are_few sums ≡ true → sums ≡ with_row s 0 row counts
  sums_are = few_same sums (with_row s 0 row counts) sums_length sums_same

  sums_few : are_few (with_row s 0 row counts) ≡ are_few sums
  sums_few = sym (same_few sums (with_row s 0 row counts) sums_length sums_same)

  pub when_few : (b : Bool) → b ≡ are_few sums → OnTrue b ((sums ≡ with_row s 0 row counts) × (are_few sums ≡ true))
  when_few true e = (sums_are (sym e), sym e)
  when_few false e = tt

  pub when_many : (b : Bool) → b ≡ are_few sums → OnFalse b (are_few (with_row s 0 row counts) ≡ false)
  when_many true e = tt
  when_many false e = sums_few ∙ sym e
