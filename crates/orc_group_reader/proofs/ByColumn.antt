-- Readers that have what is left of each column, by its number, have what is left of the rows.
use Rattle.std.proofs.Common.{◌≡◌, ℕ, zero, suc, ◌+◌, ◌-◌, ◌^◌, ◌<◌, true, false, ltb, Some, List, [], ◌∷◌, map, length, take, drop, refl, sym, ap, ◌∙◌, subst, arith, slice_get, length-drop}
use Rattle.std.proofs.lemmas.Bool.{lt-ltb, le-ltb}
use Rattle.std.proofs.lemmas.List.{length-map, length-take-le}
use Rattle.std.proofs.lemmas.Option.{slice_get_within}
use Rattle.std.specs.List.{flat_map}
use Rattle.orc_values.specs.Cells.{Cell, parts, pairs_in, keys_in, values_in, values}
use Rattle.orc_values.specs.Shapes.{Shape, scalar, list_of, map_of, struct_of, Fields, no_field, field, width, widths, shape_at, shape_within}
use Rattle.orc_values.specs.Fits.{RowsFit}
use Rattle.orc_values.specs.Columns.{cells, cells_within}
use Rattle.orc_values.proofs.Together.{keys_fit, values_fit}
use Rattle.orc_column_reader.specs.Columns.{CellsLeft, FieldsLeft}
use Rattle.orc_column_reader.specs.Spellings.{concatenated}
use Rattle.orc_column_reader.specs.declared.column.ColumnReader.{ColumnReader}
use Rattle.orc_column_reader.proofs.ByNumber.{are_lists, joined_parts, map_sizes, are_maps, joined_keys, joined_seconds, pair_sizes, are_records, FieldsFit, split, fit_empty}
use Rattle.orc_group_reader.specs.Columns.{ColumnIsLeft}
use Rattle.orc_values.proofs.Deeper.{width_pos, cells-zero}

-- all readers have still to give what is left of the rows
pub record ReadersLeft (s : Shape) (readers : List ColumnReader) (rows : List Cell) : Type 0 where
  pub counted : length readers ≡ width s
  pub fit : RowsFit s rows
  pub few : (c : ℕ) → c < width s → length (cells s c rows) < 2 ^ 31
  pub column : (c : ℕ) (r : ColumnReader) → slice_get readers c ≡ Some r → ColumnIsLeft (shape_at s c) r (cells s c rows)

pub get_take : {X : Type 0} (w : ℕ) (xs : List X) (c : ℕ) (x : X) → slice_get (take w xs) c ≡ Some x → slice_get xs c ≡ Some x
get_take zero xs c x e = cc
get_take (suc w) [] c x e = e
get_take (suc w) (y ∷ xs) zero x e = e
get_take (suc w) (y ∷ xs) (suc c) x e = get_take w xs c x e

pub get_drop : {X : Type 0} (w : ℕ) (xs : List X) (c : ℕ) → slice_get (drop w xs) c ≡ slice_get xs (w + c)
get_drop zero xs c = let e : c ≡ 0 + c = omega arith in ap (slice_get xs) e
get_drop (suc w) [] c = refl
get_drop (suc w) (y ∷ xs) c = let e : suc (w + c) ≡ suc w + c = omega arith in get_drop w xs c ∙ ap (slice_get (y ∷ xs)) e

-- the same of the fields of structs
record FieldReadersLeft (fs : Fields) (readers : List ColumnReader) (structs : List (List Cell)) : Type 0 where
  counted : length readers ≡ widths fs
  fit : FieldsFit fs structs
  few : (c : ℕ) → c < widths fs → length (cells_within fs c structs) < 2 ^ 31
  column : (c : ℕ) (r : ColumnReader) → slice_get readers c ≡ Some r → ColumnIsLeft (shape_within fs c) r (cells_within fs c structs)

first_left : (name : List ℕ) (s : Shape) (fs : Fields) (rs : List ColumnReader) (structs : List (List Cell)) → length rs ≡ width s + widths fs
    → ((c : ℕ) (r : ColumnReader) → slice_get rs c ≡ Some r → ColumnIsLeft (shape_within (field name s fs) c) r (cells_within (field name s fs) c structs))
    → (c : ℕ) (r : ColumnReader) → slice_get (take (width s) rs) c ≡ Some r → ColumnIsLeft (shape_at s c) r (cells s c (flat_map (take 1) structs))
first_left name s fs rs structs n all c r e =
    let k = all c r (get_take (width s) rs c r e) in
    let w = slice_get_within (take (width s) rs) c r e in
    let l = length-take-le (width s) rs (omega (arith, n)) in
    let t : ltb c (width s) ≡ true = lt-ltb c (width s) (omega (arith, w, l)) in
    rw t at k

first_few : (name : List ℕ) (s : Shape) (fs : Fields) (structs : List (List Cell)) → ((c : ℕ) → c < width s + widths fs → length (cells_within (field name s fs) c structs) < 2 ^ 31)
    → (c : ℕ) → c < width s → length (cells s c (flat_map (take 1) structs)) < 2 ^ 31
first_few name s fs structs all c lt = let k = all c (omega (arith, lt)) in let t : ltb c (width s) ≡ true = lt-ltb c (width s) lt in rw t at k

others_few : (name : List ℕ) (s : Shape) (fs : Fields) (structs : List (List Cell)) → ((c : ℕ) → c < width s + widths fs → length (cells_within (field name s fs) c structs) < 2 ^ 31)
    → (c : ℕ) → c < widths fs → length (cells_within fs c (map (drop 1) structs)) < 2 ^ 31
others_few name s fs structs all c lt =
    let k = all (width s + c) (omega (arith, lt)) in
    let t : ltb (width s + c) (width s) ≡ false = le-ltb (width s + c) (width s) (omega arith) in
    let d : width s + c - width s ≡ c = omega arith in
    rw (t, d) at k

others_left : (name : List ℕ) (s : Shape) (fs : Fields) (rs : List ColumnReader) (structs : List (List Cell))
    → ((c : ℕ) (r : ColumnReader) → slice_get rs c ≡ Some r → ColumnIsLeft (shape_within (field name s fs) c) r (cells_within (field name s fs) c structs))
    → (c : ℕ) (r : ColumnReader) → slice_get (drop (width s) rs) c ≡ Some r → ColumnIsLeft (shape_within fs c) r (cells_within fs c (map (drop 1) structs))
others_left name s fs rs structs all c r e =
    let k = all (width s + c) r (sym (get_drop (width s) rs c) ∙ e) in
    let t : ltb (width s + c) (width s) ≡ false = le-ltb (width s + c) (width s) (omega arith) in
    let d : width s + c - width s ≡ c = omega arith in
    rw (t, d) at k

-- the columns of a map's keys
keys_left : (k v : Shape) (o : List ℕ) (r : ColumnReader) (rs : List ColumnReader) (cs : List Cell) → ReadersLeft (map_of k v o) (r ∷ rs) cs → ReadersLeft k (take (width k) rs) (flat_map keys_in (values cs))
keys_left k v o r rs cs h =
    let counted : length rs ≡ width k + width v = omega (arith, h.counted) in
    let front = length-take-le (width k) rs (omega (arith, counted)) in
    record {
      counted = front;
      fit = keys_fit k v o cs h.fit;
      few = λ c lt. let n = h.few (suc c) (omega (arith, lt)) in let t : ltb c (width k) ≡ true = lt-ltb c (width k) lt in rw t at n;
      column = λ c b g.
          let own = h.column (suc c) b (get_take (width k) rs c b g) in
          let w = slice_get_within (take (width k) rs) c b g in
          let t : ltb c (width k) ≡ true = lt-ltb c (width k) (omega (arith, w, front)) in
          rw t at own;
    }

-- and of their values
seconds_left : (k v : Shape) (o : List ℕ) (r : ColumnReader) (rs : List ColumnReader) (cs : List Cell) → ReadersLeft (map_of k v o) (r ∷ rs) cs → ReadersLeft v (drop (width k) rs) (flat_map values_in (values cs))
seconds_left k v o r rs cs h =
    let counted : length rs ≡ width k + width v = omega (arith, h.counted) in
    record {
      counted = omega (arith, counted, length-drop (width k) rs);
      fit = values_fit k v o cs h.fit;
      few = λ c lt.
          let n = h.few (suc (width k + c)) (omega (arith, lt)) in
          let t : ltb (width k + c) (width k) ≡ false = le-ltb (width k + c) (width k) (omega arith) in
          let d : width k + c - width k ≡ c = omega arith in
          rw (t, d) at n;
      column = λ c b g.
          let own = h.column (suc (width k + c)) b (sym (get_drop (width k) rs c) ∙ g) in
          let t : ltb (width k + c) (width k) ≡ false = le-ltb (width k + c) (width k) (omega arith) in
          let d : width k + c - width k ≡ c = omega arith in
          rw (t, d) at own;
    }

mutual
  pub left_by_tree : (s : Shape) (rs : List ColumnReader) (cs : List Cell) → ReadersLeft s rs cs → CellsLeft s rs cs
  left_by_tree s [] cs h = let w = width_pos s in omega (arith, w, h.counted)
  left_by_tree (scalar k o) (r ∷ rs) cs h = let own = h.column 0 r refl in (own.marks, own.spelled)
  left_by_tree (list_of s o) (r ∷ rs) cs h =
      let own = h.column 0 r refl in
      let l = are_lists s o cs h.fit in
      let e = joined_parts (values cs) in
      let below : ReadersLeft s rs (flat_map parts (values cs)) =
      record { counted = omega (arith, h.counted); fit = subst (RowsFit s) e l.fit; few = λ c lt. h.few (suc c) (omega (arith, lt)); column = λ c b g. h.column (suc c) b g } in
      let inner = left_by_tree s rs (flat_map parts (values cs)) below in
      let few = below.few 0 (width_pos s) in
      (own.marks, (map parts (values cs), l.stand, (rw (map_sizes (values cs)) own.spelled.0, (omega (arith, own.spelled.1, few, ap length (cells-zero s (flat_map parts (values cs))), ap length e), subst (CellsLeft s rs) (sym e) inner))))
  left_by_tree (map_of k v o) (r ∷ rs) cs h =
      let own = h.column 0 r refl in
      let keys = keys_left k v o r rs cs h in
      let first = left_by_tree k (take (width k) rs) (flat_map keys_in (values cs)) keys in
      let second = left_by_tree v (drop (width k) rs) (flat_map values_in (values cs)) (seconds_left k v o r rs cs h) in
      let ps = map pairs_in (values cs) in
      let e = joined_keys (values cs) in
      let few = keys.few 0 (width_pos k) in
      let long : length (concatenated ps) < 2 ^ 31 = omega (arith, few, ap length (cells-zero k (flat_map keys_in (values cs))), ap length e, length-map (concatenated ps) (λ (p : Cell × Cell). p.0)) in
      (own.marks, (ps, are_maps k v o cs h.fit, (rw (pair_sizes (values cs)) own.spelled.0, (omega (arith, own.spelled.1, long), (subst (CellsLeft k (take (width k) rs)) (sym e) first, subst (CellsLeft v (drop (width k) rs)) (sym (joined_seconds (values cs))) second)))))
  left_by_tree (struct_of fs o) (r ∷ rs) cs h =
      let own = h.column 0 r refl in
      let l = are_records fs o cs h.fit in
      let below : FieldReadersLeft fs rs (map parts (values cs)) = record { counted = omega (arith, h.counted); fit = l.fit; few = λ c lt. h.few (suc c) (omega (arith, lt)); column = λ c b g. h.column (suc c) b g } in
      (own.marks, (map parts (values cs), l.stand, fields_left fs rs (map parts (values cs)) below))

  fields_left : (fs : Fields) (rs : List ColumnReader) (structs : List (List Cell)) → FieldReadersLeft fs rs structs → FieldsLeft fs rs structs
  fields_left no_field rs structs h = fit_empty structs h.fit
  fields_left (field name s fs) rs structs h =
      let p = split name s fs structs h.fit in
      let l = length-take-le (width s) rs (omega (arith, h.counted)) in
      let first : ReadersLeft s (take (width s) rs) (flat_map (take 1) structs) =
      record { counted = l; fit = p.heads; few = first_few name s fs structs h.few; column = first_left name s fs rs structs h.counted h.column } in
      let others : FieldReadersLeft fs (drop (width s) rs) (map (drop 1) structs) =
      record { counted = omega (arith, h.counted, length-drop (width s) rs); fit = p.tails; few = others_few name s fs structs h.few; column = others_left name s fs rs structs h.column } in
      record {
        heads = flat_map (take 1) structs;
        tails = map (drop 1) structs;
        alike = p.alike;
        parts = p.parts;
        first_spelled = left_by_tree s (take (width s) rs) (flat_map (take 1) structs) first;
        others_spelled = fields_left fs (drop (width s) rs) (map (drop 1) structs) others;
      }
