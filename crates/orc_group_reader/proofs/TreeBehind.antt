-- What readers meet that stand behind some rows is a fault of the whole columns, going down the schema.
use Rattle.std.proofs.Common.{◌≡◌, ℕ, suc, ◌+◌, ◌-◌, ltb, ℤ, pos, Bool, true, false, Some, List, [], ◌∷◌, ◌++◌, length, map, take, drop, sum, refl, sym, ap, ◌∙◌, subst, arith, inl, inr, ◌⊎◌, slice_get, length-append, length-drop}
use Rattle.std.proofs.lemmas.Bool.{lt-ltb, le-ltb}
use Rattle.std.proofs.lemmas.List.{map-append, length-map, length-take-le}
use Rattle.std.proofs.lemmas.Option.{slice_get_within}
use Rattle.std.specs.List.{flat_map}
use Rattle.orc_values.specs.Cells.{Cell, null, leaf, list, struct, pairs, is_value, parts, pairs_in, keys_in, values_in, values}
use Rattle.orc_values.specs.Columns.{cells, cells_within}
use Rattle.orc_values.specs.Fits.{RowsFit}
use Rattle.orc_values.specs.Shapes.{Shape, scalar, list_of, map_of, struct_of, Fields, no_field, field, width, widths, shape_at, shape_within}
use Rattle.orc_values.proofs.Together.{keys_fit, values_fit}
use Rattle.orc_values.specs.Trues.{trues}
use Rattle.orc_column_reader.specs.Columns.{MarksFirst}
use Rattle.orc_column_reader.specs.Faults.{ValuesFail, FaultBelow, FaultWithin, FaultDown, lengths_of}
use Rattle.orc_column_reader.specs.Needs.{MarksBegin, ValuesNeeded, ElementsNeeded}
use Rattle.orc_column_reader.specs.Numbers.{NumbersFirst}
use Rattle.orc_column_reader.specs.ReaderFaults.{ValuesMeet, BelowMeet, FieldsMeet, CellsMeet}
use Rattle.orc_column_reader.specs.RunFaults.{Needed, IntegersFirst}
use Rattle.orc_column_reader.specs.Stripe.{Streams}
use Rattle.orc_column_reader.specs.declared.column.ColumnReader.{ColumnReader}
use Rattle.orc_column_reader.specs.declared.column.ValueSource.{ValueSource}
use Rattle.orc_directory.specs.declared.fault.StripeFault.{StripeFault}
use Rattle.orc_column_reader.proofs.ByNumber.{are_lists, joined_parts, are_records, FieldsFit, split}
use Rattle.orc_group_reader.proofs.ByColumn.{get_take, get_drop}
use Rattle.orc_group_reader.proofs.SourcesBehind.{MarksBehind, marks_met, marks_first, SizesBehind, list_lengths, map_lengths, SourceBehind, values_met}
use Rattle.orc_values.proofs.Lists.{sum_more, sum_append, trues_append}

-- a column's own reader behind some cells, by the column's number
pub record ColumnBehind (s : Shape) (x : Streams) (m : ℕ) (cs : List Cell) (r : ColumnReader) : Type 0 where
  pub marks : MarksBehind (x.stream 0) (length cs) r.present
  pub begin : MarksBegin (x.stream 0) (map is_value cs)
  pub source : SourceBehind s x (values cs) r.source
  pub column : r.source.column ≡ m

-- the readers of a column and of those below it
pub record TreeBehind (s : Shape) (columns : ℕ → Streams) (m : ℕ) (readers : List ColumnReader) (cs : List Cell) : Type 0 where
  pub counted : length readers ≡ width s
  pub fit : RowsFit s cs
  pub column : (c : ℕ) (r : ColumnReader) → slice_get readers c ≡ Some r → ColumnBehind (shape_at s c) (columns (m + c)) (m + c) (cells s c cs) r

record FieldsBehind (fs : Fields) (columns : ℕ → Streams) (m : ℕ) (readers : List ColumnReader) (structs : List (List Cell)) : Type 0 where
  counted : length readers ≡ widths fs
  fit : FieldsFit fs structs
  column : (c : ℕ) (r : ColumnReader) → slice_get readers c ≡ Some r → ColumnBehind (shape_within fs c) (columns (m + c)) (m + c) (cells_within fs c structs) r

-- the same column by an equal number
pub renumbered : (s : Shape) (columns : ℕ → Streams) (i j : ℕ) (cs : List Cell) (r : ColumnReader) → i ≡ j → ColumnBehind s (columns i) i cs r → ColumnBehind s (columns j) j cs r
renumbered s columns i j cs r e h = subst (λ (k : ℕ). ColumnBehind s (columns k) k cs r) e h

-- ---- how many values and elements are needed

needed_behind : (all : Bool) (known n k : ℕ) → Needed all known n → Needed all (k + known) (k + n)
needed_behind true known n k h = omega (arith, h)
needed_behind false known n k h = omega (arith, h)

trues_values : (cs : List Cell) → trues (map is_value cs) ≡ length (values cs)
trues_values [] = refl
trues_values (null ∷ cs) = trues_values cs
trues_values (leaf a ∷ cs) = ap suc (trues_values cs)
trues_values (list l ∷ cs) = ap suc (trues_values cs)
trues_values (struct l ∷ cs) = ap suc (trues_values cs)
trues_values (pairs p ∷ cs) = ap suc (trues_values cs)

values_needed : (s : Shape) (x : Streams) (m : ℕ) (cs : List Cell) (own : ColumnReader) (all : Bool) (n v : ℕ) → ColumnBehind s x m cs own → ValuesNeeded all n (MarksFirst own.present) v
    → ValuesNeeded all (length cs + n) (MarksBegin (x.stream 0)) (length (values cs) + v)
values_needed s x m cs own all n v b h =
    let long : length (map is_value cs) ≡ length cs = length-map cs is_value in
    let marks = subst (λ (k : ℕ). MarksBehind (x.stream 0) k own.present) (sym long) b.marks in
    record {
      marks = map is_value cs ++ h.marks;
      come_first = marks_first (x.stream 0) own.present (map is_value cs) h.marks marks b.begin h.come_first;
      known = let count : length cs + length h.marks ≡ length (map is_value cs ++ h.marks) = omega (arith, length-append (map is_value cs) h.marks, long) in
          subst (λ (k : ℕ). Needed all k (length cs + n)) count (needed_behind all (length h.marks) n (length cs) h.known);
      counted = omega (arith, trues_append (map is_value cs) h.marks, trues_values cs, h.counted);
    }

elements_behind : (x : Streams) (lengths : List ℕ) (source : ValueSource) (all : Bool) (v e k total : ℕ) → SizesBehind x lengths source → length lengths ≡ k → sum lengths ≡ total → ElementsNeeded all v (NumbersFirst source.numbers) e
    → ElementsNeeded all (k + v) (IntegersFirst (lengths_of x)) (total + e)
elements_behind x lengths source all v e k total b long together h = record {
  lengths = lengths ++ h.lengths;
  come_first = let same = ap (λ (t : List ℤ). t ++ map pos h.lengths) b.sizes ∙ sym (map-append pos lengths h.lengths) in
      subst (λ (t : List ℤ). IntegersFirst (lengths_of x) t) same (b.numbers.first (map pos h.lengths) h.come_first);
  known = let count : k + length h.lengths ≡ length (lengths ++ h.lengths) = omega (arith, length-append lengths h.lengths, long) in
      subst (λ (i : ℕ). Needed all i (k + v)) count (needed_behind all (length h.lengths) v k h.known);
  counted = omega (arith, sum_append lengths h.lengths, together, h.counted);
}

sum_parts : (vs : List Cell) → sum (list_lengths vs) ≡ length (flat_map parts vs)
sum_parts [] = refl
sum_parts (v ∷ vs) = omega (arith, sum_more (length (parts v)) (list_lengths vs), sum_parts vs, length-append (parts v) (flat_map parts vs))

sum_keys : (vs : List Cell) → sum (map_lengths vs) ≡ length (flat_map keys_in vs)
sum_keys [] = refl
sum_keys (v ∷ vs) = omega (arith, sum_more (length (pairs_in v)) (map_lengths vs), sum_keys vs, length-append (keys_in v) (flat_map keys_in vs), length-map (pairs_in v) (λ (p : Cell × Cell). p.0))

sum_seconds : (vs : List Cell) → sum (map_lengths vs) ≡ length (flat_map values_in vs)
sum_seconds [] = refl
sum_seconds (v ∷ vs) = omega (arith, sum_more (length (pairs_in v)) (map_lengths vs), sum_seconds vs, length-append (values_in v) (flat_map values_in vs), length-map (pairs_in v) (λ (p : Cell × Cell). p.1))

-- ---- the columns below one

keys_behind : (k v : Shape) (o : List ℕ) (columns : ℕ → Streams) (m : ℕ) (r : ColumnReader) (rs : List ColumnReader) (cs : List Cell) → TreeBehind (map_of k v o) columns m (r ∷ rs) cs → TreeBehind k columns (suc m) (take (width k) rs) (flat_map keys_in (values cs))
keys_behind k v o columns m r rs cs h =
    let counted : length rs ≡ width k + width v = omega (arith, h.counted) in
    let front = length-take-le (width k) rs (omega (arith, counted)) in
    record {
      counted = front;
      fit = keys_fit k v o cs h.fit;
      column = λ c b g.
          let own = h.column (suc c) b (get_take (width k) rs c b g) in
          let w = slice_get_within (take (width k) rs) c b g in
          let t : ltb c (width k) ≡ true = lt-ltb c (width k) (omega (arith, w, front)) in
          let here = rw t at own in
          renumbered (shape_at k c) columns (m + suc c) (suc m + c) (cells k c (flat_map keys_in (values cs))) b (omega arith) here;
    }

seconds_behind : (k v : Shape) (o : List ℕ) (columns : ℕ → Streams) (m : ℕ) (r : ColumnReader) (rs : List ColumnReader) (cs : List Cell) → TreeBehind (map_of k v o) columns m (r ∷ rs) cs
    → TreeBehind v columns (suc m + width k) (drop (width k) rs) (flat_map values_in (values cs))
seconds_behind k v o columns m r rs cs h =
    let counted : length rs ≡ width k + width v = omega (arith, h.counted) in
    record {
      counted = omega (arith, counted, length-drop (width k) rs);
      fit = values_fit k v o cs h.fit;
      column = λ c b g.
          let own = h.column (suc (width k + c)) b (sym (get_drop (width k) rs c) ∙ g) in
          let t : ltb (width k + c) (width k) ≡ false = le-ltb (width k + c) (width k) (omega arith) in
          let d : width k + c - width k ≡ c = omega arith in
          let here = rw (t, d) at own in
          renumbered (shape_at v c) columns (m + suc (width k + c)) (suc m + width k + c) (cells v c (flat_map values_in (values cs))) b (omega arith) here;
    }

first_behind : (name : List ℕ) (s : Shape) (fs : Fields) (columns : ℕ → Streams) (m : ℕ) (rs : List ColumnReader) (structs : List (List Cell)) → FieldsBehind (field name s fs) columns m rs structs
    → TreeBehind s columns m (take (width s) rs) (flat_map (take 1) structs)
first_behind name s fs columns m rs structs h =
    let p = split name s fs structs h.fit in
    let l = length-take-le (width s) rs (omega (arith, h.counted)) in
    record {
      counted = l;
      fit = p.heads;
      column = λ c r e.
          let k = h.column c r (get_take (width s) rs c r e) in
          let w = slice_get_within (take (width s) rs) c r e in
          let t : ltb c (width s) ≡ true = lt-ltb c (width s) (omega (arith, w, l)) in
          rw t at k;
    }

others_behind : (name : List ℕ) (s : Shape) (fs : Fields) (columns : ℕ → Streams) (m : ℕ) (rs : List ColumnReader) (structs : List (List Cell)) → FieldsBehind (field name s fs) columns m rs structs
    → FieldsBehind fs columns (m + width s) (drop (width s) rs) (map (drop 1) structs)
others_behind name s fs columns m rs structs h =
    let p = split name s fs structs h.fit in
    record {
      counted = omega (arith, h.counted, length-drop (width s) rs);
      fit = p.tails;
      column = λ c r e.
          let k = h.column (width s + c) r (sym (get_drop (width s) rs c) ∙ e) in
          let t : ltb (width s + c) (width s) ≡ false = le-ltb (width s + c) (width s) (omega arith) in
          let d : width s + c - width s ≡ c = omega arith in
          let here = rw (t, d) at k in
          renumbered (shape_within fs c) columns (m + (width s + c)) (m + width s + c) (cells_within fs c (map (drop 1) structs)) r (omega arith) here;
    }

-- ---- going down

own_down : (s : Shape) (columns : ℕ → Streams) (m : ℕ) (own : ColumnReader) (below : List ColumnReader) (cs : List Cell) (all : Bool) (n : ℕ) (f : StripeFault) → ColumnBehind s (columns m) m cs own
    → ((v : ℕ) → BelowMeet s own.source below all v f → FaultBelow s columns m all (length (values cs) + v) f) → CellsMeet s (own ∷ below) all n f → FaultDown s columns m all (length cs + n) f
own_down s columns m own below cs all n f b deeper (inl h) = inl (marks_met ((columns m).stream 0) (length cs) own.present own.source.column m all n f b.marks b.column h)
own_down s columns m own below cs all n f b deeper (inr h) = inr (inr (length (values cs) + h.0, values_needed s (columns m) m cs own all n h.0 b h.1, value_or_below h.0 h.2))
  where
    value_or_below : (v : ℕ) → ValuesMeet s own.source all v f ⊎ BelowMeet s own.source below all v f → ValuesFail s (columns m) all (length (values cs) + v) m f ⊎ FaultBelow s columns m all (length (values cs) + v) f
    value_or_below v (inl h) = inl (values_met s (columns m) (values cs) own.source m all v f b.source b.column h)
    value_or_below v (inr h) = inr (deeper v h)

mutual
  pub tree_down : (s : Shape) (columns : ℕ → Streams) (m : ℕ) (readers : List ColumnReader) (cs : List Cell) (all : Bool) (n : ℕ) (f : StripeFault) → TreeBehind s columns m readers cs → CellsMeet s readers all n f → FaultDown s columns m all (length cs + n) f
  tree_down s columns m [] cs all n f b h = absurd h
  tree_down (scalar k o) columns m (own ∷ below) cs all n f b h =
      let here = renumbered (scalar k o) columns (m + 0) m cs own (omega arith) (b.column 0 own refl) in
      own_down (scalar k o) columns m own below cs all n f here (λ v d. d) h
  tree_down (list_of s o) columns m (own ∷ below) cs all n f b h =
      let here = renumbered (list_of s o) columns (m + 0) m cs own (omega arith) (b.column 0 own refl) in
      let vs = values cs in
      let l = are_lists s o cs b.fit in
      let rest : TreeBehind s columns (suc m) below (flat_map parts vs) = record {
        counted = omega (arith, b.counted);
        fit = subst (RowsFit s) (joined_parts vs) l.fit;
        column = λ c r g. renumbered (shape_at s c) columns (m + suc c) (suc m + c) (cells s c (flat_map parts vs)) r (omega arith) (b.column (suc c) r g);
      } in
      own_down (list_of s o) columns m own below cs all n f here
      (λ v d. (
        length (flat_map parts vs) + d.0,
        elements_behind (columns m) (list_lengths vs) own.source all v d.0 (length vs) (length (flat_map parts vs)) here.source (length-map vs (λ c. length (parts c))) (sum_parts vs) d.1,
        tree_down s columns (suc m) below (flat_map parts vs) all d.0 f rest d.2,
      ))
      h
  tree_down (map_of k v o) columns m (own ∷ below) cs all n f b h =
      let here = renumbered (map_of k v o) columns (m + 0) m cs own (omega arith) (b.column 0 own refl) in
      let vs = values cs in
      let keys = flat_map keys_in vs in
      let seconds = flat_map values_in vs in
      let alike : length seconds ≡ length keys = sym (sum_seconds vs) ∙ sum_keys vs in
      own_down (map_of k v o) columns m own below cs all n f here
      (λ w d. (
        length keys + d.0,
        elements_behind (columns m) (map_lengths vs) own.source all w d.0 (length vs) (length keys) here.source (length-map vs (λ c. length (pairs_in c))) (sum_keys vs) d.1,
        elim d.2 [
          | inl first ↦ inl (tree_down k columns (suc m) (take (width k) below) keys all d.0 f (keys_behind k v o columns m own below cs b) first)
          | inr second ↦
              inr (subst (λ (i : ℕ). FaultDown v columns (suc m + width k) all (i + d.0) f) alike
              (tree_down v columns (suc m + width k) (drop (width k) below) seconds all d.0 f (seconds_behind k v o columns m own below cs b) second))
        ],
      ))
      h
  tree_down (struct_of fs o) columns m (own ∷ below) cs all n f b h =
      let here = renumbered (struct_of fs o) columns (m + 0) m cs own (omega arith) (b.column 0 own refl) in
      let vs = values cs in
      let l = are_records fs o cs b.fit in
      let rest : FieldsBehind fs columns (suc m) below (map parts vs) = record {
        counted = omega (arith, b.counted);
        fit = l.fit;
        column = λ c r g. renumbered (shape_within fs c) columns (m + suc c) (suc m + c) (cells_within fs c (map parts vs)) r (omega arith) (b.column (suc c) r g);
      } in
      own_down (struct_of fs o) columns m own below cs all n f here
      (λ v d. subst (λ (i : ℕ). FaultWithin fs columns (suc m) all (i + v) f) (length-map vs parts) (fields_down fs columns (suc m) below (map parts vs) all v f rest d))
      h

  fields_down : (fs : Fields) (columns : ℕ → Streams) (m : ℕ) (readers : List ColumnReader) (structs : List (List Cell)) (all : Bool) (n : ℕ) (f : StripeFault) → FieldsBehind fs columns m readers structs → FieldsMeet fs readers all n f
      → FaultWithin fs columns m all (length structs + n) f
  fields_down no_field columns m readers structs all n f b h = h
  fields_down (field name s fs) columns m readers structs all n f b (inl h) =
      let p = split name s fs structs b.fit in
      let alike : length (flat_map (take 1) structs) ≡ length structs = p.alike ∙ length-map structs (drop 1) in
      inl (subst (λ (i : ℕ). FaultDown s columns m all (i + n) f) alike (tree_down s columns m (take (width s) readers) (flat_map (take 1) structs) all n f (first_behind name s fs columns m readers structs b) h))
  fields_down (field name s fs) columns m readers structs all n f b (inr h) =
      inr (subst (λ (i : ℕ). FaultWithin fs columns (m + width s) all (i + n) f) (length-map structs (drop 1))
      (fields_down fs columns (m + width s) (drop (width s) readers) (map (drop 1) structs) all n f (others_behind name s fs columns m readers structs b) h))
