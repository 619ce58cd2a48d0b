-- The arms of the reader that goes down a schema.
use Rattle.std.proofs.Common.{◌≡◌, ℕ, ◌+◌, ◌-◌, ◌<◌, ◌≤◌, ℤ, pos, true, false, List, [], ◌∷◌, ◌++◌, map, length, take, drop, get_or, string_bytes, slice_set, append_assoc, refl, sym, ap, ◌∙◌, subst, arith, rules, append-nil, length-append, length-drop}
use Rattle.std.proofs.lemmas.List.{length-map, map-append, length-take-le}
use borrow.Rule.Slice.PartMut.{put_mid}
use Rattle.std.proofs.Math.Seq.{take-append_seam, drop-append_seam, take-length}
use Rattle.orc_values.specs.Cells.{Cell, null, list, struct, pairs, cells_of, pairs_of, is_value}
use Rattle.orc_values.specs.Shapes.{Shape, scalar, list_of, map_of, struct_of, Fields, no_field, field, width, widths}
use Rattle.orc_values.specs.Views.{cell_of_value, cell_step, view, views, paired, shape, fields}
use Rattle.orc_values.specs.declared.kind.Scalar.{Scalar}
use Rattle.orc_values.specs.declared.tree.Field.{Field}
use Rattle.orc_values.proofs.Listed.{fields_from}
use Rattle.orc_values.specs.declared.value.Value.{Value, the_lemmas}
use Rattle.orc_values.specs.declared.value.Value.TheOpen.{Value-F}
use Rattle.orc_column_reader.specs.declared.column.ValueSource.{ValueSource}
use Rattle.orc_column_reader.specs.declared.column.ColumnReader.{ColumnReader}
use Rattle.orc_column_reader.specs.Fronts.{Leaves, Lacks}
use Rattle.orc_column_reader.specs.Spellings.{Nullable, Sized, Within}
use Rattle.orc_column_reader.specs.Numbers.{NumbersLeft}
use Rattle.orc_column_reader.specs.Columns.{IsList, IsMap, IsRecord, MarksLeft, CellsLeft, ScalarLeft, ValuesLeft, FieldsLeft, ListsLeft, OwnLeft, ListsOf, PairsLeft, MapsLeft, MapsOf, marks_of}
use Rattle.orc_column_reader.proofs.Fronts.{one_after_other, standing_lacks, fielded_leaves, fielded_lacks_first, fielded_lacks_others, paired_leaves, within_leaves, within_lacks}
use Rattle.orc_column_reader.proofs.ReaderLemmas.{one_stands, one_list, one_map, one_record, group_leaves, group_lacks, null_leaves, value_leaves, value_lacks, no_field_leaves}

step_value : (x : Value-F Cell (Cell × Cell)) → is_value (cell_step x) ≡ true
step_value (Value-F.Bool b) = refl
step_value (Value-F.Int n) = refl
step_value (Value-F.Date n) = refl
step_value (Value-F.Text s) = refl
step_value (Value-F.Bytes s) = refl
step_value (Value-F.List v) = refl
step_value (Value-F.Struct v) = refl
step_value (Value-F.Map v) = refl

pub value_is : (v : Value) → is_value (cell_of_value v) ≡ true
value_is v = search (rules, the_lemmas, step_value)

-- ---- the first of some readers, and those behind it

drop_whole : {X : Type 0} (xs : List X) → drop (length xs) xs ≡ []
drop_whole [] = refl
drop_whole (x ∷ xs) = drop_whole xs

pub put_behind : {X : Type 0} (own : X) (below ys : List X) → put_mid 1 (length (own ∷ below) - 1) (own ∷ below) ys ≡ own ∷ ys
put_behind own below ys =
    let k : length (own ∷ below) - 1 ≡ length below = omega arith in
    ap (λ n. own ∷ (ys ++ drop n below)) k ∙ ap (λ t. own ∷ (ys ++ t)) (drop_whole below) ∙ ap (λ t. own ∷ t) (append-nil ys)

pub behind : {X : Type 0} (own : X) (below : List X) → take (length (own ∷ below) - 1) (drop 1 (own ∷ below)) ≡ below
behind own below =
    let k : length (own ∷ below) - 1 ≡ length below = omega arith in
    ap (λ n. take n below) k ∙ take-length below

-- the readers of a first field, and those of the others
pub fields_put : {X : Type 0} (w : ℕ) (rs own rest : List X) → length own ≡ w → put_mid w (length (own ++ drop w rs) - w) (own ++ drop w rs) rest ≡ own ++ rest
fields_put {X = X} w rs own rest n =
    let D : List X = drop w rs in
    let t : take w (own ++ D) ≡ own = ap (λ k. take k (own ++ D)) (sym n) ∙ take-append_seam own D in
    let d : drop w (own ++ D) ≡ D = ap (λ k. drop k (own ++ D)) (sym n) ∙ drop-append_seam own D in
    let k : length (own ++ D) - w ≡ length D = omega (arith, length-append own D, n) in
    let e : drop (length (own ++ D) - w) (drop w (own ++ D)) ≡ [] = ap (λ z. drop (length (own ++ D) - w) z) d ∙ ap (λ m. drop m D) k ∙ drop_whole D in
    ap (λ z. z ++ (rest ++ drop (length (own ++ D) - w) (drop w (own ++ D)))) t ∙ ap (λ z. own ++ (rest ++ z)) e ∙ ap (λ z. own ++ z) (append-nil rest)

pub fields_behind : {X : Type 0} (w : ℕ) (rs own : List X) → length own ≡ w → take (length (own ++ drop w rs) - w) (drop w (own ++ drop w rs)) ≡ drop w rs
fields_behind {X = X} w rs own n =
    let D : List X = drop w rs in
    let d : drop w (own ++ D) ≡ D = ap (λ k. drop k (own ++ D)) (sym n) ∙ drop-append_seam own D in
    let k : length (own ++ D) - w ≡ length D = omega (arith, length-append own D, n) in
    ap (λ z. take (length (own ++ D) - w) z) d ∙ ap (λ m. take m D) k ∙ take-length D

-- ---- a cell

pub cell_value : (s : Shape) (before after : List ColumnReader) (own' d : ColumnReader) (v : Cell) → is_value v ≡ true → 1 ≤ length before → length after ≡ length (slice_set before 0 own')
    → own'.source ≡ (get_or before 0 d).source → Leaves (MarksLeft (get_or before 0 d).present) (MarksLeft own'.present) (true ∷ [])
    → Leaves (OwnLeft s (slice_set before 0 own')) (OwnLeft s after) (v ∷ []) → marks_of after ≡ marks_of (slice_set before 0 own')
    → Leaves (CellsLeft s before) (CellsLeft s after) (v ∷ [])
cell_value s [] after own' d v is some l e p q m = absurd (omega (arith, some))
cell_value s (own ∷ below) [] own' d v is some l e p q m = absurd (omega (arith, l))
cell_value s (own ∷ below) (own'' ∷ below'') own' d v is some l e p q m =
    value_leaves (MarksLeft own.present) (MarksLeft own''.present) (ValuesLeft s own.source below) (ValuesLeft s own''.source below'') v is
    (subst (λ x. Leaves (MarksLeft own.present) (MarksLeft x) (true ∷ [])) (sym m) p)
    (subst (λ x. Leaves (ValuesLeft s x below) (ValuesLeft s own''.source below'') (v ∷ [])) e q)

pub cell_null : (s : Shape) (before : List ColumnReader) (own' d : ColumnReader) → 1 ≤ length before
    → own'.source ≡ (get_or before 0 d).source → Leaves (MarksLeft (get_or before 0 d).present) (MarksLeft own'.present) (false ∷ [])
    → Leaves (CellsLeft s before) (CellsLeft s (slice_set before 0 own')) (null ∷ [])
cell_null s [] own' d some e p = absurd (omega (arith, some))
cell_null s (own ∷ below) own' d some e p =
    subst (λ x. Leaves (CellsLeft s (own ∷ below)) (Nullable (MarksLeft own'.present) (ValuesLeft s x below)) (null ∷ [])) (sym e)
    (null_leaves (MarksLeft own.present) (MarksLeft own'.present) (ValuesLeft s own.source below) p)

pub cell_lacks : (s : Shape) (before : List ColumnReader) (own' d : ColumnReader) → 1 ≤ length before
    → own'.source ≡ (get_or before 0 d).source → Leaves (MarksLeft (get_or before 0 d).present) (MarksLeft own'.present) (true ∷ [])
    → Lacks (OwnLeft s (slice_set before 0 own')) 1 → Lacks (CellsLeft s before) 1
cell_lacks s [] own' d some e p q = absurd (omega (arith, some))
cell_lacks s (own ∷ below) own' d some e p q =
    value_lacks (MarksLeft own.present) (MarksLeft own'.present) (ValuesLeft s own.source below) p (subst (λ x. Lacks (ValuesLeft s x below) 1) e q)

-- ---- values of lists, maps and structs

pub list_value : (s e : Shape) (o : List ℕ) (source source' : ValueSource) (below below' : List ColumnReader) (cells : List Cell) (v : Cell)
    → s ≡ list_of e o → v ≡ list (cells_of cells) → Leaves (ListsLeft e source below) (ListsLeft e source' below') (cells ∷ [])
    → Leaves (ValuesLeft s source below) (ValuesLeft s source' below') (v ∷ [])
list_value s e o source source' below below' cells v is w p =
    rw is (one_stands IsList one_list (ListsLeft e source below) (ListsLeft e source' below') cells v w p)

pub list_lacks : (s e : Shape) (o : List ℕ) (source : ValueSource) (below : List ColumnReader)
    → s ≡ list_of e o → Lacks (ListsLeft e source below) 1 → Lacks (ValuesLeft s source below) 1
list_lacks s e o source below is p = rw is (standing_lacks IsList (ListsLeft e source below) 1 p)

pub map_value : (s k v : Shape) (o : List ℕ) (source source' : ValueSource) (below below' : List ColumnReader) (ps : List (Cell × Cell)) (c : Cell)
    → s ≡ map_of k v o → c ≡ pairs (pairs_of ps) → Leaves (MapsLeft k v source below) (MapsLeft k v source' below') (ps ∷ [])
    → Leaves (ValuesLeft s source below) (ValuesLeft s source' below') (c ∷ [])
map_value s k v o source source' below below' ps c is w p =
    rw is (one_stands IsMap one_map (MapsLeft k v source below) (MapsLeft k v source' below') ps c w p)

pub map_lacks : (s k v : Shape) (o : List ℕ) (source : ValueSource) (below : List ColumnReader)
    → s ≡ map_of k v o → Lacks (MapsLeft k v source below) 1 → Lacks (ValuesLeft s source below) 1
map_lacks s k v o source below is p = rw is (standing_lacks IsMap (MapsLeft k v source below) 1 p)

pub struct_value : (s : Shape) (fs : Fields) (o : List ℕ) (source : ValueSource) (below below' : List ColumnReader) (cells : List Cell) (v : Cell)
    → s ≡ struct_of fs o → v ≡ struct (cells_of cells) → Leaves (FieldsLeft fs below) (FieldsLeft fs below') (cells ∷ [])
    → Leaves (ValuesLeft s source below) (ValuesLeft s source below') (v ∷ [])
struct_value s fs o source below below' cells v is w p =
    rw is (one_stands IsRecord one_record (FieldsLeft fs below) (FieldsLeft fs below') cells v w p)

pub struct_lacks : (s : Shape) (fs : Fields) (o : List ℕ) (source : ValueSource) (below : List ColumnReader)
    → s ≡ struct_of fs o → Lacks (FieldsLeft fs below) 1 → Lacks (ValuesLeft s source below) 1
struct_lacks s fs o source below is p = rw is (standing_lacks IsRecord (FieldsLeft fs below) 1 p)

pub own_scalar : (s : Shape) (k : Scalar) (o : List ℕ) (before : List ColumnReader) (own' d : ColumnReader) (u v : Cell) → s ≡ scalar k o → v ≡ u → 1 ≤ length before
    → Leaves (ScalarLeft k (get_or before 0 d).source) (ScalarLeft k own'.source) (u ∷ []) → Leaves (OwnLeft s before) (OwnLeft s (slice_set before 0 own')) (v ∷ [])
own_scalar s k o [] own' d u v is w some p = absurd (omega (arith, some))
own_scalar s k o (own ∷ below) own' d u v is w some p = rw (is, w) p

pub own_list : (s e : Shape) (o : List ℕ) (before after : List ColumnReader) (cells : List Cell) (v : Cell) → s ≡ list_of e o → v ≡ list (cells_of cells) → 1 ≤ length before → length after ≡ length before
    → Leaves (ListsOf e before) (ListsOf e after) (cells ∷ []) → Leaves (OwnLeft s before) (OwnLeft s after) (v ∷ [])
own_list s e o [] after cells v is w some l p = absurd (omega (arith, some))
own_list s e o (own ∷ below) [] cells v is w some l p = absurd (omega (arith, l))
own_list s e o (own ∷ below) (own' ∷ below') cells v is w some l p = list_value s e o own.source own'.source below below' cells v is w p

pub own_list_lacks : (s e : Shape) (o : List ℕ) (before : List ColumnReader) → s ≡ list_of e o → Lacks (ListsOf e before) 1 → Lacks (OwnLeft s before) 1
own_list_lacks s e o [] is p = λ all r le. absurd r
own_list_lacks s e o (own ∷ below) is p = list_lacks s e o own.source below is p

pub own_map : (s k v : Shape) (o : List ℕ) (before after : List ColumnReader) (ps : List (Cell × Cell)) (c : Cell) → s ≡ map_of k v o → c ≡ pairs (pairs_of ps) → 1 ≤ length before → length after ≡ length before
    → Leaves (MapsOf k v before) (MapsOf k v after) (ps ∷ []) → Leaves (OwnLeft s before) (OwnLeft s after) (c ∷ [])
own_map s k v o [] after ps c is w some l p = absurd (omega (arith, some))
own_map s k v o (own ∷ below) [] ps c is w some l p = absurd (omega (arith, l))
own_map s k v o (own ∷ below) (own' ∷ below') ps c is w some l p = map_value s k v o own.source own'.source below below' ps c is w p

pub own_map_lacks : (s k v : Shape) (o : List ℕ) (before : List ColumnReader) → s ≡ map_of k v o → Lacks (MapsOf k v before) 1 → Lacks (OwnLeft s before) 1
own_map_lacks s k v o [] is p = λ all r le. absurd r
own_map_lacks s k v o (own ∷ below) is p = map_lacks s k v o own.source below is p

pub own_struct : (s : Shape) (fs : Fields) (o : List ℕ) (before ys : List ColumnReader) (cells : List Cell) (v : Cell) → s ≡ struct_of fs o → v ≡ struct (cells_of cells) → 1 ≤ length before
    → Leaves (FieldsLeft fs (take (length before - 1) (drop 1 before))) (FieldsLeft fs ys) (cells ∷ []) → Leaves (OwnLeft s before) (OwnLeft s (put_mid 1 (length before - 1) before ys)) (v ∷ [])
own_struct s fs o [] ys cells v is w some p = absurd (omega (arith, some))
own_struct s fs o (own ∷ below) ys cells v is w some p =
    subst (λ t. Leaves (OwnLeft s (own ∷ below)) (OwnLeft s t) (v ∷ [])) (sym (put_behind own below ys))
    (struct_value s fs o own.source below ys cells v is w (subst (λ t. Leaves (FieldsLeft fs t) (FieldsLeft fs ys) (cells ∷ [])) (behind own below) p))

pub own_struct_lacks : (s : Shape) (fs : Fields) (o : List ℕ) (before : List ColumnReader) → s ≡ struct_of fs o → Lacks (FieldsLeft fs (take (length before - 1) (drop 1 before))) 1 → Lacks (OwnLeft s before) 1
own_struct_lacks s fs o [] is p = λ all r le. absurd r
own_struct_lacks s fs o (own ∷ below) is p = struct_lacks s fs o own.source below is (subst (λ t. Lacks (FieldsLeft fs t) 1) (behind own below) p)

-- ---- the elements of a list, and the pairs of a map

sized_leaves : {X : Type 0} (room size : ℕ) (sizes sizes' : List ℤ → Type 0) (elements elements' : List X → Type 0) (xs : List X)
    → length xs ≡ size → size ≤ room → Leaves sizes sizes' (pos size ∷ []) → Leaves elements elements' xs
    → Leaves (Sized sizes (Within room elements)) (Sized sizes' (Within (room - size) elements')) (xs ∷ [])
sized_leaves room size sizes sizes' elements elements' xs n le p q =
    group_leaves sizes sizes' (Within room elements) (Within (room - size) elements') size xs n p
    (subst (λ k. Leaves (Within room elements) (Within (room - k) elements') xs) n
    (within_leaves room elements elements' xs (omega (arith, n, le)) q))

sized_lacks : {X : Type 0} (room size : ℕ) (sizes sizes' : List ℤ → Type 0) (elements : List X → Type 0)
    → Leaves sizes sizes' (pos size ∷ []) → Lacks elements size → Lacks (Sized sizes (Within room elements)) 1
sized_lacks room size sizes sizes' elements p q =
    group_lacks sizes sizes' (Within room elements) size p (within_lacks room size elements q)

pub list_taken : (e : Shape) (before ys : List ColumnReader) (own' d : ColumnReader) (size : ℕ) (cells : List Cell) → 1 ≤ length before
    → Leaves (NumbersLeft (get_or before 0 d).source.numbers) (NumbersLeft own'.source.numbers) (pos size ∷ []) → size ≤ (get_or before 0 d).source.room → own'.source.room ≡ (get_or before 0 d).source.room - size
    → length cells ≡ size → Leaves (CellsLeft e (take (length (slice_set before 0 own') - 1) (drop 1 (slice_set before 0 own')))) (CellsLeft e ys) cells
    → Leaves (ListsOf e before) (ListsOf e (put_mid 1 (length (slice_set before 0 own') - 1) (slice_set before 0 own') ys)) (cells ∷ [])
list_taken e [] ys own' d size cells some p le r n q = absurd (omega (arith, some))
list_taken e (own ∷ below) ys own' d size cells some p le r n q =
    let q' : Leaves (CellsLeft e below) (CellsLeft e ys) cells = subst (λ t. Leaves (CellsLeft e t) (CellsLeft e ys) cells) (behind own' below) q in
    subst (λ t. Leaves (ListsOf e (own ∷ below)) (ListsOf e t) (cells ∷ [])) (sym (put_behind own' below ys))
    (subst (λ k. Leaves (ListsLeft e own.source below) (Sized (NumbersLeft own'.source.numbers) (Within k (CellsLeft e ys))) (cells ∷ [])) (sym r)
    (sized_leaves own.source.room size (NumbersLeft own.source.numbers) (NumbersLeft own'.source.numbers) (CellsLeft e below) (CellsLeft e ys) cells n le p q'))

pub list_lacking : (e : Shape) (before : List ColumnReader) (own' d : ColumnReader) (size : ℕ)
    → Leaves (NumbersLeft (get_or before 0 d).source.numbers) (NumbersLeft own'.source.numbers) (pos size ∷ [])
    → Lacks (CellsLeft e (take (length (slice_set before 0 own') - 1) (drop 1 (slice_set before 0 own')))) size → Lacks (ListsOf e before) 1
list_lacking e [] own' d size p q = λ all r le. absurd r
list_lacking e (own ∷ below) own' d size p q =
    sized_lacks own.source.room size (NumbersLeft own.source.numbers) (NumbersLeft own'.source.numbers) (CellsLeft e below) p (subst (λ t. Lacks (CellsLeft e t) size) (behind own' below) q)

pub map_taken : (k v : Shape) (before ys : List ColumnReader) (own' d : ColumnReader) (size : ℕ) (ps : List (Cell × Cell)) → 1 ≤ length before
    → Leaves (NumbersLeft (get_or before 0 d).source.numbers) (NumbersLeft own'.source.numbers) (pos size ∷ []) → size ≤ (get_or before 0 d).source.room → own'.source.room ≡ (get_or before 0 d).source.room - size
    → length ps ≡ size → Leaves (PairsLeft k v (take (length (slice_set before 0 own') - 1) (drop 1 (slice_set before 0 own')))) (PairsLeft k v ys) ps
    → Leaves (MapsOf k v before) (MapsOf k v (put_mid 1 (length (slice_set before 0 own') - 1) (slice_set before 0 own') ys)) (ps ∷ [])
map_taken k v [] ys own' d size ps some p le r n q = absurd (omega (arith, some))
map_taken k v (own ∷ below) ys own' d size ps some p le r n q =
    let q' : Leaves (PairsLeft k v below) (PairsLeft k v ys) ps = subst (λ t. Leaves (PairsLeft k v t) (PairsLeft k v ys) ps) (behind own' below) q in
    subst (λ t. Leaves (MapsOf k v (own ∷ below)) (MapsOf k v t) (ps ∷ [])) (sym (put_behind own' below ys))
    (subst (λ m. Leaves (MapsLeft k v own.source below) (Sized (NumbersLeft own'.source.numbers) (Within m (PairsLeft k v ys))) (ps ∷ [])) (sym r)
    (sized_leaves own.source.room size (NumbersLeft own.source.numbers) (NumbersLeft own'.source.numbers) (PairsLeft k v below) (PairsLeft k v ys) ps n le p q'))

pub map_lacking : (k v : Shape) (before : List ColumnReader) (own' d : ColumnReader) (size : ℕ)
    → Leaves (NumbersLeft (get_or before 0 d).source.numbers) (NumbersLeft own'.source.numbers) (pos size ∷ [])
    → Lacks (PairsLeft k v (take (length (slice_set before 0 own') - 1) (drop 1 (slice_set before 0 own')))) size → Lacks (MapsOf k v before) 1
map_lacking k v [] own' d size p q = λ all r le. absurd r
map_lacking k v (own ∷ below) own' d size p q =
    sized_lacks own.source.room size (NumbersLeft own.source.numbers) (NumbersLeft own'.source.numbers) (PairsLeft k v below) p (subst (λ t. Lacks (PairsLeft k v t) size) (behind own' below) q)

-- ---- cells and pairs, one after the other

pub cells_more : (before between after : List Cell → Type 0) (rows rows' : List _) (row : _)
    → rows' ≡ rows ++ row ∷ [] → Leaves before between (views rows) → Leaves between after (view row ∷ []) → Leaves before after (views rows')
cells_more before between after rows rows' row e p q =
    subst (λ cs. Leaves before after cs) (sym (ap views e ∙ map-append view rows (row ∷ []))) (one_after_other before between after (views rows) (view row ∷ []) p q)

pub cells_counted : (rows rows' : List _) (row : _) (n : ℕ) → rows' ≡ rows ++ row ∷ [] → length (views rows) ≡ n → length (views rows') ≡ n + 1
cells_counted rows rows' row n e h =
    omega (arith, h, length-map rows view, length-map rows' view, ap length e, length-append rows (row ∷ []))

pub pairs_more : (before between after : List (Cell × Cell) → Type 0) (ps ps' : List _) (p : _)
    → ps' ≡ ps ++ p ∷ [] → Leaves before between (map paired ps) → Leaves between after (paired p ∷ []) → Leaves before after (map paired ps')
pairs_more before between after ps ps' p e q r =
    subst (λ t. Leaves before after t) (sym (ap (map paired) e ∙ map-append paired ps (p ∷ []))) (one_after_other before between after (map paired ps) (paired p ∷ []) q r)

pub pairs_counted : (ps ps' : List _) (p : _) (n : ℕ) → ps' ≡ ps ++ p ∷ [] → length (map paired ps) ≡ n → length (map paired ps') ≡ n + 1
pairs_counted ps ps' p n e h =
    omega (arith, h, length-map ps paired, length-map ps' paired, ap length e, length-append ps (p ∷ []))

-- ---- a pair

pub pair_next : (k v : Shape) (before after own own' rest rest' : List ColumnReader) (p : Cell × Cell)
    → own ≡ take (width k) before → rest ≡ drop (width k) before → after ≡ own' ++ rest' → length own' ≡ width k
    → Leaves (CellsLeft k own) (CellsLeft k own') (p.0 ∷ []) → Leaves (CellsLeft v rest) (CellsLeft v rest') (p.1 ∷ [])
    → Leaves (PairsLeft k v before) (PairsLeft k v after) (p ∷ [])
pair_next k v before after own own' rest rest' p eo er ea n first second =
    let to : take (width k) after ≡ own' = ap (λ t. take (width k) t) ea ∙ ap (λ m. take m (own' ++ rest')) (sym n) ∙ take-append_seam own' rest' in
    let tr : drop (width k) after ≡ rest' = ap (λ t. drop (width k) t) ea ∙ ap (λ m. drop m (own' ++ rest')) (sym n) ∙ drop-append_seam own' rest' in
    let first' : Leaves (CellsLeft k (take (width k) before)) (CellsLeft k (take (width k) after)) (p.0 ∷ []) = subst (λ t. Leaves (CellsLeft k t) (CellsLeft k (take (width k) after)) (p.0 ∷ [])) eo (subst (λ t. Leaves (CellsLeft k own) (CellsLeft k t) (p.0 ∷ [])) (sym to) first) in
    let second' : Leaves (CellsLeft v (drop (width k) before)) (CellsLeft v (drop (width k) after)) (p.1 ∷ []) = subst (λ t. Leaves (CellsLeft v t) (CellsLeft v (drop (width k) after)) (p.1 ∷ [])) er (subst (λ t. Leaves (CellsLeft v rest) (CellsLeft v t) (p.1 ∷ [])) (sym tr) second) in
    paired_leaves (CellsLeft k (take (width k) before)) (CellsLeft k (take (width k) after)) (CellsLeft v (drop (width k) before)) (CellsLeft v (drop (width k) after)) (p ∷ []) first' second'

pub pair_lacks : (k v : Shape) (before rest : List ColumnReader) → rest ≡ drop (width k) before → Lacks (CellsLeft v rest) 1 → Lacks (PairsLeft k v before) 1
pair_lacks k v before rest e none = λ ps h some.
    subst (λ t. Lacks (CellsLeft v t) 1) e none (map (λ p. p.1) ps) h.1 (omega (arith, some, length-map ps (λ p. p.1)))

-- the readers of a first field or of the keys, after they gave one cell
pub first_counted : (w more : ℕ) (before own' : List ColumnReader) → length before ≡ w + more → length own' ≡ length (take w before) → length own' ≡ w
first_counted w more before own' n l = l ∙ length-take-le w before (omega (arith, n))

-- ---- fields

pub fields_none : (fs : Fields) (before : List ColumnReader) → fs ≡ no_field → Leaves (FieldsLeft fs before) (FieldsLeft fs before) ([] ∷ [])
fields_none fs before e = rw e no_field_leaves

pub no_fields : (fs : List Field) → length fs < 1 → fields fs ≡ no_field
no_fields [] h = refl
no_fields (f ∷ fs) h = absurd (omega (arith, h))

-- the first field and those behind it
pub first_field : (fs : List Field) (f : Field) → 1 ≤ length fs → f ≡ get_or fs 0 f → fields fs ≡ field (string_bytes f.name) (shape f.tree) (fields (take (length fs - 1) (drop 1 fs)))
first_field fs f h is =
    let rest : take (length fs - 1) (drop 1 fs) ≡ drop 1 fs = ap (λ n. take n (drop 1 fs)) (omega (arith, length-drop 1 fs)) ∙ take-length (drop 1 fs) in
    fields_from fs 0 f (omega (arith, h)) is ∙ ap (λ t. field (string_bytes f.name) (shape f.tree) (fields t)) (sym rest)

pub fields_next : (all : Fields) (name : List ℕ) (s : Shape) (fs : Fields) (before after own own' rest rest' : List ColumnReader) (cell : Cell) (more : List Cell)
    → all ≡ field name s fs → own ≡ take (width s) before → rest ≡ drop (width s) before → after ≡ own' ++ rest' → length own' ≡ width s
    → Leaves (CellsLeft s own) (CellsLeft s own') (cell ∷ []) → Leaves (FieldsLeft fs rest) (FieldsLeft fs rest') (more ∷ [])
    → Leaves (FieldsLeft all before) (FieldsLeft all after) ((cell ∷ more) ∷ [])
fields_next all name s fs before after own own' rest rest' cell more e eo er ea n p q =
    let to : take (width s) after ≡ own' = ap (λ t. take (width s) t) ea ∙ ap (λ k. take k (own' ++ rest')) (sym n) ∙ take-append_seam own' rest' in
    let tr : drop (width s) after ≡ rest' = ap (λ t. drop (width s) t) ea ∙ ap (λ k. drop k (own' ++ rest')) (sym n) ∙ drop-append_seam own' rest' in
    let p' : Leaves (CellsLeft s (take (width s) before)) (CellsLeft s (take (width s) after)) (cell ∷ []) = subst (λ t. Leaves (CellsLeft s t) (CellsLeft s (take (width s) after)) (cell ∷ [])) eo (subst (λ t. Leaves (CellsLeft s own) (CellsLeft s t) (cell ∷ [])) (sym to) p) in
    let q' : Leaves (FieldsLeft fs (drop (width s) before)) (FieldsLeft fs (drop (width s) after)) (more ∷ []) = subst (λ t. Leaves (FieldsLeft fs t) (FieldsLeft fs (drop (width s) after)) (more ∷ [])) er (subst (λ t. Leaves (FieldsLeft fs rest) (FieldsLeft fs t) (more ∷ [])) (sym tr) q) in
    rw e (fielded_leaves (CellsLeft s (take (width s) before)) (CellsLeft s (take (width s) after)) (FieldsLeft fs (drop (width s) before)) (FieldsLeft fs (drop (width s) after)) (cell ∷ []) (more ∷ []) refl p' q')

pub fields_lack_first : (all : Fields) (name : List ℕ) (s : Shape) (fs : Fields) (before own : List ColumnReader)
    → all ≡ field name s fs → own ≡ take (width s) before → Lacks (CellsLeft s own) 1 → Lacks (FieldsLeft all before) 1
fields_lack_first all name s fs before own e eo p =
    rw e (fielded_lacks_first (CellsLeft s (take (width s) before)) (FieldsLeft fs (drop (width s) before)) 1 (subst (λ t. Lacks (CellsLeft s t) 1) eo p))

pub fields_lack_others : (all : Fields) (name : List ℕ) (s : Shape) (fs : Fields) (before rest : List ColumnReader)
    → all ≡ field name s fs → rest ≡ drop (width s) before → Lacks (FieldsLeft fs rest) 1 → Lacks (FieldsLeft all before) 1
fields_lack_others all name s fs before rest e er p =
    rw e (fielded_lacks_others (CellsLeft s (take (width s) before)) (FieldsLeft fs (drop (width s) before)) 1 (subst (λ t. Lacks (FieldsLeft fs t) 1) er p))

pub fields_counted : (all : Fields) (name : List ℕ) (s : Shape) (fs : Fields) (before own' : List ColumnReader) (w : ℕ) → all ≡ field name s fs → w ≡ width s → length before ≡ widths all → length own' ≡ length (take w before) → length own' ≡ w
fields_counted all name s fs before own' w e we n l =
    let a : widths all ≡ width s + widths fs = ap widths e in
    first_counted w (widths fs) before own' (omega (arith, a, n, we)) l

pub cells_joined : (rows pushed joined' : List _) (row : _) (x : List Cell) → pushed ≡ rows ++ row ∷ [] → views joined' ≡ views pushed ++ x → views joined' ≡ views rows ++ (view row ∷ x)
cells_joined rows pushed joined' row x e f = f ∙ ap (λ t. t ++ x) (ap views e ∙ map-append view rows (row ∷ [])) ∙ append_assoc (views rows) (view row ∷ []) x
