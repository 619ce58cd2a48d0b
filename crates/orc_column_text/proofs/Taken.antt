-- What is taken from the readers of columns, with its text.
use Rattle.std.proofs.Common.{◌≡◌, ℕ, ◌+◌, ◌≤◌, ◌-◌, List, [], ◌∷◌, ◌++◌, Bool, true, false, length, take, drop, get_or, slice_set, Vec, Box, Global, refl, sym, ap, ◌∙◌, arith, length-append}
use borrow.Rule.Slice.PartMut.{put_mid}
use Rattle.serde_json.specs.Written.{comma_if}
use Rattle.orc_values.specs.Cells.{Cell, list, struct, pairs, cells_of, pairs_of}
use Rattle.orc_values.specs.Shapes.{Shape, scalar, list_of, map_of, struct_of, Fields, width}
use Rattle.orc_values.specs.declared.kind.Scalar.{Scalar}
use Rattle.orc_column_reader.specs.Fronts.{Leaves, Lacks}
use Rattle.orc_column_reader.specs.Columns.{CellsLeft, OwnLeft, ScalarLeft, ListsOf, MapsOf, PairsLeft, FieldsLeft, MarksLeft, marks_of}
use Rattle.orc_column_reader.specs.declared.column.ColumnReader.{ColumnReader}
use Rattle.orc_column_reader.specs.declared.column.ValueSource.{ValueSource}
use Rattle.orc_row_reader.proofs.Arms.{cell_value, own_list, own_map, own_struct, pair_next}
use Rattle.orc_column_reader.proofs.Fronts.{one_after_other}
use Rattle.orc_json_printer.specs.Layouts.{text_by, member_parts, parts_text, leaf_text, pair_text, pair_texts}
use Rattle.orc_json_printer.specs.declared.layout.Layout.{Layout, Leaf, List as ListOf, Map as MapLayout, Struct}
use Rattle.orc_json_printer.specs.declared.layout.Member.{Member}
use Rattle.orc_json_printer.specs.declared.layout.FieldColumns.{FieldColumns}
use Rattle.orc_json_printer.specs.declared.layout.PairLayout.{PairLayout}
use Rattle.orc_json_printer.specs.Outputs.{Puts}
use Rattle.orc_json_printer.proofs.Outputs.{puts_then, puts_is}
use Rattle.orc_json_printer.proofs.Layouts.{text_by-Leaf, pair_texts-is}
use Rattle.orc_column_text.specs.Taken.{Printed, PrintedValue, PrintedAll}
use Rattle.orc_column_text.specs.Texts.{comma_texts}
use Rattle.orc_column_text.proofs.Texts.{follows, follows-snoc, texts-snoc, list_printed, map_printed, struct_printed}

-- ---- cells, one after the other

pub record PrintedSoFar {T X : Type 0} (holds : T → List ℕ → Type 0) (before after : List X → Type 0) (f : X → List ℕ) (later : Bool) (count : ℕ) (old new : T) : Type 0 where
  pub all : List X
  pub counted : length all ≡ count
  pub taken : Leaves before after all
  pub put : Puts holds old new (comma_texts f false all)
  pub later_is : later ≡ follows false all

pub passed_next : {T X : Type 0} (holds : T → List ℕ → Type 0) (before between after : List X → Type 0) (f : X → List ℕ) (later : Bool) (count : ℕ) (old out mid new : T)
    → Puts holds out mid (comma_if later) → Printed holds between after f mid new → PrintedSoFar holds before between f later count old out → PrintedSoFar holds before after f true (count + 1) old new
passed_next holds before between after f later count old out mid new m p h =
    let own = p.one ∷ [] in
    let text = comma_if (follows false h.all) ++ f p.one in
    let comma : Puts holds out mid (comma_if (follows false h.all)) = puts_is holds out mid (comma_if later) (comma_if (follows false h.all)) (ap (λ (b : Bool). comma_if b) h.later_is) m in
    let next : Puts holds out new text = puts_then holds out mid new (comma_if (follows false h.all)) (f p.one) comma p.put in
    record {
      all = h.all ++ own;
      counted = omega (arith, length-append h.all own, h.counted);
      taken = one_after_other before between after h.all own h.taken p.taken;
      put = puts_is holds old new (comma_texts f false h.all ++ text) (comma_texts f false (h.all ++ own)) (sym (texts-snoc f false h.all p.one)) (puts_then holds old out new (comma_texts f false h.all) text h.put next);
      later_is = sym (follows-snoc false h.all p.one);
    }

pub passed_all : {T X : Type 0} (holds : T → List ℕ → Type 0) (before after : List X → Type 0) (f : X → List ℕ) (later : Bool) (count n : ℕ) (old new : T) → count ≡ n → PrintedSoFar holds before after f later count old new → PrintedAll holds before after (comma_texts f false) n old new
passed_all holds before after f later count n old new e h = record { all = h.all; counted = h.counted ∙ e; taken = h.taken; put = h.put }

-- ---- a value of a kind that contains no other

pub scalar_taken : {T : Type 0} (holds : T → List ℕ → Type 0) (s : Shape) (k : Scalar) (o : List ℕ) (l : Layout) (before : List ColumnReader) (d : ColumnReader) (source : ValueSource) (old new : T) → s ≡ scalar k o → l ≡ Leaf → 1 ≤ length before
    → PrintedValue holds (ScalarLeft k (get_or before 0 d).source) (ScalarLeft k source) leaf_text old new
    → PrintedValue holds (OwnLeft s before) (OwnLeft s (slice_set before 0 (record { present = (get_or before 0 d).present; source = source }))) (text_by l) old new
scalar_taken holds s k o l [] d source old new is leaf some p = absurd (omega (arith, some))
scalar_taken holds s k o l (own ∷ below) d source old new is leaf some p =
    rw (is, leaf, text_by-Leaf) (record { one = p.one; some = p.some; taken = p.taken; put = p.put })

pub scalar_lacking : (s : Shape) (k : Scalar) (o : List ℕ) (before : List ColumnReader) (d : ColumnReader) → s ≡ scalar k o → 1 ≤ length before
    → Lacks (ScalarLeft k (get_or before 0 d).source) 1 → Lacks (OwnLeft s before) 1
scalar_lacking s k o [] d is some p = absurd (omega (arith, some))
scalar_lacking s k o (own ∷ below) d is some p = rw is p

-- ---- a cell

pub value_taken : {T : Type 0} (holds : T → List ℕ → Type 0) (s : Shape) (f : Cell → List ℕ) (before after : List ColumnReader) (own' d : ColumnReader) (old new : T) → 1 ≤ length before → length after ≡ length (slice_set before 0 own')
    → own'.source ≡ (get_or before 0 d).source → Leaves (MarksLeft (get_or before 0 d).present) (MarksLeft own'.present) (true ∷ [])
    → PrintedValue holds (OwnLeft s (slice_set before 0 own')) (OwnLeft s after) f old new → marks_of after ≡ marks_of (slice_set before 0 own')
    → Printed holds (CellsLeft s before) (CellsLeft s after) f old new
value_taken holds s f before after own' d old new some l e p q m =
    record { one = q.one; taken = cell_value s before after own' d q.one q.some some l e p q.taken m; put = q.put }

-- ---- lists and structs

-- a text in brackets
pub bracketed : {T : Type 0} (holds : T → List ℕ → Type 0) (old begun mid new : T) (text : List ℕ) → Puts holds old begun (91 ∷ []) → Puts holds begun mid text → Puts holds mid new (93 ∷ []) → Puts holds old new (91 ∷ (text ++ 93 ∷ []))
bracketed holds old begun mid new text b m n =
    puts_then holds old begun new (91 ∷ []) (text ++ 93 ∷ []) b (puts_then holds begun mid new text (93 ∷ []) m n)

pub list_taken_text : {T : Type 0} (holds : T → List ℕ → Type 0) (s e : Shape) (o : List ℕ) (l : Layout) (b : Box Layout Global) (before after : List ColumnReader) (old new : T) → s ≡ list_of e o → l ≡ ListOf b → 1 ≤ length before → length after ≡ length before
    → Printed holds (ListsOf e before) (ListsOf e after) (λ cells. 91 ∷ (comma_texts (text_by b.value) false cells ++ 93 ∷ [])) old new
    → PrintedValue holds (OwnLeft s before) (OwnLeft s after) (text_by l) old new
list_taken_text holds s e o l b before after old new is layout some same p = record {
  one = list (cells_of p.one);
  some = refl;
  taken = own_list s e o before after p.one (list (cells_of p.one)) is refl some same p.taken;
  put = puts_is holds old new (91 ∷ (comma_texts (text_by b.value) false p.one ++ 93 ∷ [])) (text_by l (list (cells_of p.one))) (sym (list_printed l b p.one layout)) p.put;
}

pub struct_taken_text : {T : Type 0} (holds : T → List ℕ → Type 0) (s : Shape) (fs : Fields) (o : List ℕ) (l : Layout) (ms : Vec Member Global) (xs : Vec FieldColumns Global) (before ys : List ColumnReader) (old mid new : T) → s ≡ struct_of fs o → l ≡ Struct ms xs → 1 ≤ length before
    → Puts holds old mid (123 ∷ []) → Printed holds (FieldsLeft fs (take (length before - 1) (drop 1 before))) (FieldsLeft fs ys) (parts_text (member_parts ms.items)) mid new
    → PrintedValue holds (OwnLeft s before) (OwnLeft s (put_mid 1 (length before - 1) before ys)) (text_by l) old new
struct_taken_text holds s fs o l ms xs before ys old mid new is layout some m p = record {
  one = struct (cells_of p.one);
  some = refl;
  taken = own_struct s fs o before ys p.one (struct (cells_of p.one)) is refl some p.taken;
  put = puts_is holds old new (123 ∷ parts_text (member_parts ms.items) p.one) (text_by l (struct (cells_of p.one))) (sym (struct_printed l ms xs p.one layout))
      (puts_then holds old mid new (123 ∷ []) (parts_text (member_parts ms.items) p.one) m p.put);
}

-- ---- maps

pub map_taken_text : {T : Type 0} (holds : T → List ℕ → Type 0) (s k v : Shape) (o : List ℕ) (l : Layout) (b : Box PairLayout Global) (before after : List ColumnReader) (old new : T) → s ≡ map_of k v o → l ≡ MapLayout b → 1 ≤ length before → length after ≡ length before
    → Printed holds (MapsOf k v before) (MapsOf k v after) (λ ps. 91 ∷ (comma_texts (pair_text (pair_texts b.value)) false ps ++ 93 ∷ [])) old new
    → PrintedValue holds (OwnLeft s before) (OwnLeft s after) (text_by l) old new
map_taken_text holds s k v o l b before after old new is layout some same p = record {
  one = pairs (pairs_of p.one);
  some = refl;
  taken = own_map s k v o before after p.one (pairs (pairs_of p.one)) is refl some same p.taken;
  put = puts_is holds old new (91 ∷ (comma_texts (pair_text (pair_texts b.value)) false p.one ++ 93 ∷ [])) (text_by l (pairs (pairs_of p.one))) (sym (map_printed l b p.one layout)) p.put;
}

-- a key and a value in brackets
paired_text : {T : Type 0} (holds : T → List ℕ → Type 0) (old begun first comma second new : T) (a b : List ℕ) → Puts holds old begun (91 ∷ []) → Puts holds begun first a → Puts holds first comma (44 ∷ []) → Puts holds comma second b → Puts holds second new (93 ∷ [])
    → Puts holds old new (91 ∷ (a ++ 44 ∷ (b ++ 93 ∷ [])))
paired_text holds old begun first comma second new a b e1 e2 e3 e4 e5 =
    let value = puts_then holds comma second new b (93 ∷ []) e4 e5 in
    let behind = puts_then holds first comma new (44 ∷ []) (b ++ 93 ∷ []) e3 value in
    puts_then holds old begun new (91 ∷ []) (a ++ 44 ∷ (b ++ 93 ∷ [])) e1 (puts_then holds begun first new a (44 ∷ (b ++ 93 ∷ [])) e2 behind)

pub pair_taken : {T : Type 0} (holds : T → List ℕ → Type 0) (k v : Shape) (p : PairLayout) (before after own own' rest rest' : List ColumnReader) (old begun first comma second new : T)
    → own ≡ take (width k) before → rest ≡ drop (width k) before → after ≡ own' ++ rest' → length own' ≡ width k
    → Puts holds old begun (91 ∷ []) → Printed holds (CellsLeft k own) (CellsLeft k own') (text_by p.key) begun first → Puts holds first comma (44 ∷ []) → Printed holds (CellsLeft v rest) (CellsLeft v rest') (text_by p.value) comma second
    → Puts holds second new (93 ∷ []) → Printed holds (PairsLeft k v before) (PairsLeft k v after) (pair_text (pair_texts p)) old new
pair_taken holds k v p before after own own' rest rest' old begun first comma second new eo er ea n b key c value e = record {
  one = (key.one, value.one);
  taken = pair_next k v before after own own' rest rest' (key.one, value.one) eo er ea n key.taken value.taken;
  put = rw (pair_texts-is p) (paired_text holds old begun first comma second new (text_by p.key key.one) (text_by p.value value.one) b key.put c value.put e);
}
