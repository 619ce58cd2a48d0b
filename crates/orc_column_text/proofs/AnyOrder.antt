-- Fields that are taken one by one, in any order.
use Rattle.std.proofs.Common.{◌≡◌, ℕ, zero, suc, ◌+◌, ◌<◌, ◌≤◌, List, [], ◌∷◌, ◌++◌, Bool, inl, inr, Option, Some, None, length, map, take, drop, get_or, slice_set, refl, sym, ap, ◌∙◌, subst, arith, append_assoc, length-drop}
use Rattle.std.specs.Prelude.{slice_get}
use Rattle.std.specs.List.{AllByRecursion}
use Rattle.std.proofs.lemmas.List.{drop-drop, drop-take, drop-append-le, length-take-le, get_or-set_other}
use Rattle.std.proofs.lemmas.Slice.{take-put_mid_below}
use Rattle.std.proofs.Math.Seq.{take-append_seam, drop-append_seam}
use borrow.Rule.Slice.PartMut.{put_mid}
use Rattle.orc_values.specs.Cells.{Cell, null}
use Rattle.orc_values.specs.Shapes.{Shape, Fields, no_field, field, width, widths}
use Rattle.orc_column_reader.specs.Columns.{CellsLeft, FieldsLeft}
use Rattle.orc_column_reader.specs.Fronts.{Leaves, Lacks}
use Rattle.orc_column_reader.specs.ReaderFaults.{CellsMeet, FieldsMeet}
use Rattle.orc_column_reader.specs.declared.column.ColumnReader.{ColumnReader}
use Rattle.orc_directory.specs.declared.fault.StripeFault.{StripeFault}
use Rattle.orc_row_reader.proofs.Arms.{fields_none, fields_lack_first, fields_lack_others}
use Rattle.orc_column_reader.proofs.Fronts.{fielded_leaves}
use Rattle.orc_json_printer.specs.LaidOut.{count_of, AreColumnsOf, member_of, AreMembersOf}
use Rattle.orc_json_printer.specs.Layouts.{LaidMember, parts_text}
use Rattle.orc_json_printer.specs.Outputs.{Puts}
use Rattle.orc_json_printer.proofs.Outputs.{puts_then, puts_is}
use Rattle.orc_json_printer.specs.declared.layout.FieldColumns.{FieldColumns}
use Rattle.orc_column_text.specs.Taken.{Printed}
use Rattle.orc_column_text.specs.Regions.{field_at, columns_before, readers_at, GaveCell, PrintedMember}

-- ---- the columns of the fields

columns_within : (fs : Fields) (i : ℕ) → columns_before fs i ≤ widths fs
columns_within no_field i = omega arith
columns_within (field name s fs) zero = omega arith
columns_within (field name s fs) (suc i) = let l = columns_within fs i in omega (arith, l)

pub region_within : (fs : Fields) (i : ℕ) → i < count_of fs → columns_before fs i + width (field_at fs i) ≤ widths fs
region_within no_field i lt = absurd (omega (arith, lt))
region_within (field name s fs) zero lt = omega arith
region_within (field name s fs) (suc i) lt = let l = region_within fs i (omega (arith, lt)) in omega (arith, l)

pub columns_told : (fs : Fields) (k : ℕ) (xs : List FieldColumns) (i : ℕ) (d : FieldColumns) → AreColumnsOf fs k xs → i < length xs
    → ((get_or xs i d).first ≡ k + columns_before fs i) × ((get_or xs i d).count ≡ width (field_at fs i)) × (i < count_of fs)
columns_told no_field k [] i d h lt = absurd (omega (arith, lt))
columns_told no_field k (x ∷ xs) i d h lt = absurd h
columns_told (field name s fs) k [] i d h lt = absurd h
columns_told (field name s fs) k (x ∷ xs) zero d h lt = (omega (arith, h.0), h.1, omega arith)
columns_told (field name s fs) k (x ∷ xs) (suc i) d h lt =
    let r = columns_told fs (k + width s) xs i d h.2 (omega (arith, lt)) in
    (omega (arith, r.0), r.1, omega (arith, r.2))

pub columns_many : (fs : Fields) (k : ℕ) (xs : List FieldColumns) → AreColumnsOf fs k xs → length xs ≡ count_of fs
columns_many no_field k [] h = refl
columns_many no_field k (x ∷ xs) h = absurd h
columns_many (field name s fs) k [] h = absurd h
columns_many (field name s fs) k (x ∷ xs) h = ap suc (columns_many fs (k + width s) xs h.2)

-- ---- which of the fields were taken, and their cells

-- of a field that wasn't taken the readers are as they were
abbrev FieldIs : Shape → List ColumnReader → List ColumnReader → Option Cell → Type 0
FieldIs s before now None = now ≡ before
FieldIs s before now (Some c) = GaveCell s before now c

abbrev pub FieldsAre : Fields → List ColumnReader → List ColumnReader → List (Option Cell) → Type 0
FieldsAre no_field before now [] = Unit {0}
FieldsAre no_field before now (c ∷ cs) = ⊥
FieldsAre (field name s fs) before now [] = ⊥
FieldsAre (field name s fs) before now (c ∷ cs) =
    FieldIs s (take (width s) before) (take (width s) now) c × FieldsAre fs (drop (width s) before) (drop (width s) now) cs

abbrev pub none_of : Fields → List (Option Cell)
none_of no_field = []
none_of (field name s fs) = None ∷ none_of fs

fields_begin : (fs : Fields) (rs : List ColumnReader) → FieldsAre fs rs rs (none_of fs)
fields_begin no_field rs = tt
fields_begin (field name s fs) rs = (refl, fields_begin fs (drop (width s) rs))

fields_many : (fs : Fields) (before now : List ColumnReader) (cs : List (Option Cell)) → FieldsAre fs before now cs → length cs ≡ count_of fs
fields_many no_field before now [] h = refl
fields_many no_field before now (c ∷ cs) h = absurd h
fields_many (field name s fs) before now [] h = absurd h
fields_many (field name s fs) before now (c ∷ cs) h = ap suc (fields_many fs (drop (width s) before) (drop (width s) now) cs h.1)

-- what stands behind a first part, after a write behind it
behind_first : {X : Type 0} (w a k : ℕ) (rs ys : List X) → w + a ≤ length rs → drop w (put_mid (w + a) k rs ys) ≡ put_mid a k (drop w rs) ys
behind_first w a k rs ys le =
    let rest = ys ++ drop k (drop (w + a) rs) in
    let n : length (take (w + a) rs) ≡ w + a = length-take-le (w + a) rs le in
    drop-append-le w (take (w + a) rs) rest (omega (arith, n))
    ∙ ap (λ t. t ++ rest) (drop-take w a rs)
    ∙ ap (λ t. take a (drop w rs) ++ (ys ++ drop k t)) (sym (drop-drop a w rs))

-- one more is taken
fields_step : (fs : Fields) (before now : List ColumnReader) (cs : List (Option Cell)) (i : ℕ) (ys : List ColumnReader) (c : Cell) → i < length cs → get_or cs i None ≡ None → widths fs ≤ length now
    → length ys ≡ width (field_at fs i) → GaveCell (field_at fs i) (readers_at fs i now) ys c → FieldsAre fs before now cs
    → FieldsAre fs before (put_mid (columns_before fs i) (width (field_at fs i)) now ys) (slice_set cs i (Some c))
fields_step no_field before now [] i ys c lt free room n gave h = absurd (omega (arith, lt))
fields_step no_field before now (x ∷ cs) i ys c lt free room n gave h = absurd h
fields_step (field name s fs) before now [] i ys c lt free room n gave h = absurd h
fields_step (field name s fs) before now (x ∷ cs) zero ys c lt free room n gave h =
    let w = width s in
    let own : take w (ys ++ drop w now) ≡ ys = ap (λ k. take k (ys ++ drop w now)) (sym n) ∙ take-append_seam ys (drop w now) in
    let others : drop w (ys ++ drop w now) ≡ drop w now = ap (λ k. drop k (ys ++ drop w now)) (sym n) ∙ drop-append_seam ys (drop w now) in
    let same : take w now ≡ take w before = subst (λ z. FieldIs s (take w before) (take w now) z) free h.0 in (
      subst (λ z. GaveCell s (take w before) z c) (sym own) (subst (λ z. GaveCell s z ys c) same gave),
      subst (λ z. FieldsAre fs (drop w before) z cs) (sym others) h.1,
    )
fields_step (field name s fs) before now (x ∷ cs) (suc i) ys c lt free room n gave h =
    let w = width s in
    let a = columns_before fs i in
    let k = width (field_at fs i) in
    let within = columns_within fs i in
    let le : w + a ≤ length now = omega (arith, within, room) in
    let own : take w (put_mid (w + a) k now ys) ≡ take w now = take-put_mid_below (w + a) k now ys w (omega arith) le in
    let others : drop w (put_mid (w + a) k now ys) ≡ put_mid a k (drop w now) ys = behind_first w a k now ys le in
    let less : widths fs ≤ length (drop w now) = omega (arith, room, length-drop w now) in
    let gave' : GaveCell (field_at fs i) (take k (drop a (drop w now))) ys c = subst (λ z. GaveCell (field_at fs i) (take k z) ys c) (sym (drop-drop a w now)) gave in (
      subst (λ z. FieldIs s (take w before) z x) (sym own) h.0,
      subst (λ z. FieldsAre fs (drop w before) z (slice_set cs i (Some c))) (sym others)
          (fields_step fs (drop w before) (drop w now) cs i ys c (omega (arith, lt)) free less n gave' h.1),
    )

-- the readers of one that wasn't taken
fields_free : (fs : Fields) (before now : List ColumnReader) (cs : List (Option Cell)) (i : ℕ) → i < length cs → get_or cs i None ≡ None → FieldsAre fs before now cs → readers_at fs i now ≡ readers_at fs i before
fields_free no_field before now [] i lt free h = absurd (omega (arith, lt))
fields_free no_field before now (x ∷ cs) i lt free h = absurd h
fields_free (field name s fs) before now [] i lt free h = absurd h
fields_free (field name s fs) before now (x ∷ cs) zero lt free h = subst (λ z. FieldIs s (take (width s) before) (take (width s) now) z) free h.0
fields_free (field name s fs) before now (x ∷ cs) (suc i) lt free h =
    let w = width s in
    let a = columns_before fs i in
    let k = width (field_at fs i) in
    ap (take k) (sym (drop-drop a w now)) ∙ fields_free fs (drop w before) (drop w now) cs i (omega (arith, lt)) free h.1 ∙ ap (take k) (drop-drop a w before)

-- where one lacks a cell, or meets a fault, so do all
field_lacks : (fs : Fields) (rs : List ColumnReader) (i : ℕ) → i < count_of fs → Lacks (CellsLeft (field_at fs i) (readers_at fs i rs)) 1 → Lacks (FieldsLeft fs rs) 1
field_lacks no_field rs i lt p = absurd (omega (arith, lt))
field_lacks (field name s fs) rs zero lt p = fields_lack_first (field name s fs) name s fs rs (take (width s) rs) refl refl p
field_lacks (field name s fs) rs (suc i) lt p =
    let w = width s in
    fields_lack_others (field name s fs) name s fs rs (drop w rs) refl refl
    (field_lacks fs (drop w rs) i (omega (arith, lt)) (subst (λ z. Lacks (CellsLeft (field_at fs i) (take (width (field_at fs i)) z)) 1) (sym (drop-drop (columns_before fs i) w rs)) p))

field_meets : (fs : Fields) (rs : List ColumnReader) (i : ℕ) (all : Bool) (n : ℕ) (f : StripeFault) → i < count_of fs → CellsMeet (field_at fs i) (readers_at fs i rs) all n f → FieldsMeet fs rs all n f
field_meets no_field rs i all n f lt p = absurd (omega (arith, lt))
field_meets (field name s fs) rs zero all n f lt p = inl p
field_meets (field name s fs) rs (suc i) all n f lt p =
    let w = width s in
    inr (field_meets fs (drop w rs) i all n f (omega (arith, lt)) (subst (λ z. CellsMeet (field_at fs i) (take (width (field_at fs i)) z) all n f) (sym (drop-drop (columns_before fs i) w rs)) p))

-- ---- once all are taken

abbrev pub missing : List (Option Cell) → ℕ
missing [] = 0
missing (None ∷ cs) = suc (missing cs)
missing (Some c ∷ cs) = missing cs

abbrev pub cells_taken : List (Option Cell) → List Cell
cells_taken [] = []
cells_taken (None ∷ cs) = null ∷ cells_taken cs
cells_taken (Some c ∷ cs) = c ∷ cells_taken cs

missing_begin : (fs : Fields) → missing (none_of fs) ≡ count_of fs
missing_begin no_field = refl
missing_begin (field name s fs) = ap suc (missing_begin fs)

missing_step : (cs : List (Option Cell)) (i : ℕ) (c : Cell) → i < length cs → get_or cs i None ≡ None → missing cs ≡ suc (missing (slice_set cs i (Some c)))
missing_step [] i c lt free = absurd (omega (arith, lt))
missing_step (None ∷ cs) zero c lt free = refl
missing_step (Some x ∷ cs) zero c lt free = let never : Some x ≡ None = free in absurd cc
missing_step (None ∷ cs) (suc i) c lt free = ap suc (missing_step cs i c (omega (arith, lt)) free)
missing_step (Some x ∷ cs) (suc i) c lt free = missing_step cs i c (omega (arith, lt)) free

fields_done : (fs : Fields) (before now : List ColumnReader) (cs : List (Option Cell)) → missing cs ≡ 0 → FieldsAre fs before now cs → Leaves (FieldsLeft fs before) (FieldsLeft fs now) (cells_taken cs ∷ [])
fields_done no_field before now [] e h = fields_none no_field before refl
fields_done no_field before now (c ∷ cs) e h = absurd h
fields_done (field name s fs) before now [] e h = absurd h
fields_done (field name s fs) before now (None ∷ cs) e h = absurd (omega (arith, e))
fields_done (field name s fs) before now (Some c ∷ cs) e h =
    let w = width s in
    fielded_leaves (CellsLeft s (take w before)) (CellsLeft s (take w now)) (FieldsLeft fs (drop w before)) (FieldsLeft fs (drop w now)) (c ∷ []) (cells_taken cs ∷ []) refl
    h.0.taken (fields_done fs (drop w before) (drop w now) cs e h.1)

fields_done_meet : (fs : Fields) (before now : List ColumnReader) (cs : List (Option Cell)) (all : Bool) (n : ℕ) (f : StripeFault) → missing cs ≡ 0 → FieldsAre fs before now cs → FieldsMeet fs now all n f → FieldsMeet fs before all (suc n) f
fields_done_meet no_field before now [] all n f e h m = absurd m
fields_done_meet no_field before now (c ∷ cs) all n f e h m = absurd h
fields_done_meet (field name s fs) before now [] all n f e h m = absurd h
fields_done_meet (field name s fs) before now (None ∷ cs) all n f e h m = absurd (omega (arith, e))
fields_done_meet (field name s fs) before now (Some c ∷ cs) all n f e h (inl m) = inl (h.0.faults all n f m)
fields_done_meet (field name s fs) before now (Some c ∷ cs) all n f e h (inr m) = inr (fields_done_meet fs (drop (width s) before) (drop (width s) now) cs all n f e h.1 m)

-- ---- the cells, as far as they are known

abbrev pub Agrees : List (Option Cell) → List Cell → Type 0
Agrees [] ds = Unit {0}
Agrees (None ∷ cs) [] = Agrees cs []
Agrees (None ∷ cs) (d ∷ ds) = Agrees cs ds
Agrees (Some c ∷ cs) [] = ⊥
Agrees (Some c ∷ cs) (d ∷ ds) = (d ≡ c) × Agrees cs ds

agrees_all : (cs : List (Option Cell)) → Agrees cs (cells_taken cs)
agrees_all [] = tt
agrees_all (None ∷ cs) = agrees_all cs
agrees_all (Some c ∷ cs) = (refl, agrees_all cs)

agrees_at : (cs : List (Option Cell)) (ds : List Cell) (i : ℕ) (c : Cell) → i < length cs → Agrees (slice_set cs i (Some c)) ds → get_or ds i null ≡ c
agrees_at [] ds i c lt a = absurd (omega (arith, lt))
agrees_at (x ∷ cs) [] zero c lt a = absurd a
agrees_at (x ∷ cs) (d ∷ ds) zero c lt a = a.0
agrees_at (None ∷ cs) [] (suc i) c lt a = agrees_at cs [] i c (omega (arith, lt)) a
agrees_at (None ∷ cs) (d ∷ ds) (suc i) c lt a = agrees_at cs ds i c (omega (arith, lt)) a
agrees_at (Some x ∷ cs) [] (suc i) c lt a = absurd a
agrees_at (Some x ∷ cs) (d ∷ ds) (suc i) c lt a = agrees_at cs ds i c (omega (arith, lt)) a.1

agrees_before : (cs : List (Option Cell)) (ds : List Cell) (i : ℕ) (c : Cell) → i < length cs → get_or cs i None ≡ None → Agrees (slice_set cs i (Some c)) ds → Agrees cs ds
agrees_before [] ds i c lt free a = absurd (omega (arith, lt))
agrees_before (None ∷ cs) [] zero c lt free a = absurd a
agrees_before (None ∷ cs) (d ∷ ds) zero c lt free a = a.1
agrees_before (Some x ∷ cs) ds zero c lt free a = let never : Some x ≡ None = free in absurd cc
agrees_before (None ∷ cs) [] (suc i) c lt free a = agrees_before cs [] i c (omega (arith, lt)) free a
agrees_before (None ∷ cs) (d ∷ ds) (suc i) c lt free a = agrees_before cs ds i c (omega (arith, lt)) free a
agrees_before (Some x ∷ cs) [] (suc i) c lt free a = absurd a
agrees_before (Some x ∷ cs) (d ∷ ds) (suc i) c lt free a = (a.0, agrees_before cs ds i c (omega (arith, lt)) free a.1)

-- ---- the members that are left

-- none of their fields was taken
abbrev pub AreFree : List (Option Cell) → List LaidMember → Type 0
AreFree cs ps = AllByRecursion (λ p. get_or cs p.place None ≡ None) ps

none_at : (fs : Fields) (i : ℕ) → get_or (none_of fs) i None ≡ None
none_at no_field i = refl
none_at (field name s fs) zero = refl
none_at (field name s fs) (suc i) = none_at fs i

free_begin : (fs : Fields) (ps : List LaidMember) → AreFree (none_of fs) ps
free_begin fs [] = tt
free_begin fs (p ∷ ps) = (none_at fs p.place, free_begin fs ps)

abbrev index_told : Option ℕ → ℕ
index_told None = 0
index_told (Some i) = i

-- a member of a later index has another place
free_step : (xs : List FieldColumns) (k i : ℕ) (place : ℕ) (c : Cell) (cs : List (Option Cell)) (ps : List LaidMember) → k < i → slice_get (map member_of xs) place ≡ Some k
    → AreMembersOf xs i ps → AreFree cs ps → AreFree (slice_set cs place (Some c)) ps
free_step xs k i place c cs [] lt at own free = tt
free_step xs k i place c cs (p ∷ ps) lt at own free =
    let other : p.place ≡ place → ⊥ = λ e.
    let same : i ≡ k = ap index_told (sym own.0 ∙ ap (λ n. slice_get (map member_of xs) n) e ∙ at) in
    omega (arith, same, lt)
    in
    (get_or-set_other cs place p.place (Some c) None other ∙ free.0, free_step xs k (suc i) place c cs ps (omega (arith, lt)) at own.1 free.1)

-- ---- members, one after the other

-- some members are printed, and those that are left make the text whole, whatever the cells of their fields are
pub record Reading {T : Type 0} (holds : T → List ℕ → Type 0) (fs : Fields) (before now : List ColumnReader) (all left : List LaidMember) (start out : T) : Type 0 where
  pub cells : List (Option Cell)
  pub are : FieldsAre fs before now cells
  pub counted : length now ≡ widths fs
  pub missing_is : missing cells ≡ length left
  pub free : AreFree cells left
  pub text : (ds : List Cell) (new : T) → Agrees cells ds → Puts holds out new (parts_text left ds) → Puts holds start new (parts_text all ds)

pub reading_first : {T : Type 0} (holds : T → List ℕ → Type 0) (fs : Fields) (rs : List ColumnReader) (ps : List LaidMember) (out : T) → length rs ≡ widths fs → length ps ≡ count_of fs → Reading holds fs rs rs ps ps out out
reading_first holds fs rs ps out n m = record {
  cells = none_of fs;
  are = fields_begin fs rs;
  counted = n;
  missing_is = missing_begin fs ∙ sym m;
  free = free_begin fs ps;
  text = λ ds new a p. p;
}

pub reading_next : {T : Type 0} (holds : T → List ℕ → Type 0) (fs : Fields) (before now after : List ColumnReader) (all left rest : List LaidMember) (p : LaidMember) (start out new : T) (xs : List FieldColumns) (index : ℕ)
    → left ≡ p ∷ rest → AreMembersOf xs index left → p.place < count_of fs → length after ≡ length now → PrintedMember holds fs p now after out new
    → Reading holds fs before now all left start out → Reading holds fs before after all rest start new
reading_next holds fs before now after all left rest p start out new xs index is own lt same m r =
    let own' : AreMembersOf xs index (p ∷ rest) = subst (AreMembersOf xs index) is own in
    let free : AreFree r.cells (p ∷ rest) = subst (AreFree r.cells) is r.free in
    let n = fields_many fs before now r.cells r.are in
    let there : p.place < length r.cells = omega (arith, n, lt) in
    let fewer = missing_step r.cells p.place m.one there free.0 in
    record {
      cells = slice_set r.cells p.place (Some m.one);
      are = subst (λ z. FieldsAre fs before z (slice_set r.cells p.place (Some m.one))) (sym m.readers)
          (fields_step fs before now r.cells p.place m.own m.one there free.0 (omega (arith, r.counted)) m.counted m.gave r.are);
      counted = same ∙ r.counted;
      missing_is = omega (arith, fewer, r.missing_is, ap length is);
      free = free_step xs index (suc index) p.place m.one r.cells rest (omega arith) own'.0 own'.1 free.1;
      text = λ ds end a others.
          let known = agrees_at r.cells ds p.place m.one there a in
          let tail = parts_text rest ds in
          let one : (p.key ++ p.text m.one) ++ tail ≡ parts_text left ds =
          append_assoc p.key (p.text m.one) tail
          ∙ ap (λ (c : Cell). p.key ++ (p.text c ++ tail)) (sym known)
          ∙ ap (λ (ps : List LaidMember). parts_text ps ds) (sym is)
          in
          r.text ds end (agrees_before r.cells ds p.place m.one there free.0 a)
          (puts_is holds out end ((p.key ++ p.text m.one) ++ tail) (parts_text left ds) one (puts_then holds out new end (p.key ++ p.text m.one) tail m.put others));
    }

pub reading_last : {T : Type 0} (holds : T → List ℕ → Type 0) (fs : Fields) (before now : List ColumnReader) (all left : List LaidMember) (start out new : T) → left ≡ [] → Puts holds out new (125 ∷ []) → Reading holds fs before now all left start out
    → Printed holds (FieldsLeft fs before) (FieldsLeft fs now) (parts_text all) start new
reading_last holds fs before now all left start out new is n r =
    let cs = cells_taken r.cells in
    record {
      one = cs;
      taken = fields_done fs before now r.cells (r.missing_is ∙ ap length is) r.are;
      put = r.text cs new (agrees_all r.cells) (puts_is holds out new (125 ∷ []) (parts_text left cs) (ap (λ (ps : List LaidMember). parts_text ps cs) (sym is)) n);
    }

pub reading_last_meet : {T : Type 0} (holds : T → List ℕ → Type 0) (fs : Fields) (before now : List ColumnReader) (all left : List LaidMember) (start out : T) (every : Bool) (n : ℕ) (f : StripeFault) → left ≡ [] → Reading holds fs before now all left start out
    → FieldsMeet fs now every n f → FieldsMeet fs before every (suc n) f
reading_last_meet holds fs before now all left start out every n f is r m = fields_done_meet fs before now r.cells every n f (r.missing_is ∙ ap length is) r.are m

pub reading_lacks : {T : Type 0} (holds : T → List ℕ → Type 0) (fs : Fields) (before now : List ColumnReader) (all left rest : List LaidMember) (p : LaidMember) (start out : T) → left ≡ p ∷ rest → p.place < count_of fs → Reading holds fs before now all left start out
    → Lacks (CellsLeft (field_at fs p.place) (readers_at fs p.place now)) 1 → Lacks (FieldsLeft fs before) 1
reading_lacks holds fs before now all left rest p start out is lt r h =
    let free : AreFree r.cells (p ∷ rest) = subst (AreFree r.cells) is r.free in
    let n = fields_many fs before now r.cells r.are in
    field_lacks fs before p.place lt
    (subst (λ z. Lacks (CellsLeft (field_at fs p.place) z) 1) (fields_free fs before now r.cells p.place (omega (arith, n, lt)) free.0 r.are) h)

pub reading_meets : {T : Type 0} (holds : T → List ℕ → Type 0) (fs : Fields) (before now : List ColumnReader) (all left rest : List LaidMember) (p : LaidMember) (start out : T) (every : Bool) (n : ℕ) (f : StripeFault) → left ≡ p ∷ rest → p.place < count_of fs
    → Reading holds fs before now all left start out → CellsMeet (field_at fs p.place) (readers_at fs p.place now) every n f → FieldsMeet fs before every n f
reading_meets holds fs before now all left rest p start out every n f is lt r h =
    let free : AreFree r.cells (p ∷ rest) = subst (AreFree r.cells) is r.free in
    let m = fields_many fs before now r.cells r.are in
    field_meets fs before p.place every n f lt
    (subst (λ z. CellsMeet (field_at fs p.place) z every n f) (fields_free fs before now r.cells p.place (omega (arith, m, lt)) free.0 r.are) h)
