-- Members of a struct, at the columns of their fields.
use Rattle.std.proofs.Common.{◌≡◌, ℕ, zero, suc, ◌+◌, ◌-◌, ◌<◌, ◌≤◌, List, [], ◌∷◌, Bool, Some, length, map, take, drop, get_or, refl, sym, ap, ◌∙◌, subst, arith, drop-cons}
use Rattle.std.specs.Prelude.{slice_get}
use Rattle.std.proofs.lemmas.List.{length-take-le, length-drop}
use borrow.Rule.Slice.PartMut.{put_mid}
use Rattle.orc_values.specs.Shapes.{Fields, width, widths}
use Rattle.orc_values.specs.Views.{shape, fields}
use Rattle.orc_values.specs.declared.tree.Field.{Field}
use Rattle.orc_values.proofs.Views.{name_and_type-is}
use Rattle.orc_column_reader.specs.Columns.{CellsLeft, FieldsLeft}
use Rattle.orc_column_reader.specs.Fronts.{Lacks}
use Rattle.orc_column_reader.specs.ReaderFaults.{CellsMeet, FieldsMeet}
use Rattle.orc_column_reader.specs.declared.column.ColumnReader.{ColumnReader}
use Rattle.orc_directory.specs.declared.fault.StripeFault.{StripeFault}
use Rattle.orc_json_printer.specs.LaidOut.{count_of, AreColumnsOf, member_of, AreMembersOf}
use Rattle.orc_json_printer.specs.Layouts.{LaidMember, part, member_parts, text_by}
use Rattle.orc_json_printer.specs.declared.layout.FieldColumns.{FieldColumns}
use Rattle.orc_json_printer.specs.declared.layout.Member.{Member}
use Rattle.orc_json_printer.specs.Outputs.{Puts}
use Rattle.orc_json_printer.proofs.Outputs.{puts_then}
use Rattle.orc_json_printer.proofs.Layouts.{part-is}
use Rattle.orc_column_text.specs.Taken.{Printed}
use Rattle.orc_column_text.specs.Regions.{field_at, columns_before, readers_at, GaveCell, PrintedMember}
use Rattle.orc_column_text.proofs.AnyOrder.{region_within, columns_many, Reading, reading_next, reading_lacks, reading_meets}

-- a member as what is printed of it
abbrev pub part_of : Member → LaidMember
part_of m = record { key = m.key.items; place = m.place; text = text_by m.layout }

pub many-fields : (fs : List Field) → count_of (fields fs) ≡ length fs
many-fields [] = refl
many-fields (f ∷ fs) = ap suc (many-fields fs)

pub field_at-is : (fs : List Field) (i : ℕ) (f : Field) → i < length fs → f ≡ get_or fs i f → field_at (fields fs) i ≡ shape f.tree
field_at-is [] i f lt is = absurd (omega (arith, lt))
field_at-is (x ∷ fs) zero f lt is = ap (λ p. p.1) (name_and_type-is x) ∙ ap (λ (g : Field). shape g.tree) (sym is)
field_at-is (x ∷ fs) (suc i) f lt is = field_at-is fs i f (omega (arith, lt)) is

told_within : (xs : List FieldColumns) (i k : ℕ) → slice_get (map member_of xs) i ≡ Some k → i < length xs
told_within [] zero k h = absurd cc
told_within [] (suc i) k h = absurd cc
told_within (x ∷ xs) zero k h = omega arith
told_within (x ∷ xs) (suc i) k h = let lt = told_within xs i k h in omega (arith, lt)

pub plus_one : (n : ℕ) → n + 1 ≡ suc n
plus_one n = omega arith

pub parts_from : (ms : List Member) (j : ℕ) (m : Member) → j < length ms → m ≡ get_or ms j m → member_parts (drop j ms) ≡ part_of m ∷ member_parts (drop (j + 1) ms)
parts_from ms j m lt is = rw (plus_one j, drop-cons ms j m, ← is, part-is m) refl

-- where the columns of the next member's field are told
pub place_told : (xs : List FieldColumns) (ms : List Member) (j : ℕ) (m : Member) → j < length ms → m ≡ get_or ms j m → AreMembersOf xs j (member_parts (drop j ms)) → m.place < length xs
place_told xs ms j m lt is own = told_within xs m.place j (subst (AreMembersOf xs j) (parts_from ms j m lt is) own).0

pub others_told : (xs : List FieldColumns) (ms : List Member) (j : ℕ) (m : Member) → j < length ms → m ≡ get_or ms j m → AreMembersOf xs j (member_parts (drop j ms)) → AreMembersOf xs (j + 1) (member_parts (drop (j + 1) ms))
others_told xs ms j m lt is own =
    subst (λ k. AreMembersOf xs k (member_parts (drop (j + 1) ms))) (sym (plus_one j)) (subst (AreMembersOf xs j) (parts_from ms j m lt is) own).1

-- ---- one member

pub region_length : {X : Type 0} (rs : List X) (first count : ℕ) → first + count ≤ length rs → length (take (first + count - first) (drop first rs)) ≡ count
region_length rs first count le =
    let k : first + count - first ≡ count = omega arith in
    ap (λ (n : ℕ). length (take n (drop first rs))) k ∙ length-take-le count (drop first rs) (omega (arith, le, length-drop first rs))

-- what stands behind the first of some
pub first_behind : {X : Type 0} (rs : List X) → length (take (length rs - 1) (drop 1 rs)) ≡ length rs - 1
first_behind rs = length-take-le (length rs - 1) (drop 1 rs) (omega (arith, length-drop 1 rs))

pub own_within : (fs : List Field) (place first count n : ℕ) → place < length fs → first ≡ columns_before (fields fs) place → count ≡ width (field_at (fields fs) place) → n ≡ widths (fields fs) → first + count ≤ n
own_within fs place first count n lt ef ec en =
    let r = region_within (fields fs) place (omega (arith, lt, many-fields fs)) in
    omega (arith, r, ef, ec, en)

pub own_less : (fs : List Field) (f : Field) (place : ℕ) → place < length fs → f ≡ get_or fs place f → width (shape f.tree) ≤ widths (fields fs)
own_less fs f place lt is =
    let r = region_within (fields fs) place (omega (arith, lt, many-fields fs)) in
    omega (arith, r, ap width (field_at-is fs place f lt is))

-- the readers of its field
own_readers : (fs : Fields) (place first count : ℕ) (before region : List ColumnReader) → first ≡ columns_before fs place → count ≡ width (field_at fs place) → region ≡ take count (drop first before) → region ≡ readers_at fs place before
own_readers fs place first count before region ef ec er = er ∙ ap (λ k. take k (drop first before)) ec ∙ ap (λ k. take (width (field_at fs place)) (drop k before)) ef

pub member_printed : {T : Type 0} (holds : T → List ℕ → Type 0) (fs : List Field) (f : Field) (m : Member) (before region ys after : List ColumnReader) (first count : ℕ) (old mid new : T) → m.place < length fs → f ≡ get_or fs m.place f
    → first ≡ columns_before (fields fs) m.place → count ≡ width (field_at (fields fs) m.place) → region ≡ take count (drop first before) → length ys ≡ count → after ≡ put_mid first count before ys
    → Puts holds old mid m.key.items → Printed holds (CellsLeft (shape f.tree) region) (CellsLeft (shape f.tree) ys) (text_by m.layout) mid new
    → ((all : Bool) (n : ℕ) (g : StripeFault) → CellsMeet (shape f.tree) ys all n g → CellsMeet (shape f.tree) region all (suc n) g)
    → PrintedMember holds (fields fs) (part m) before after old new
member_printed holds fs f m before region ys after first count old mid new lt is ef ec er n ea em p faults =
    let s = field_at-is fs m.place f lt is in
    let r = own_readers (fields fs) m.place first count before region ef ec er in
    let gave : GaveCell (shape f.tree) region ys p.one = record { taken = p.taken; faults = faults } in
    let whole : PrintedMember holds (fields fs) (part_of m) before after old new = record {
      one = p.one;
      own = ys;
      counted = n ∙ ec;
      gave = subst (λ z. GaveCell z (readers_at (fields fs) m.place before) ys p.one) (sym s) (subst (λ z. GaveCell (shape f.tree) z ys p.one) r gave);
      readers = ea ∙ ap (λ k. put_mid first k before ys) ec ∙ ap (λ k. put_mid k (width (field_at (fields fs) m.place)) before ys) ef;
      put = puts_then holds old mid new m.key.items (text_by m.layout p.one) em p.put;
    } in
    subst (λ q. PrintedMember holds (fields fs) q before after old new) (sym (part-is m)) whole

pub member_lacks : (fs : List Field) (f : Field) (place : ℕ) (before region : List ColumnReader) (first count : ℕ) → place < length fs → f ≡ get_or fs place f
    → first ≡ columns_before (fields fs) place → count ≡ width (field_at (fields fs) place) → region ≡ take count (drop first before)
    → Lacks (CellsLeft (shape f.tree) region) 1 → Lacks (CellsLeft (field_at (fields fs) place) (readers_at (fields fs) place before)) 1
member_lacks fs f place before region first count lt is ef ec er h =
    subst (λ z. Lacks (CellsLeft z (readers_at (fields fs) place before)) 1) (sym (field_at-is fs place f lt is))
    (subst (λ z. Lacks (CellsLeft (shape f.tree) z) 1) (own_readers (fields fs) place first count before region ef ec er) h)

pub member_meets : (fs : List Field) (f : Field) (place : ℕ) (before region : List ColumnReader) (first count : ℕ) (all : Bool) (n : ℕ) (g : StripeFault) → place < length fs → f ≡ get_or fs place f
    → first ≡ columns_before (fields fs) place → count ≡ width (field_at (fields fs) place) → region ≡ take count (drop first before)
    → CellsMeet (shape f.tree) region all n g → CellsMeet (field_at (fields fs) place) (readers_at (fields fs) place before) all n g
member_meets fs f place before region first count all n g lt is ef ec er h =
    subst (λ z. CellsMeet z (readers_at (fields fs) place before) all n g) (sym (field_at-is fs place f lt is))
    (subst (λ z. CellsMeet (shape f.tree) z all n g) (own_readers (fields fs) place first count before region ef ec er) h)

-- ---- members, one after the other

pub members_next : {T : Type 0} (holds : T → List ℕ → Type 0) (fs : Fields) (before now after : List ColumnReader) (ms : List Member) (j : ℕ) (m : Member) (xs : List FieldColumns) (start out new : T) → j < length ms → m ≡ get_or ms j m
    → AreColumnsOf fs 0 xs → AreMembersOf xs j (member_parts (drop j ms)) → length after ≡ length now → PrintedMember holds fs (part m) now after out new
    → Reading holds fs before now (member_parts ms) (member_parts (drop j ms)) start out → Reading holds fs before after (member_parts ms) (member_parts (drop (j + 1) ms)) start new
members_next holds fs before now after ms j m xs start out new lt is columns own same p r =
    let there = place_told xs ms j m lt is own in
    let n = columns_many fs 0 xs columns in
    reading_next holds fs before now after (member_parts ms) (member_parts (drop j ms)) (member_parts (drop (j + 1) ms)) (part_of m) start out new xs j (parts_from ms j m lt is) own (omega (arith, there, n)) same
    (subst (λ q. PrintedMember holds fs q now after out new) (part-is m) p) r

pub members_lack : {T : Type 0} (holds : T → List ℕ → Type 0) (fs : Fields) (before now : List ColumnReader) (ms : List Member) (j : ℕ) (m : Member) (xs : List FieldColumns) (start out : T) → j < length ms → m ≡ get_or ms j m
    → AreColumnsOf fs 0 xs → AreMembersOf xs j (member_parts (drop j ms)) → Reading holds fs before now (member_parts ms) (member_parts (drop j ms)) start out
    → Lacks (CellsLeft (field_at fs m.place) (readers_at fs m.place now)) 1 → Lacks (FieldsLeft fs before) 1
members_lack holds fs before now ms j m xs start out lt is columns own r h =
    let there = place_told xs ms j m lt is own in
    let n = columns_many fs 0 xs columns in
    reading_lacks holds fs before now (member_parts ms) (member_parts (drop j ms)) (member_parts (drop (j + 1) ms)) (part_of m) start out (parts_from ms j m lt is) (omega (arith, there, n)) r h

pub members_meet : {T : Type 0} (holds : T → List ℕ → Type 0) (fs : Fields) (before now : List ColumnReader) (ms : List Member) (j : ℕ) (m : Member) (xs : List FieldColumns) (start out : T) (every : Bool) (n : ℕ) (f : StripeFault) → j < length ms → m ≡ get_or ms j m
    → AreColumnsOf fs 0 xs → AreMembersOf xs j (member_parts (drop j ms)) → Reading holds fs before now (member_parts ms) (member_parts (drop j ms)) start out
    → CellsMeet (field_at fs m.place) (readers_at fs m.place now) every n f → FieldsMeet fs before every n f
members_meet holds fs before now ms j m xs start out every n f lt is columns own r h =
    let there = place_told xs ms j m lt is own in
    let k = columns_many fs 0 xs columns in
    reading_meets holds fs before now (member_parts ms) (member_parts (drop j ms)) (member_parts (drop (j + 1) ms)) (part_of m) start out every n f (parts_from ms j m lt is) (omega (arith, there, k)) r h
