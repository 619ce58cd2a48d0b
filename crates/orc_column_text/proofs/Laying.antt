-- Layouts of a type, and the member that is told of each field.
use Rattle.std.proofs.Common.{rules, ◌≡◌, ℕ, zero, suc, ◌<◌, List, [], ◌∷◌, Some, length, map, drop, get_or, Vec, Global, sym, ap, ◌∙◌, subst, arith}
use Rattle.std.specs.Prelude.{slice_get}
use Rattle.std.proofs.lemmas.Option.{get_or_from_slice_get}
use Rattle.orc_values.specs.Shapes.{Shape, scalar, struct_of, Fields, no_field, field}
use Rattle.orc_values.specs.declared.kind.Scalar.{Scalar}
use Rattle.orc_json_printer.specs.LaidOut.{count_of, HasMembers, IsLaidOut, AreFieldsLaidOut, AreColumnsOf, member_of, AreMembersOf}
use Rattle.orc_json_printer.specs.Layouts.{member_parts}
use Rattle.orc_json_printer.specs.declared.layout.Layout.{Layout, Leaf, Struct as StructOf, out-Layout}
use Rattle.orc_json_printer.specs.declared.layout.Layout.TheFolds.{the_lemmas}
use Rattle.orc_json_printer.specs.declared.layout.Layout.TheOpen.{Layout-F}
use Rattle.orc_json_printer.specs.declared.layout.Member.{Member}
use Rattle.orc_json_printer.specs.declared.layout.FieldColumns.{FieldColumns}
use Rattle.orc_json_printer.specs.declared.layout.PairLayout.{PairLayout}
use Rattle.orc_column_text.specs.Regions.{field_at}
use Rattle.orc_column_text.proofs.AnyOrder.{columns_many}
use Rattle.orc_column_text.proofs.Members.{parts_from, place_told}
use Rattle.std.proofs.lemmas.List.{get_or_default}

some_same : (a b : ℕ) → Some a ≡ Some b → a ≡ b
some_same a b e = cc

-- a struct's members
abbrev members_in : Layout-F Layout Member PairLayout → List Member
members_in Layout-F.Leaf = []
members_in (Layout-F.List f) = []
members_in (Layout-F.Map t) = []
members_in (Layout-F.Struct ms xs) = ms.items

out_struct : (a : Vec Member Global) (x : Vec FieldColumns Global) → out-Layout (StructOf a x) ≡ Layout-F.Struct a x
out_struct a x = search (rules, the_lemmas)

struct_same : (a b : Vec Member Global) (x y : Vec FieldColumns Global) → StructOf a x ≡ StructOf b y → (a.items ≡ b.items) × (x.items ≡ y.items)
struct_same a b x y e = (ap members_in (sym (out_struct a x) ∙ ap out-Layout e ∙ out_struct b y), cc)

-- which member a field names
get_told : (xs : List FieldColumns) (i : ℕ) (own : FieldColumns) → i < length xs → own ≡ get_or xs i own → slice_get (map member_of xs) i ≡ Some own.member
get_told [] i own lt is = absurd (omega (arith, lt))
get_told (x ∷ xs) zero own lt is = ap (λ (y : FieldColumns). Some y.member) (sym is)
get_told (x ∷ xs) (suc i) own lt is = get_told xs i own (omega (arith, lt)) is

-- the member that is told of the field at a place is laid out as the field's type
pub laid_out_at : (fs : Fields) (xs : List FieldColumns) (ms : List Member) (i : ℕ) (d : FieldColumns) → i < count_of fs → i < length xs → AreFieldsLaidOut fs xs ms
    → (m : Member) × (slice_get ms (get_or xs i d).member ≡ Some m) × IsLaidOut (field_at fs i) m.layout
laid_out_at no_field xs ms i d lt there h = absurd (omega (arith, lt))
laid_out_at (field name s fs) [] ms i d lt there h = absurd h
laid_out_at (field name s fs) (x ∷ xs) ms zero d lt there h = h.0
laid_out_at (field name s fs) (x ∷ xs) ms (suc i) d lt there h = laid_out_at fs xs ms i d (omega (arith, lt)) (omega (arith, there)) h.1

-- so is a member at the place that it names
pub member_laid_out : (fs : Fields) (xs : List FieldColumns) (ms : List Member) (j : ℕ) (m : Member) → j < length ms → m ≡ get_or ms j m → AreColumnsOf fs 0 xs → AreMembersOf xs j (member_parts (drop j ms))
    → AreFieldsLaidOut fs xs ms → IsLaidOut (field_at fs m.place) m.layout
member_laid_out fs xs ms j m lt is columns own laid =
    let told = (subst (AreMembersOf xs j) (parts_from ms j m lt is) own).0 in
    let there = place_told xs ms j m lt is own in
    let many = columns_many fs 0 xs columns in
    let d : FieldColumns = record { member = 0; first = 0; count = 0 } in
    let here = laid_out_at fs xs ms m.place d (omega (arith, there, many)) there laid in
    let index : (get_or xs m.place d).member ≡ j = some_same (get_or xs m.place d).member j (sym (get_told xs m.place (get_or xs m.place d) there (get_or_default xs m.place d (get_or xs m.place d) there)) ∙ told) in
    let same : here.0 ≡ m = sym (get_or_from_slice_get ms j here.0 m (ap (slice_get ms) (sym index) ∙ here.1)) ∙ sym is in
    subst (λ (n : Member). IsLaidOut (field_at fs m.place) n.layout) same here.2

-- ---- what a layout of a form is, and says

pub leaf_layout : (s : Shape) (k : Scalar) (o : List ℕ) (l : Layout) → s ≡ scalar k o → IsLaidOut s l → l ≡ Leaf
leaf_layout s k o l is h = subst (λ z. IsLaidOut z l) is h

pub struct_layout : (s : Shape) (fs : Fields) (o : List ℕ) (l : Layout) (ms : Vec Member Global) (xs : Vec FieldColumns Global) → s ≡ struct_of fs o → l ≡ StructOf ms xs → IsLaidOut s l
    → HasMembers fs ms.items xs.items × AreFieldsLaidOut fs xs.items ms.items
struct_layout s fs o l ms xs is layout h =
    let own = subst (λ z. IsLaidOut z l) is h in
    let same = struct_same own.0 ms own.1 xs (sym own.2 ∙ layout) in
    subst (λ (ns : List Member). HasMembers fs ns xs.items × AreFieldsLaidOut fs xs.items ns) same.0
    (subst (λ (ys : List FieldColumns). HasMembers fs own.0.items ys × AreFieldsLaidOut fs ys own.0.items) same.1 (own.3, own.4))
