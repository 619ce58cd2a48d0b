-- Layouts of types: a struct's columns, its members, and the member that each field names.
use Rattle.std.proofs.Common.{◌≡◌, ◌≢◌, ℕ, zero, suc, ◌+◌, ◌<◌, ◌≤◌, List, [], ◌∷◌, ◌++◌, length, map, get_or, drop, set, Bool, true, false, ◌==◌, ◌⊎◌, inl, inr, Some, Vec, Box, Global, String, string_bytes, string_cmp, refl, sym, ap, ◌∙◌, subst, ⊎_elim, arith, append_assoc, append-nil, drop-cons}
use Rattle.std.specs.Prelude.{slice_get}
use Rattle.std.proofs.lemmas.Bool.{and_parts}
use Rattle.std.proofs.lemmas.Bool.Decides.{nat_tests}
use Rattle.std.proofs.lemmas.List.{map-append, drop_all, length-map, get_or-map}
use Rattle.std.specs.BTreeMap.{insert_entry}
use Rattle.orc_values.specs.Shapes.{Shape, Fields, no_field, field, names_of, width, widths}
use Rattle.orc_values.specs.Views.{shape, fields, fields_of, name_and_type}
use Rattle.orc_values.specs.declared.kind.Scalar.{Scalar as Kind}
use Rattle.orc_values.specs.declared.tree.Field.{Field}
use Rattle.orc_values.specs.declared.tree.Tree.{Tree, Scalar as TreeScalar, List as TreeList, Map as TreeMap, Struct as TreeStruct}
use Rattle.orc_values.proofs.Views.{shape-Scalar, shape-List, shape-Map, shape-Struct, name_and_type-is}
use Rattle.orc_json_rows.specs.FieldNames.{all_differ, is_distinct, are_distinct}
use Rattle.orc_json_printer.specs.Layouts.{LaidMember, member_parts}
use Rattle.orc_json_printer.specs.Texts.{no_name, shape_in, AreWithin, entry_places}
use Rattle.orc_json_printer.specs.LaidOut.{count_of, AreColumnsOf, member_of, AreMembersOf, IsLaidOut, AreFieldsLaidOut, AreAllPlaces, AreFieldPlaces, member_places, AreMembersLaidOut}
use Rattle.orc_json_printer.specs.declared.layout.Layout.{Layout, Leaf, List as ListOf, Map as MapOf, Struct as StructOf}
use Rattle.orc_json_printer.specs.declared.layout.Member.{Member}
use Rattle.orc_json_printer.specs.declared.layout.FieldColumns.{FieldColumns}
use Rattle.orc_json_printer.specs.declared.layout.PairLayout.{PairLayout}
use Rattle.orc_json_printer.proofs.Layouts.{part-is}
use Rattle.orc_json_printer.proofs.Places.{PlacesSoFar, field_placed, all_placed, within_at, apart_places, found}
use Rattle.orc_json_printer.proofs.Prints.{Entry}

plus_one : (n : ℕ) → n + 1 ≡ suc n
plus_one n = omega arith

pub many-fields_of : (fs : List (List ℕ × Shape)) → count_of (fields_of fs) ≡ length fs
many-fields_of [] = refl
many-fields_of (f ∷ fs) = ap suc (many-fields_of fs)

-- ---- columns, one field after the other

-- whatever gives the columns of the fields that are left gives those of all
pub record ColumnsGo (fs : List Field) (i first : ℕ) (xs : List FieldColumns) : Type 0 where
  pub rest : (ys : List FieldColumns) → AreColumnsOf (fields (drop i fs)) first ys → AreColumnsOf (fields fs) 0 (xs ++ ys)
  pub total : first + widths (fields (drop i fs)) ≡ widths (fields fs)

pub columns_first : (fs : List Field) → ColumnsGo fs 0 0 []
columns_first fs = record { rest = λ ys h. h; total = omega arith }

first_field : (fs : List Field) (i : ℕ) (f : Field) → i < length fs → f ≡ get_or fs i f → fields (drop i fs) ≡ field (string_bytes f.name) (shape f.tree) (fields (drop (i + 1) fs))
first_field fs i f lt is = rw (plus_one i, drop-cons fs i f, ← is, name_and_type-is f) refl

pub columns_total : (fs : List Field) (i first : ℕ) (f : Field) (xs : List FieldColumns) → i < length fs → f ≡ get_or fs i f → ColumnsGo fs i first xs → first + width (shape f.tree) ≤ widths (fields fs)
columns_total fs i first f xs lt is g = omega (arith, g.total, ap widths (first_field fs i f lt is))

pub columns_next : (fs : List Field) (i first next : ℕ) (f : Field) (x : FieldColumns) (xs : List FieldColumns) → i < length fs → f ≡ get_or fs i f → x.first ≡ first → x.count ≡ width (shape f.tree) → next ≡ first + width (shape f.tree)
    → ColumnsGo fs i first xs → ColumnsGo fs (i + 1) next (xs ++ x ∷ [])
columns_next fs i first next f x xs lt is ef ec en g =
    let front = first_field fs i f lt is in
    record {
      rest = λ ys h. subst (λ (zs : List FieldColumns). AreColumnsOf (fields fs) 0 zs) (sym (append_assoc xs (x ∷ []) ys))
          (g.rest (x ∷ ys) (subst (λ (t : Fields). AreColumnsOf t first (x ∷ ys)) (sym front) (ef, ec, subst (λ (n : ℕ). AreColumnsOf (fields (drop (i + 1) fs)) n ys) en h)));
      total = omega (arith, g.total, ap widths front, en);
    }

pub columns_last : (fs : List Field) (i first : ℕ) (xs : List FieldColumns) → length fs ≤ i → ColumnsGo fs i first xs → AreColumnsOf (fields fs) 0 xs
columns_last fs i first xs le g =
    let none : drop i fs ≡ [] = drop_all i fs le in
    subst (λ (ys : List FieldColumns). AreColumnsOf (fields fs) 0 ys) (append-nil xs) (g.rest [] (subst (λ (t : List Field). AreColumnsOf (fields t) first []) (sym none) tt))

pub columns_many : (fs : Fields) (before : ℕ) (xs : List FieldColumns) → AreColumnsOf fs before xs → length xs ≡ count_of fs
columns_many no_field before [] h = refl
columns_many no_field before (x ∷ xs) h = absurd h
columns_many (field name s fs) before [] h = absurd h
columns_many (field name s fs) before (x ∷ xs) h = ap suc (columns_many fs (before + width s) xs h.2)

-- ---- the member that a field names

-- another member changes nothing of the columns
pub columns_set : (fs : Fields) (before : ℕ) (xs : List FieldColumns) (p : ℕ) (x d : FieldColumns) → x.first ≡ (get_or xs p d).first → x.count ≡ (get_or xs p d).count → AreColumnsOf fs before xs → AreColumnsOf fs before (set xs p x)
columns_set no_field before [] p x d ef ec h = tt
columns_set no_field before (y ∷ xs) p x d ef ec h = absurd h
columns_set (field name s fs) before [] p x d ef ec h = absurd h
columns_set (field name s fs) before (y ∷ xs) zero x d ef ec h = (ef ∙ h.0, ec ∙ h.1, h.2)
columns_set (field name s fs) before (y ∷ xs) (suc p) x d ef ec h = (h.0, h.1, columns_set fs (before + width s) xs p x d ef ec h.2)

-- the first `i` of these places name their members
abbrev pub AreTold : List ℕ → List FieldColumns → ℕ → Type 0
AreTold ps xs i = (j : ℕ) → j < i → slice_get (map member_of xs) (get_or ps j 0) ≡ Some j

told_here : (xs : List FieldColumns) (p : ℕ) (x : FieldColumns) → p < length xs → slice_get (map member_of (set xs p x)) p ≡ Some x.member
told_here [] p x lt = absurd (omega (arith, lt))
told_here (y ∷ xs) zero x lt = refl
told_here (y ∷ xs) (suc p) x lt = told_here xs p x (omega (arith, lt))

told_elsewhere : (xs : List FieldColumns) (p q : ℕ) (x : FieldColumns) → q ≢ p → slice_get (map member_of (set xs p x)) q ≡ slice_get (map member_of xs) q
told_elsewhere [] p q x other = refl
told_elsewhere (y ∷ xs) zero zero x other = absurd (other refl)
told_elsewhere (y ∷ xs) zero (suc q) x other = refl
told_elsewhere (y ∷ xs) (suc p) zero x other = refl
told_elsewhere (y ∷ xs) (suc p) (suc q) x other = told_elsewhere xs p q x (λ same. other (ap suc same))

before_or_at : (j i : ℕ) → j ≤ i → (j ≡ i) ⊎ (j < i)
before_or_at j i le = by (j == i) refl where
  by : (b : Bool) → (j == i) ≡ b → (j ≡ i) ⊎ (j < i)
  by true is = inl (grind (arith, nat_tests))
  by false is = let other : j ≢ i = grind (arith, nat_tests) in inr (grind arith)

pub told_more : (n : ℕ) (ps : List ℕ) (xs : List FieldColumns) (i p : ℕ) (x : FieldColumns) → AreAllPlaces n ps → i < length ps → p ≡ get_or ps i 0 → p < length xs → x.member ≡ i → AreTold ps xs i → AreTold ps (set xs p x) (i + 1)
told_more n ps xs i p x all lt at within is told = λ j less.
    ⊎_elim
    (λ (same : j ≡ i). ap (λ (k : ℕ). slice_get (map member_of (set xs p x)) (get_or ps k 0)) same ∙ ap (λ (q : ℕ). slice_get (map member_of (set xs p x)) q) (sym at) ∙ told_here xs p x within ∙ ap (λ (m : ℕ). Some m) (is ∙ sym same))
    (λ (before : j < i). told_elsewhere xs p (get_or ps j 0) x (λ same. apart_places n ps j i all before lt (same ∙ at)) ∙ told j before)
    (before_or_at j i (omega (arith, less)))

place_at : (ms : List Member) (i : ℕ) (m : Member) → i < length ms → m ≡ get_or ms i m → get_or (member_places ms) i 0 ≡ m.place
place_at [] i m lt is = absurd (omega (arith, lt))
place_at (x ∷ ms) zero m lt is = ap (λ (y : Member). y.place) (sym is)
place_at (x ∷ ms) (suc i) m lt is = place_at ms i m (omega (arith, lt)) is

many-members : (ms : List Member) → length (member_places ms) ≡ length ms
many-members [] = refl
many-members (m ∷ ms) = ap suc (many-members ms)

-- the columns so far, and what is told by them
pub record ColumnsTold (fs : Fields) (ms : List Member) (xs : List FieldColumns) (i : ℕ) : Type 0 where
  pub columns : AreColumnsOf fs 0 xs
  pub told : AreAllPlaces (count_of fs) (member_places ms) → AreTold (member_places ms) xs i

pub none_told : (fs : Fields) (ms : List Member) (xs : List FieldColumns) → AreColumnsOf fs 0 xs → ColumnsTold fs ms xs 0
none_told fs ms xs columns = record { columns = columns; told = λ all j less. absurd (omega (arith, less)) }

pub member_told : (fs : Fields) (ms items : List Member) (xs : List FieldColumns) (i : ℕ) (m : Member) (own : FieldColumns) → items ≡ ms → i < length items → m ≡ get_or items i m → m.place < length xs → own ≡ get_or xs m.place own
    → ColumnsTold fs ms xs i → ColumnsTold fs ms (set xs m.place (record { member = i; first = own.first; count = own.count })) (i + 1)
member_told fs ms items xs i m own same lt is within here t =
    let lt' : i < length ms = omega (arith, lt, ap length same) in
    let is' : m ≡ get_or ms i m = is ∙ ap (λ (zs : List Member). get_or zs i m) same in
    record {
      columns = columns_set fs 0 xs m.place (record { member = i; first = own.first; count = own.count }) own (ap (λ (x : FieldColumns). x.first) here) (ap (λ (x : FieldColumns). x.count) here) t.columns;
      told = λ all. told_more (count_of fs) (member_places ms) xs i m.place (record { member = i; first = own.first; count = own.count }) all (omega (arith, lt', many-members ms)) (sym (place_at ms i m lt' is')) within refl (t.told all);
    }

-- a member whose place is none of a field
pub member_lost : (fs : Fields) (ms items : List Member) (xs : List FieldColumns) (i : ℕ) (m : Member) → items ≡ ms → i < length items → m ≡ get_or items i m → length xs ≤ m.place → ColumnsTold fs ms xs i → ColumnsTold fs ms xs (i + 1)
member_lost fs ms items xs i m same lt is past t =
    let lt' : i < length ms = omega (arith, lt, ap length same) in
    let is' : m ≡ get_or ms i m = is ∙ ap (λ (zs : List Member). get_or zs i m) same in
    record {
      columns = t.columns;
      told = λ all.
          let within = within_at (count_of fs) (member_places ms) i (omega (arith, lt', many-members ms)) all.within in
          let never : ⊥ = omega (arith, within, place_at ms i m lt' is', past, columns_many fs 0 xs t.columns) in
          absurd never;
    }

members_from : (ms : List Member) (xs : List FieldColumns) (k : ℕ) → ((j : ℕ) → j < length ms → slice_get (map member_of xs) (get_or (member_places ms) j 0) ≡ Some (k + j)) → AreMembersOf xs k (member_parts ms)
members_from [] xs k h = tt
members_from (m ∷ ms) xs k h =
    let e : k + 0 ≡ k = omega arith in
    subst (λ (q : LaidMember). AreMembersOf xs k (q ∷ member_parts ms)) (sym (part-is m)) (
      h 0 (omega arith) ∙ ap (λ (i : ℕ). Some i) e,
      members_from ms xs (suc k) (λ j lt. let f : k + suc j ≡ suc k + j = omega arith in h (suc j) (omega (arith, lt)) ∙ ap (λ (i : ℕ). Some i) f),
    )

all_told : (ms : List Member) (xs : List FieldColumns) (i : ℕ) → length ms ≤ i → AreTold (member_places ms) xs i → AreMembersOf xs 0 (member_parts ms)
all_told ms xs i le told = members_from ms xs 0 (λ j lt. let e : j ≡ 0 + j = omega arith in told j (omega (arith, lt, le)) ∙ ap (λ (k : ℕ). Some k) e)

pub all_members_told : (fs : Fields) (ms items : List Member) (xs : List FieldColumns) (i : ℕ) → items ≡ ms → length items ≤ i → ColumnsTold fs ms xs i → AreAllPlaces (count_of fs) (member_places ms) → AreMembersOf xs 0 (member_parts ms)
all_members_told fs ms items xs i same le t all = all_told ms xs i (omega (arith, le, ap length same)) (t.told all)

-- ---- the places of fields

name_at : (fs : List Field) (i : ℕ) (f : Field) → i < length fs → f ≡ get_or fs i f → (get_or (map name_and_type fs) i no_name).0 ≡ string_bytes f.name
name_at fs i f lt is = ap (λ (p : List ℕ × Shape). p.0) (get_or-map name_and_type fs i f no_name lt ∙ ap name_and_type (sym is) ∙ name_and_type-is f)

pub place_next : (fs : List Field) (i : ℕ) (f : Field) (es new : List Entry) (k : String Global) → i < length fs → f ≡ get_or fs i f → string_bytes k ≡ string_bytes f.name → new ≡ insert_entry string_cmp es k i
    → all_differ (names_of (fields fs)) ≡ true → PlacesSoFar (names_of (fields_of (drop i (map name_and_type fs)))) i es → PlacesSoFar (names_of (fields_of (drop (i + 1) (map name_and_type fs)))) (i + 1) new
place_next fs i f es new k lt is key e differ s =
    let gs = map name_and_type fs in
    let many : i < length gs = omega (arith, lt, length-map fs name_and_type) in
    rw (plus_one i, e) (field_placed gs i es k many (key ∙ sym (name_at fs i f lt is)) differ s)

pub place_last : (fs items : List Field) (i : ℕ) (es : List Entry) → items ≡ fs → length items ≤ i → AreWithin (length items) es
    → (all_differ (names_of (fields_of (map name_and_type items))) ≡ true → PlacesSoFar (names_of (fields_of (drop i (map name_and_type items)))) i es) → (i ≤ length items) → AreFieldPlaces (fields fs) (entry_places es)
place_last fs items i es is le within s least = λ differ.
    let same : all_differ (names_of (fields_of (map name_and_type items))) ≡ true = subst (λ (t : List Field). all_differ (names_of (fields t)) ≡ true) (sym is) differ in
    let end : i ≡ length items = omega (arith, le, least) in
    let count : count_of (fields fs) ≡ i = many-fields_of (map name_and_type fs) ∙ length-map fs name_and_type ∙ ap length (sym is) ∙ sym end in
    rw count (all_placed (names_of (fields_of (drop i (map name_and_type items)))) i es (rw end within) (s same))

-- ---- the members of a struct

pub places_next : (ms : List Member) (m : Member) (e : Entry) (left others : List Entry) → left ≡ e ∷ others → m.place ≡ e.1 → member_places ms ++ entry_places left ≡ member_places (ms ++ m ∷ []) ++ entry_places others
places_next ms m e left others is at =
    ap (λ (es : List Entry). member_places ms ++ entry_places es) is ∙ ap (λ (p : ℕ). member_places ms ++ p ∷ entry_places others) (sym at)
    ∙ sym (append_assoc (member_places ms) (m.place ∷ []) (entry_places others)) ∙ ap (λ (ps : List ℕ). ps ++ entry_places others) (sym (map-append (λ (x : Member). x.place) ms (m ∷ [])))

pub laid_more : (fs : List (List ℕ × Shape)) (ms : List Member) (m : Member) → (is_distinct (shape_in fs m.place) ≡ true → IsLaidOut (shape_in fs m.place) m.layout) → AreMembersLaidOut fs ms → AreMembersLaidOut fs (ms ++ m ∷ [])
laid_more fs [] m own h = (own, tt)
laid_more fs (x ∷ ms) m own h = (h.0, laid_more fs ms m own h.1)

-- ---- the layout of a struct

distinct_in : (fs : List (List ℕ × Shape)) (k : ℕ) → k < length fs → are_distinct (fields_of fs) ≡ true → is_distinct (shape_in fs k) ≡ true
distinct_in [] k lt h = absurd (omega (arith, lt))
distinct_in (f ∷ fs) zero lt h = (and_parts (is_distinct f.1) (are_distinct (fields_of fs)) h).0
distinct_in (f ∷ fs) (suc k) lt h = distinct_in fs k (omega (arith, lt)) (and_parts (is_distinct f.1) (are_distinct (fields_of fs)) h).1

laid_member : (fs : List (List ℕ × Shape)) (ms : List Member) (i : ℕ) → i < length ms → AreMembersLaidOut fs ms
    → (m : Member) × (slice_get ms i ≡ Some m) × (m.place ≡ get_or (member_places ms) i 0) × (is_distinct (shape_in fs m.place) ≡ true → IsLaidOut (shape_in fs m.place) m.layout)
laid_member fs [] i lt h = absurd (omega (arith, lt))
laid_member fs (m ∷ ms) zero lt h = (m, refl, refl, h.0)
laid_member fs (m ∷ ms) (suc i) lt h = laid_member fs ms i (omega (arith, lt)) h.1

told_member : (ms : List Member) (xs : List FieldColumns) (k i : ℕ) → i < length ms → AreMembersOf xs k (member_parts ms) → slice_get (map member_of xs) (get_or (member_places ms) i 0) ≡ Some (k + i)
told_member [] xs k i lt h = absurd (omega (arith, lt))
told_member (m ∷ ms) xs k zero lt h =
    let own = subst (λ (q : LaidMember). AreMembersOf xs k (q ∷ member_parts ms)) (part-is m) h in
    let e : k ≡ k + 0 = omega arith in
    own.0 ∙ ap (λ (j : ℕ). Some j) e
told_member (m ∷ ms) xs k (suc i) lt h =
    let own = subst (λ (q : LaidMember). AreMembersOf xs k (q ∷ member_parts ms)) (part-is m) h in
    let e : suc k + i ≡ k + suc i = omega arith in
    told_member ms xs (suc k) i (omega (arith, lt)) own.1 ∙ ap (λ (j : ℕ). Some j) e

named_at : (xs : List FieldColumns) (k : ℕ) (d : FieldColumns) → k < length xs → slice_get (map member_of xs) k ≡ Some (get_or xs k d).member
named_at [] k d lt = absurd (omega (arith, lt))
named_at (x ∷ xs) zero d lt = refl
named_at (x ∷ xs) (suc k) d lt = named_at xs k d (omega (arith, lt))

no_columns : FieldColumns
no_columns = record { member = 0; first = 0; count = 0 }

fields_laid : (fs : List (List ℕ × Shape)) (xs : List FieldColumns) (ms : List Member) → length xs ≡ length fs
    → ((k : ℕ) → k < length fs → (m : Member) × (slice_get ms (get_or xs k no_columns).member ≡ Some m) × IsLaidOut (shape_in fs k) m.layout) → AreFieldsLaidOut (fields_of fs) xs ms
fields_laid [] xs ms e h = tt
fields_laid (f ∷ fs) [] ms e h = absurd (omega (arith, e))
fields_laid (f ∷ fs) (x ∷ xs) ms e h = (h 0 (omega arith), fields_laid fs xs ms (omega (arith, e)) (λ k lt. h (suc k) (omega (arith, lt))))

some_same : (a b : ℕ) → Some a ≡ Some b → a ≡ b
some_same a b e = cc

laid_at : (fs : List (List ℕ × Shape)) (ms : List Member) (xs : List FieldColumns) (k : ℕ) → AreAllPlaces (length fs) (member_places ms) → AreMembersOf xs 0 (member_parts ms) → AreMembersLaidOut fs ms → length xs ≡ length fs
    → are_distinct (fields_of fs) ≡ true → k < length fs → (m : Member) × (slice_get ms (get_or xs k no_columns).member ≡ Some m) × IsLaidOut (shape_in fs k) m.layout
laid_at fs ms xs k all members laid many distinct lt =
    let once = all.once k lt in
    let at = found (member_places ms) k (omega (arith, once)) in
    let there : at.0 < length ms = omega (arith, at.1, many-members ms) in
    let member = laid_member fs ms at.0 there laid in
    let from_zero : 0 + at.0 ≡ at.0 = omega arith in
    let index : (get_or xs k no_columns).member ≡ at.0 =
    some_same (get_or xs k no_columns).member at.0 (sym (named_at xs k no_columns (omega (arith, lt, many))) ∙ ap (slice_get (map member_of xs)) (sym at.2) ∙ told_member ms xs 0 at.0 there members ∙ ap (λ (j : ℕ). Some j) from_zero) in
    let place : member.0.place ≡ k = member.2 ∙ at.2 in
    let own = subst (λ (p : ℕ). is_distinct (shape_in fs p) ≡ true → IsLaidOut (shape_in fs p) member.0.layout) place member.3 in
    (member.0, ap (slice_get ms) index ∙ member.1, own (distinct_in fs k lt distinct))

-- ---- by the form of the type

pub leaf_laid : (t : Tree) (k : Kind) (o : Vec ℕ Global) → t ≡ TreeScalar k o → is_distinct (shape t) ≡ true → IsLaidOut (shape t) Leaf
leaf_laid t k o is d = rw (is, shape-Scalar k o) refl

pub list_laid : (t : Tree) (e : Box Tree Global) (o : Vec ℕ Global) (b : Box Layout Global) → t ≡ TreeList e o → (is_distinct (shape e.value) ≡ true → IsLaidOut (shape e.value) b.value) → is_distinct (shape t) ≡ true → IsLaidOut (shape t) (ListOf b)
list_laid t e o b is h = rw (is, shape-List e o) (λ d. (b, refl, h d))

pub map_laid : (t : Tree) (k v : Box Tree Global) (o : Vec ℕ Global) (b : Box PairLayout Global) → t ≡ TreeMap k v o → (is_distinct (shape k.value) ≡ true → IsLaidOut (shape k.value) b.value.key) → (is_distinct (shape v.value) ≡ true → IsLaidOut (shape v.value) b.value.value)
    → is_distinct (shape t) ≡ true → IsLaidOut (shape t) (MapOf b)
map_laid t k v o b is key value = rw (is, shape-Map k v o) (λ d. let p = and_parts (is_distinct (shape k.value)) (is_distinct (shape v.value)) d in (b, refl, key p.0, value p.1))

pub struct_laid : (t : Tree) (fs : Vec Field Global) (o : Vec ℕ Global) (ms : Vec Member Global) (xs : Vec FieldColumns Global) → t ≡ TreeStruct fs o → AreFieldPlaces (fields fs.items) (member_places ms.items) → AreMembersLaidOut (map name_and_type fs.items) ms.items
    → AreColumnsOf (fields fs.items) 0 xs.items → (AreAllPlaces (count_of (fields fs.items)) (member_places ms.items) → AreMembersOf xs.items 0 (member_parts ms.items)) → is_distinct (shape t) ≡ true → IsLaidOut (shape t) (StructOf ms xs)
struct_laid t fs o ms xs is places laid columns told = rw (is, shape-Struct fs o) (λ d.
    let gs = map name_and_type fs.items in
    let p = and_parts (all_differ (names_of (fields_of gs))) (are_distinct (fields_of gs)) d in
    let all = places p.0 in
    let members = told all in
    let count = many-fields_of gs in
    let many : length xs.items ≡ length gs = columns_many (fields_of gs) 0 xs.items columns ∙ count in (
      ms,
      xs,
      refl,
      record { as_many = sym (many-members ms.items) ∙ all.many; columns_are = columns; members_are = members },
      fields_laid gs xs.items ms.items many (λ k lt. laid_at gs ms.items xs.items k (subst (λ (n : ℕ). AreAllPlaces n (member_places ms.items)) count all) members laid many p.1 lt),
    ))
