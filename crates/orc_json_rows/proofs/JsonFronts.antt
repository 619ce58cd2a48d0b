-- Elements and fields that were read, before those that are left.
use Rattle.std.proofs.Common.{◌≡◌, ◌==◌, ℕ, zero, suc, ◌<◌, ◌≤◌, List, [], ◌∷◌, ◌++◌, length, get_or, drop, map, true, false, Option, Some, inl, inr, Vec, Box, Global, String, BTreeMap, string_bytes, string_cmp, refl, sym, ap, ◌∙◌, arith, drop-cons}
use Rattle.std.specs.List.Sorted.{IsStrictlySortedBy}
use Rattle.std.specs.Map.{keys_of}
use Rattle.std.proofs.lemmas.Bool.{and_parts}
use Rattle.std.proofs.lemmas.Bool.Decides.{nat_tests}
use Rattle.std.proofs.lemmas.List.{drop_all}
use Rattle.serde_json.specs.Data.{Data, array, Items, item, no_items}
use Rattle.serde_json.specs.Find.{get, get_item}
use Rattle.serde_json.specs.View.{view as json_view, items_view, members_view}
use Rattle.serde_json.specs.declared.value.Value.{Value as Json, Array, Object}
use Rattle.serde_json.proofs.Views.{view-Array, view-Object}
use Rattle.orc_values.specs.Cells.{Cell, Cells, end, more, Pairs, no_pair, pair, cells_of, pairs_of}
use Rattle.orc_values.specs.Shapes.{Shape, map_of, names_of}
use Rattle.orc_values.specs.Views.{view, views, paired, shape, fields as fields_view}
use Rattle.orc_values.specs.declared.tree.Tree.{Tree, List as TreeList, Map as TreeMap, Struct as TreeStruct}
use Rattle.orc_values.specs.declared.tree.Field.{Field}
use Rattle.orc_values.specs.declared.value.Value.{Value, List as ListOf, Map as MapOf, Struct as StructOf}
use Rattle.orc_values.specs.declared.value.MapPair.{MapPair}
use Rattle.orc_json_rows.specs.FieldNames.{is_distinct, all_differ, are_distinct, all_known}
use Rattle.orc_json_rows.specs.KnownKeys.{count_keys}
use Rattle.orc_json_rows.specs.JsonRows.{JsonSpells, PairSpells, PairsSpell, EachSpells, MemberSpells, FieldsSpell}
use Rattle.orc_json_rows.specs.JsonFaults.{FaultAt, PairFault, Somewhere, InElement, InField}
use Rattle.orc_json_rows.specs.declared.json_fault.JsonFault.{JsonFault}
use Rattle.orc_json_rows.specs.declared.json_fault.JsonFault.TheVariants as fault
use Rattle.orc_json_rows.proofs.Names.{counted_known}
use Rattle.orc_values.proofs.Views.{name_and_type-is, paired-is, shape-List, shape-Map, shape-Struct, view-List, view-Map, view-Struct}

abbrev pub before : List Cell → Cells → Cells
before [] ys = ys
before (x ∷ xs) ys = more x (before xs ys)

pub before-push : (xs : List Cell) (x : Cell) (ys : Cells) → before (xs ++ x ∷ []) ys ≡ before xs (more x ys)
before-push [] x ys = refl
before-push (y ∷ xs) x ys = ap (λ zs. more y zs) (before-push xs x ys)

pub before-end : (xs : List Cell) → before xs end ≡ cells_of xs
before-end [] = refl
before-end (x ∷ xs) = ap (λ zs. more x zs) (before-end xs)

-- whatever cells the JSON values that are left spell, all of them spell those behind the ones read
abbrev pub ElementsRead : (Data → Cell → Type 0) → List Json → ℕ → List Cell → Type 0
ElementsRead Is js i xs = (ys : Cells) → EachSpells Is (items_view (drop i js)) ys → EachSpells Is (items_view js) (before xs ys)

pub elements_more : (Is : Data → Cell → Type 0) (js : List Json) (i : ℕ) (j : Json) (xs : List Cell) (x : Cell) → i < length js → j ≡ get_or js i j → Is (json_view j) x → ElementsRead Is js i xs → ElementsRead Is js (suc i) (xs ++ x ∷ [])
elements_more Is js i j xs x h is one so_far ys later =
    rw (before-push xs x ys) (so_far (more x ys) (rw (drop-cons js i j, ← is) (one, later)))

pub elements_all : (Is : Data → Cell → Type 0) (js : List Json) (i : ℕ) (xs : List Cell) → length js ≤ i → ElementsRead Is js i xs → EachSpells Is (items_view js) (cells_of xs)
elements_all Is js i xs h so_far = rw (← before-end xs) (so_far end (rw (drop_all i js h) tt))

-- the same of pairs
abbrev pub before_pairs : List (Cell × Cell) → Pairs → Pairs
before_pairs [] qs = qs
before_pairs (p ∷ ps) qs = pair p.0 p.1 (before_pairs ps qs)

pub before_pairs-push : (ps : List (Cell × Cell)) (p : Cell × Cell) (qs : Pairs) → before_pairs (ps ++ p ∷ []) qs ≡ before_pairs ps (pair p.0 p.1 qs)
before_pairs-push [] p qs = refl
before_pairs-push (q ∷ ps) p qs = ap (λ zs. pair q.0 q.1 zs) (before_pairs-push ps p qs)

pub before_pairs-end : (ps : List (Cell × Cell)) → before_pairs ps no_pair ≡ pairs_of ps
before_pairs-end [] = refl
before_pairs-end (p ∷ ps) = ap (λ zs. pair p.0 p.1 zs) (before_pairs-end ps)

abbrev pub PairsRead : (Data → Cell → Type 0) → (Data → Cell → Type 0) → List Json → ℕ → List (Cell × Cell) → Type 0
PairsRead K V js i ps = (qs : Pairs) → PairsSpell K V (items_view (drop i js)) qs → PairsSpell K V (items_view js) (before_pairs ps qs)

pub pairs_more : (K V : Data → Cell → Type 0) (js : List Json) (i : ℕ) (j : Json) (ps : List (Cell × Cell)) (p : MapPair) → i < length js → j ≡ get_or js i j → PairSpells K V (json_view j) (view p.key) (view p.value)
    → PairsRead K V js i ps → PairsRead K V js (suc i) (ps ++ paired p ∷ [])
pairs_more K V js i j ps p h is one so_far qs later =
    rw (paired-is p, before_pairs-push ps (view p.key, view p.value) qs) (so_far (pair (view p.key) (view p.value) qs) (rw (drop-cons js i j, ← is) (one, later)))

pub pairs_all : (K V : Data → Cell → Type 0) (js : List Json) (i : ℕ) (ps : List (Cell × Cell)) → length js ≤ i → PairsRead K V js i ps → PairsSpell K V (items_view js) (pairs_of ps)
pairs_all K V js i ps h so_far = rw (← before_pairs-end ps) (so_far no_pair (rw (drop_all i js h) tt))

pub element_at : (js : List Json) (i : ℕ) (j : Json) → i < length js → j ≡ get_or js i j → get_item i (items_view js) ≡ Some (json_view j)
element_at [] i j h is = absurd (omega (arith, h))
element_at (k ∷ js) zero j h is = ap (λ x. Some (json_view x)) (sym is)
element_at (k ∷ js) (suc i) j h is = element_at js i j (omega (arith, h)) is

-- the same of fields
abbrev pub FieldsRead : List Field → Data → ℕ → List Cell → Type 0
FieldsRead fs d i xs = (ys : Cells) → FieldsSpell (fields_view (drop i fs)) d ys → FieldsSpell (fields_view fs) d (before xs ys)

pub fields_more : (fs : List Field) (d : Data) (i : ℕ) (f : Field) (xs : List Cell) (x : Cell) → i < length fs → f ≡ get_or fs i f
    → MemberSpells (λ e y. JsonSpells (shape f.tree) e y) (get (string_bytes f.name) d) x → FieldsRead fs d i xs → FieldsRead fs d (suc i) (xs ++ x ∷ [])
fields_more fs d i f xs x h is one so_far ys later =
    rw (before-push xs x ys) (so_far (more x ys) (rw (drop-cons fs i f, ← is, name_and_type-is f) (one, later)))

pub fields_all : (fs : List Field) (d : Data) (i : ℕ) (xs : List Cell) → length fs ≤ i → FieldsRead fs d i xs → FieldsSpell (fields_view fs) d (cells_of xs)
fields_all fs d i xs h so_far = rw (← before-end xs) (so_far end (rw (drop_all i fs h) tt))

pub in_field : (Is : Shape → Data → Type 0) (fs : List Field) (d e : Data) (i : ℕ) (f : Field) → i < length fs → f ≡ get_or fs i f
    → get (string_bytes f.name) d ≡ Some e → Somewhere Is (shape f.tree) e → InField Is (fields_view fs) d
in_field Is [] d e i f h is at there = absurd (omega (arith, h))
in_field Is (g ∷ fs) d e zero f h is at there = rw (← is, name_and_type-is f) (inl (e, at, there))
in_field Is (g ∷ fs) d e (suc i) f h is at there = inr (in_field Is fs d e i f (omega (arith, h)) is at there)

-- ---- a list's array, a struct's object

pub array_spells : (t : Tree) (b : Box Tree Global) (o : Vec ℕ Global) (j : Json) (js : Vec Json Global) (rows : Vec (Option Value) Global) → t ≡ TreeList b o → j ≡ Array js
    → EachSpells (JsonSpells (shape b.value)) (items_view js.items) (cells_of (views rows.items)) → JsonSpells (shape t) (json_view j) (view (Some (ListOf rows)))
array_spells t b o j js rows it is h =
    rw (it, is, shape-List b o) (inr (items_view js.items, cells_of (views rows.items), view-Array js, view-List rows, h))

object_spells : (t : Tree) (fs : Vec Field Global) (o : Vec ℕ Global) (j : Json) (m : BTreeMap (String Global) Json) (rows : Vec (Option Value) Global) → t ≡ TreeStruct fs o → j ≡ Object m
    → all_known (names_of (fields_view fs.items)) (members_view m.entries) ≡ true → FieldsSpell (fields_view fs.items) (json_view j) (cells_of (views rows.items)) → JsonSpells (shape t) (json_view j) (view (Some (StructOf rows)))
object_spells t fs o j m rows it is known h =
    rw (it, shape-Struct fs o) (inr (members_view m.entries, cells_of (views rows.items), ap json_view is ∙ view-Object m, view-Struct rows, known, h))

pub array_fault : (Is : Shape → Data → Type 0) (t : Tree) (b : Box Tree Global) (o : Vec ℕ Global) (j : Json) (js : Vec Json Global) → t ≡ TreeList b o → j ≡ Array js
    → InElement (Somewhere Is (shape b.value)) (array (items_view js.items)) → Somewhere Is (shape t) (json_view j)
array_fault Is t b o j js it is h = rw (it, is, shape-List b o, view-Array js) (inr h)

pub object_fault : (Is : Shape → Data → Type 0) (t : Tree) (fs : Vec Field Global) (o : Vec ℕ Global) (d : Data) → t ≡ TreeStruct fs o → InField Is (fields_view fs.items) d → Somewhere Is (shape t) d
object_fault Is t fs o d it h = rw (it, shape-Struct fs o) (inr h)

known_all : (t : Tree) (fs : Vec Field Global) (o : Vec ℕ Global) (j : Json) (m : BTreeMap (String Global) Json) (known len : ℕ) → t ≡ TreeStruct fs o → j ≡ Object m
    → is_distinct (shape t) ≡ true → IsStrictlySortedBy string_cmp (keys_of m.entries) → known ≡ count_keys (names_of (fields_view fs.items)) (json_view j) → len ≡ length m.entries
    → (known == len) ≡ all_known (names_of (fields_view fs.items)) (members_view m.entries)
known_all t fs o j m known len it is distinct sorted count size =
    let parts = and_parts (all_differ (names_of (fields_view fs.items))) (are_distinct (fields_view fs.items)) (ap is_distinct (sym (ap shape it ∙ shape-Struct fs o)) ∙ distinct) in
    counted_known m.entries (names_of (fields_view fs.items)) known len sorted parts.0 (count ∙ ap (count_keys (names_of (fields_view fs.items))) (ap json_view is ∙ view-Object m)) size

equal_is : (a b : ℕ) → a ≡ b → (a == b) ≡ true
equal_is a b same = grind (arith, nat_tests, same)

unequal_is : (a b : ℕ) → (a ≡ b → ⊥) → (a == b) ≡ false
unequal_is a b other = grind (arith, nat_tests, other)

-- as many of the fields as there are keys were read
pub object_read : (t : Tree) (fs : Vec Field Global) (o : Vec ℕ Global) (j : Json) (m : BTreeMap (String Global) Json) (rows : Vec (Option Value) Global) (known len : ℕ) → t ≡ TreeStruct fs o → j ≡ Object m
    → is_distinct (shape t) ≡ true → IsStrictlySortedBy string_cmp (keys_of m.entries) → known ≡ count_keys (names_of (fields_view fs.items)) (json_view j) → len ≡ length m.entries
    → known ≡ len → FieldsSpell (fields_view fs.items) (json_view j) (cells_of (views rows.items)) → JsonSpells (shape t) (json_view j) (view (Some (StructOf rows)))
object_read t fs o j m rows known len it is distinct sorted count size same h =
    object_spells t fs o j m rows it is (sym (known_all t fs o j m known len it is distinct sorted count size) ∙ equal_is known len same) h

-- fewer were
pub object_unknown : (t : Tree) (fs : Vec Field Global) (o : Vec ℕ Global) (j : Json) (m : BTreeMap (String Global) Json) (known len : ℕ) → t ≡ TreeStruct fs o → j ≡ Object m
    → is_distinct (shape t) ≡ true → IsStrictlySortedBy string_cmp (keys_of m.entries) → known ≡ count_keys (names_of (fields_view fs.items)) (json_view j) → len ≡ length m.entries
    → (known ≡ len → ⊥) → Somewhere (FaultAt fault.UnknownField) (shape t) (json_view j)
object_unknown t fs o j m known len it is distinct sorted count size other =
    let unknown = sym (known_all t fs o j m known len it is distinct sorted count size) ∙ unequal_is known len other in
    rw (it, shape-Struct fs o) (inl (inr (refl, (members_view m.entries, ap json_view is ∙ view-Object m, unknown))))

-- ---- a map's array

pub pairs_spell : (t : Tree) (k v : Box Tree Global) (o : Vec ℕ Global) (j : Json) (js : Vec Json Global) (ps : Vec MapPair Global) → t ≡ TreeMap k v o → j ≡ Array js
    → PairsSpell (JsonSpells (shape k.value)) (JsonSpells (shape v.value)) (items_view js.items) (pairs_of (map paired ps.items)) → JsonSpells (shape t) (json_view j) (view (Some (MapOf ps)))
pairs_spell t k v o j js ps it is h =
    rw (it, is, shape-Map k v o) (inr (items_view js.items, pairs_of (map paired ps.items), view-Array js, view-Map ps, h))

map_fault_by : (e : JsonFault) (s t : Shape) (o : List ℕ) (js : Items) → InElement (PairFault e s t) (array js) → Somewhere (FaultAt e) (map_of s t o) (array js)
map_fault_by e s t o js (i, p, there, inl none) = inl (none.0, inr (i, p, there, none.1))
map_fault_by e s t o js (i, p, there, inr bad) = inr (i, p, there, bad)

pub map_fault : (e : JsonFault) (t : Tree) (k v : Box Tree Global) (o : Vec ℕ Global) (j : Json) (js : Vec Json Global) → t ≡ TreeMap k v o → j ≡ Array js
    → InElement (PairFault e (shape k.value) (shape v.value)) (array (items_view js.items)) → Somewhere (FaultAt e) (shape t) (json_view j)
map_fault e t k v o j js it is h = rw (it, is, shape-Map k v o, view-Array js) (map_fault_by e (shape k.value) (shape v.value) o.items (items_view js.items) h)

-- ---- an array of two

pub no_two : (js : List Json) → ¬ (length js ≡ 2) → (x y : Data) → array (items_view js) ≡ array (item x (item y no_items)) → ⊥
no_two [] wrong x y h = cc
no_two (a ∷ []) wrong x y h = cc
no_two (a ∷ b ∷ []) wrong x y h = wrong refl
no_two (a ∷ b ∷ c ∷ js) wrong x y h = cc

pub two_parts : (js : List Json) (a b : Json) → length js ≡ 2 → a ≡ get_or js 0 a → b ≡ get_or js 1 b → array (items_view js) ≡ array (item (json_view a) (item (json_view b) no_items))
two_parts [] a b l p q = absurd (omega (arith, l))
two_parts (x ∷ []) a b l p q = absurd (omega (arith, l))
two_parts (x ∷ y ∷ []) a b l p q = rw (p, q) refl
two_parts (x ∷ y ∷ z ∷ js) a b l p q = absurd (omega (arith, l))
