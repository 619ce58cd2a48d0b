-- Layouts, level by level.
use Rattle.std.proofs.Common.{◌≡◌, ℕ, suc, ◌+◌, ◌<◌, List, [], ◌∷◌, ◌++◌, length, map, get_or, drop, Vec, Box, Global, sym, ap, ◌∙◌, subst, arith, rules, add-one, ◌≤◌, String, string_bytes, string_cmp}
use Rattle.std.proofs.lemmas.List.{get_or-map, drop_all, length-map}
use Rattle.std.specs.BTreeMap.{insert_entry}
use Rattle.serde_json.specs.Data.{no_members, put}
use Rattle.orc_values.specs.Shapes.{Shape}
use Rattle.orc_json_rows.specs.JsonPrinting.{members_json}
use Rattle.orc_values.specs.Cells.{Cell, cells_of}
use Rattle.orc_values.specs.Views.{shape, name_and_type, fields_of}
use Rattle.orc_values.specs.declared.kind.Scalar.{Scalar as Kind}
use Rattle.orc_values.specs.declared.tree.Field.{Field}
use Rattle.orc_values.specs.declared.tree.Tree.{Tree, Scalar as TreeScalar, List as TreeList, Map as TreeMap, Struct as TreeStruct}
use Rattle.orc_values.proofs.Views.{shape-Scalar, shape-List, shape-Map, shape-Struct, name_and_type-is}
use Rattle.orc_json_printer.specs.Layouts.{LaidMember, text_by, part, member_parts, pair_texts, leaf_text, list_json_text, map_text, struct_text}
use Rattle.orc_json_printer.specs.Texts.{Prints, PrintsStruct, no_name, shape_in, json_in, members_at, ArePlacesInOrder}
use Rattle.orc_json_printer.specs.declared.layout.Layout.{Layout, Leaf, List as ListOf, Map as MapLayout, Struct}
use Rattle.orc_json_printer.specs.declared.layout.Layout.TheFolds.{the_lemmas}
use Rattle.orc_json_printer.specs.declared.layout.Member.{Member}
use Rattle.orc_json_printer.specs.declared.layout.FieldColumns.{FieldColumns}
use Rattle.orc_json_printer.specs.declared.layout.PairLayout.{PairLayout}
use Rattle.orc_json_printer.proofs.Prints.{Entry, prints_leaf, prints_list, prints_map, members_at-insert_entry, members_next}

pub text_by-Leaf : text_by Leaf ≡ leaf_text
text_by-Leaf = search (rules, the_lemmas)

pub text_by-List : (b : Box Layout Global) → text_by (ListOf b) ≡ list_json_text (text_by b.value)
text_by-List b = search (rules, the_lemmas)

pub text_by-Map : (b : Box PairLayout Global) → text_by (MapLayout b) ≡ map_text (pair_texts b.value)
text_by-Map b = search (rules, the_lemmas)

pub pair_texts-is : (p : PairLayout) → pair_texts p ≡ (record { key = text_by p.key; value = text_by p.value })
pair_texts-is p = search (rules, the_lemmas)

pub text_by-Struct : (ms : Vec Member Global) (xs : Vec FieldColumns Global) → text_by (Struct ms xs) ≡ struct_text (member_parts ms.items)
text_by-Struct ms xs = search (rules, the_lemmas)

pub part-is : (m : Member) → part m ≡ (record { key = m.key.items; place = m.place; text = text_by m.layout })
part-is m = search (rules, the_lemmas)

-- ---- what is laid out prints

pub laid_leaf : (t : Tree) (k : Kind) (o : Vec ℕ Global) → t ≡ TreeScalar k o → Prints (text_by Leaf) (shape t)
laid_leaf t k o is = rw (is, shape-Scalar k o, text_by-Leaf) (prints_leaf k o.items)

pub laid_list : (t : Tree) (e : Box Tree Global) (o : Vec ℕ Global) (b : Box Layout Global) → t ≡ TreeList e o → Prints (text_by b.value) (shape e.value) → Prints (text_by (ListOf b)) (shape t)
laid_list t e o b is u = rw (is, shape-List e o, text_by-List b) (prints_list (text_by b.value) (shape e.value) o.items u)

pub laid_map : (t : Tree) (k v : Box Tree Global) (o : Vec ℕ Global) (b : Box PairLayout Global) → t ≡ TreeMap k v o → Prints (text_by b.value.key) (shape k.value) → Prints (text_by b.value.value) (shape v.value) → Prints (text_by (MapLayout b)) (shape t)
laid_map t k v o b is u w = rw (is, shape-Map k v o, text_by-Map b, pair_texts-is b.value) (prints_map (record { key = text_by b.value.key; value = text_by b.value.value }) (shape k.value) (shape v.value) o.items u w)

pub laid_struct : (t : Tree) (fs : Vec Field Global) (o : Vec ℕ Global) (ms : Vec Member Global) (xs : Vec FieldColumns Global) → t ≡ TreeStruct fs o → PrintsStruct (struct_text (member_parts ms.items)) (map name_and_type fs.items) → Prints (text_by (Struct ms xs)) (shape t)
laid_struct t fs o ms xs is u = rw (is, shape-Struct fs o, text_by-Struct ms xs) (u o.items)

-- ---- one more

pub member_parts_more : (ms : List Member) (m : Member) → member_parts (ms ++ m ∷ []) ≡ member_parts ms ++ (record { key = m.key.items; place = m.place; text = text_by m.layout }) ∷ []
member_parts_more [] m = ap (λ (p : LaidMember). p ∷ []) (part-is m)
member_parts_more (x ∷ ms) m = ap (λ (ps : List LaidMember). part x ∷ ps) (member_parts_more ms m)

-- ---- the places of fields

pub places_next : (fs : List Field) (cs : List Cell) (i : ℕ) (f : Field) (es new : List Entry) (k : String Global) → i < length fs → length cs ≡ length (map name_and_type fs) → f ≡ get_or fs i f
    → string_bytes k ≡ string_bytes f.name → new ≡ insert_entry string_cmp es k i
    → members_json (fields_of (drop (i + 1) (map name_and_type fs))) (cells_of (drop (i + 1) cs)) (members_at (json_in (map name_and_type fs) cs) new)
    ≡ members_json (fields_of (drop i (map name_and_type fs))) (cells_of (drop i cs)) (members_at (json_in (map name_and_type fs) cs) es)
places_next fs cs i f es new k lt same is key e =
    let all = map name_and_type fs in
    let json = json_in all cs in
    let old = members_at json es in
    let many : length all ≡ length fs = length-map fs name_and_type in
    let here : get_or all i no_name ≡ (string_bytes f.name, shape f.tree) = get_or-map name_and_type fs i f no_name lt ∙ ap name_and_type (sym is) ∙ name_and_type-is f in
    let name : (get_or all i no_name).0 ≡ string_bytes k = ap (λ (p : List ℕ × Shape). p.0) here ∙ sym key in
    rw (add-one, e, members_at-insert_entry json es k i)
    (ap (λ (n : List ℕ). members_json (fields_of (drop (suc i) all)) (cells_of (drop (suc i) cs)) (put n (json i) old)) (sym name) ∙ members_next all cs i old (omega (arith, lt, many)) same)

pub places_last : (fs items : List Field) (i : ℕ) (es : List Entry) → items ≡ fs → length items ≤ i
    → ((cs : List Cell) → length cs ≡ length (map name_and_type items) → members_json (fields_of (drop i (map name_and_type items))) (cells_of (drop i cs)) (members_at (json_in (map name_and_type items) cs) es)
    ≡ members_json (fields_of (map name_and_type items)) (cells_of cs) no_members)
    → ArePlacesInOrder (map name_and_type fs) es
places_last fs items i es is le h =
    let all = map name_and_type items in
    let many : length all ≡ length items = length-map items name_and_type in
    let none : drop i all ≡ [] = drop_all i all (omega (arith, le, many)) in
    subst (λ (t : List Field). ArePlacesInOrder (map name_and_type t) es) is
    (λ cs same. sym (ap (λ (t : List (List ℕ × Shape)). members_json (fields_of t) (cells_of (drop i cs)) (members_at (json_in all cs) es)) none) ∙ h cs same)

pub shape_placed : (fs : List Field) (i : ℕ) (f : Field) → i < length fs → f ≡ get_or fs i f → shape f.tree ≡ shape_in (map name_and_type fs) i
shape_placed fs i f lt is = sym (ap (λ (p : List ℕ × Shape). p.1) (get_or-map name_and_type fs i f no_name lt ∙ ap name_and_type (sym is) ∙ name_and_type-is f))
