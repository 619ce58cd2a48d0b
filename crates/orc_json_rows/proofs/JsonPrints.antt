-- The JSON of lists and structs.
use Rattle.std.proofs.Common.{◌≡◌, ℕ, ◌<◌, zero, suc, true, List, [], ◌∷◌, ◌++◌, take, map, length, get_or, drop, Option, Some, Vec, Box, Global, String, BTreeMap, string_bytes, refl, sym, ap, ◌∙◌, arith, drop-cons}
use Rattle.std.proofs.lemmas.Bool.{and_parts}
use Rattle.std.proofs.lemmas.List.{map-append}
use Rattle.std.proofs.Math.Seq.{take-suc}
use Rattle.serde_json.specs.Data.{Data, array, object, item, Members, no_members, put}
use Rattle.serde_json.specs.View.{view as json_view, items_of, members_view}
use Rattle.serde_json.specs.declared.value.Value.{Value as Json, Array, Object}
use Rattle.serde_json.proofs.Views.{view-Array, view-Object}
use Rattle.orc_values.specs.Shapes.{Shape}
use Rattle.orc_values.specs.Cells.{Cell, cells_of, pairs_of}
use Rattle.orc_values.specs.Views.{view, views, paired, shape, name_and_type, fields as fields_view}
use Rattle.orc_values.specs.declared.tree.Field.{Field}
use Rattle.orc_values.specs.declared.tree.Tree.{Tree, List as TreeList, Map as TreeMap, Struct as TreeStruct}
use Rattle.orc_values.specs.declared.value.Value.{Value, List as ListOf, Map as MapOf, Struct as StructOf}
use Rattle.orc_values.specs.declared.value.MapPair.{MapPair}
use Rattle.orc_values.specs.Fits.{fits, all_fit, each_fits, pairs_fit}
use Rattle.orc_json_rows.specs.JsonPrinting.{json_of, each_json, pair_json, pairs_json, members_json}
use Rattle.orc_values.proofs.Views.{name_and_type-is, paired-is, shape-List, shape-Map, shape-Struct, view-List, view-Map, view-Struct}

each_json-cells_of : (f : Cell → Data) (cs : List Cell) → each_json f (cells_of cs) ≡ items_of (map f cs)
each_json-cells_of f [] = refl
each_json-cells_of f (c ∷ cs) = ap (λ ds. item (f c) ds) (each_json-cells_of f cs)

pub members_more : (fs : List Field) (rs : List (Option Value)) (i : ℕ) (f : Field) (r : Option Value) (ms : Members) → i < length fs → i < length rs → f ≡ get_or fs i f → r ≡ get_or rs i r
    → members_json (fields_view (drop (suc i) fs)) (cells_of (views (drop (suc i) rs))) (put (string_bytes f.name) (json_of (shape f.tree) (view r)) ms)
    ≡ members_json (fields_view (drop i fs)) (cells_of (views (drop i rs))) ms
members_more fs rs i f r ms h k is at = rw (drop-cons fs i f, drop-cons rs i r, ← is, ← at, name_and_type-is f) refl

-- ---- rows that fit

pub element_fits : (rs : List (Option Value)) (s : Shape) (i : ℕ) (r : Option Value) → i < length rs → r ≡ get_or rs i r → all_fit (cells_of (views rs)) s ≡ true → fits (view r) s ≡ true
element_fits [] s i r h is e = absurd (omega (arith, h))
element_fits (q ∷ rs) s zero r h is e = rw is (and_parts (fits (view q) s) (all_fit (cells_of (views rs)) s) e).0
element_fits (q ∷ rs) s (suc i) r h is e = element_fits rs s i r (omega (arith, h)) is (and_parts (fits (view q) s) (all_fit (cells_of (views rs)) s) e).1

pub as_many : (rs : List (Option Value)) (fs : List Field) → each_fits (cells_of (views rs)) (fields_view fs) ≡ true → length fs ≡ length rs
as_many [] [] e = refl
as_many [] (f ∷ fs) e = cc
as_many (r ∷ rs) [] e = cc
as_many (r ∷ rs) (f ∷ fs) e = ap suc (as_many rs fs (and_parts (fits (view r) (name_and_type f).1) (each_fits (cells_of (views rs)) (fields_view fs)) e).1)

pub member_fits : (rs : List (Option Value)) (fs : List Field) (i : ℕ) (r : Option Value) (f : Field) → i < length fs → r ≡ get_or rs i r → f ≡ get_or fs i f
    → each_fits (cells_of (views rs)) (fields_view fs) ≡ true → fits (view r) (shape f.tree) ≡ true
member_fits rs [] i r f h is at e = absurd (omega (arith, h))
member_fits [] (g ∷ fs) i r f h is at e = cc
member_fits (q ∷ rs) (g ∷ fs) zero r f h is at e = rw (is, at, ← ap (λ (p : List ℕ × Shape). p.1) (name_and_type-is g)) (and_parts (fits (view q) (name_and_type g).1) (each_fits (cells_of (views rs)) (fields_view fs)) e).0
member_fits (q ∷ rs) (g ∷ fs) (suc i) r f h is at e = member_fits rs fs i r f (omega (arith, h)) is at (and_parts (fits (view q) (name_and_type g).1) (each_fits (cells_of (views rs)) (fields_view fs)) e).1

pairs_json-pairs_of : (f g : Cell → Data) (ps : List (Cell × Cell)) → pairs_json f g (pairs_of ps) ≡ items_of (map (λ p. pair_json (f p.0) (g p.1)) ps)
pairs_json-pairs_of f g [] = refl
pairs_json-pairs_of f g (p ∷ ps) = ap (λ ds. item (pair_json (f p.0) (g p.1)) ds) (pairs_json-pairs_of f g ps)

pub pair_fits : (ps : List MapPair) (s t : Shape) (i : ℕ) (p : MapPair) → i < length ps → p ≡ get_or ps i p → pairs_fit (pairs_of (map paired ps)) s t ≡ true → (fits (view p.key) s ≡ true) × (fits (view p.value) t ≡ true)
pair_fits [] s t i p h is e = absurd (omega (arith, h))
pair_fits (q ∷ ps) s t zero p h is e =
    let r = and_parts (fits (paired q).0 s) _ e in
    let u = and_parts (fits (paired q).1 t) (pairs_fit (pairs_of (map paired ps)) s t) r.1 in
    let k : (paired q).0 ≡ view p.key = ap (λ (x : Cell × Cell). x.0) (paired-is q) ∙ ap (λ (x : MapPair). view x.key) (sym is) in
    let v : (paired q).1 ≡ view p.value = ap (λ (x : Cell × Cell). x.1) (paired-is q) ∙ ap (λ (x : MapPair). view x.value) (sym is) in
    (ap (λ x. fits x s) (sym k) ∙ r.0, ap (λ x. fits x t) (sym v) ∙ u.0)
pair_fits (q ∷ ps) s t (suc i) p h is e =
    let r = and_parts (fits (paired q).0 s) _ e in
    let u = and_parts (fits (paired q).1 t) (pairs_fit (pairs_of (map paired ps)) s t) r.1 in
    pair_fits ps s t i p (omega (arith, h)) is u.1

pub map_fits : (t : Tree) (k v : Box Tree Global) (o : Vec ℕ Global) (r : Option Value) (x : Value) (ps : Vec MapPair Global) → t ≡ TreeMap k v o → r ≡ Some x → x ≡ MapOf ps
    → fits (view r) (shape t) ≡ true → pairs_fit (pairs_of (map paired ps.items)) (shape k.value) (shape v.value) ≡ true
map_fits t k v o r x ps it is at e = rw (it, is, at, shape-Map k v o, view-Map ps) at e

pub list_fits : (t : Tree) (b : Box Tree Global) (o : Vec ℕ Global) (r : Option Value) (v : Value) (rows : Vec (Option Value) Global) → t ≡ TreeList b o → r ≡ Some v → v ≡ ListOf rows
    → fits (view r) (shape t) ≡ true → all_fit (cells_of (views rows.items)) (shape b.value) ≡ true
list_fits t b o r v rows it is at e = rw (it, is, at, shape-List b o, view-List rows) at e

pub struct_fits : (t : Tree) (fs : Vec Field Global) (o : Vec ℕ Global) (r : Option Value) (v : Value) (rows : Vec (Option Value) Global) → t ≡ TreeStruct fs o → r ≡ Some v → v ≡ StructOf rows
    → fits (view r) (shape t) ≡ true → each_fits (cells_of (views rows.items)) (fields_view fs.items) ≡ true
struct_fits t fs o r v rows it is at e = rw (it, is, at, shape-Struct fs o, view-Struct rows) at e

-- ---- what is printed

pub list_prints : (t : Tree) (b : Box Tree Global) (o : Vec ℕ Global) (r : Option Value) (v : Value) (rows : Vec (Option Value) Global) (js : Vec Json Global) → t ≡ TreeList b o → r ≡ Some v → v ≡ ListOf rows
    → map json_view js.items ≡ map (json_of (shape b.value)) (views rows.items) → json_view (Array js) ≡ json_of (shape t) (view r)
list_prints t b o r v rows js it is at h =
    view-Array js ∙ ap (λ ds. array (items_of ds)) h ∙ ap array (sym (each_json-cells_of (json_of (shape b.value)) (views rows.items))) ∙ rw (it, is, at, shape-List b o, view-List rows) refl

pub map_prints : (t : Tree) (k v : Box Tree Global) (o : Vec ℕ Global) (r : Option Value) (x : Value) (ps : Vec MapPair Global) (js : Vec Json Global) → t ≡ TreeMap k v o → r ≡ Some x → x ≡ MapOf ps
    → map json_view js.items ≡ map (λ p. pair_json (json_of (shape k.value) p.0) (json_of (shape v.value) p.1)) (map paired ps.items) → json_view (Array js) ≡ json_of (shape t) (view r)
map_prints t k v o r x ps js it is at h =
    view-Array js ∙ ap (λ ds. array (items_of ds)) h ∙ ap array (sym (pairs_json-pairs_of (json_of (shape k.value)) (json_of (shape v.value)) (map paired ps.items))) ∙ rw (it, is, at, shape-Map k v o, view-Map ps) refl

pub struct_prints : (t : Tree) (fs : Vec Field Global) (o : Vec ℕ Global) (r : Option Value) (v : Value) (rows : Vec (Option Value) Global) (m : BTreeMap (String Global) Json) → t ≡ TreeStruct fs o → r ≡ Some v → v ≡ StructOf rows
    → members_view m.entries ≡ members_json (fields_view fs.items) (cells_of (views rows.items)) no_members → json_view (Object m) ≡ json_of (shape t) (view r)
struct_prints t fs o r v rows m it is at h = view-Object m ∙ ap object h ∙ rw (it, is, at, shape-Struct fs o, view-Struct rows) refl

-- one more array of two
pub rows_more : (f : Cell → Data) (rs : List (Option Value)) (i : ℕ) (r : Option Value) (js : List Json) (j : Json) → i < length rs → r ≡ get_or rs i r → json_view j ≡ f (view r)
    → map json_view js ≡ map f (views (take i rs)) → map json_view (js ++ j ∷ []) ≡ map f (views (take (suc i) rs))
rows_more f rs i r js j h is one so_far =
    let ends : take (suc i) rs ≡ take i rs ++ r ∷ [] = take-suc rs i r h ∙ ap (λ x. take i rs ++ x ∷ []) (sym is) in
    let all : map f (views (take (suc i) rs)) ≡ map f (views (take i rs)) ++ f (view r) ∷ [] =
    ap (λ xs. map f (views xs)) ends ∙ ap (map f) (map-append view (take i rs) (r ∷ [])) ∙ map-append f (views (take i rs)) (view r ∷ []) in
    map-append json_view js (j ∷ []) ∙ ap (λ x. map json_view js ++ x ∷ []) one ∙ ap (λ xs. xs ++ f (view r) ∷ []) so_far ∙ sym all

pub pairs_more : (f : Cell × Cell → Data) (ps : List MapPair) (i : ℕ) (p : MapPair) (js : List Json) (j : Json) → i < length ps → p ≡ get_or ps i p → json_view j ≡ f (view p.key, view p.value)
    → map json_view js ≡ map f (map paired (take i ps)) → map json_view (js ++ j ∷ []) ≡ map f (map paired (take (suc i) ps))
pairs_more f ps i p js j h is one so_far =
    let ends : take (suc i) ps ≡ take i ps ++ p ∷ [] = take-suc ps i p h ∙ ap (λ x. take i ps ++ x ∷ []) (sym is) in
    let all : map f (map paired (take (suc i) ps)) ≡ map f (map paired (take i ps)) ++ f (paired p) ∷ [] =
    ap (λ xs. map f (map paired xs)) ends ∙ ap (map f) (map-append paired (take i ps) (p ∷ [])) ∙ map-append f (map paired (take i ps)) (paired p ∷ []) in
    map-append json_view js (j ∷ []) ∙ ap (λ x. map json_view js ++ x ∷ []) (one ∙ ap f (sym (paired-is p))) ∙ ap (λ xs. xs ++ f (paired p) ∷ []) so_far ∙ sym all
