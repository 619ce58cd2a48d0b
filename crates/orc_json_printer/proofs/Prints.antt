-- Texts by layouts are those of the rows' JSON.
use Rattle.std.proofs.Common.{◌≡◌, ℕ, zero, suc, ◌<◌, List, [], ◌∷◌, ◌++◌, Bool, true, false, String, Global, string_bytes, length, get_or, drop, refl, sym, ap, ap₂, ◌∙◌, subst, arith, append_assoc, append-nil, drop-cons, Ordering, Less, Equal, Greater, string_cmp}
use Rattle.std.specs.Prelude.{◌&&◌}
use Rattle.std.proofs.lemmas.Bool.{and_parts}
use Rattle.std.specs.Ordering.{match_ordering}
use Rattle.std.specs.BTreeMap.{insert_entry}
use Rattle.json.specs.Print.{quoted}
use Rattle.serde_json.specs.Data.{Data, Members, no_members, put}
use Rattle.serde_json.specs.Written.{compact_text, comma_if, items_text, members_text}
use Rattle.orc_values.specs.Shapes.{Shape, scalar, list_of, map_of, struct_of}
use Rattle.orc_values.specs.Cells.{Cell, null, leaf, list, struct, pairs, Cells, end, more, Pairs, no_pair, pair, cells_of, list_of_cells, list_of_pairs}
use Rattle.orc_values.specs.Fits.{fits, all_fit, pairs_fit, each_fits}
use Rattle.orc_json_rows.specs.JsonPrinting.{json_of, each_json, pair_json, pairs_json, members_json}
use Rattle.orc_values.specs.Views.{fields_of}
use Rattle.orc_values.specs.declared.kind.Scalar.{Scalar}
use Rattle.orc_values.proofs.Views.{cells_of-list_of_cells}
use Rattle.orc_json_printer.specs.Layouts.{LaidMember, PairTexts, leaf_text, elements_text, pair_text, pairs_text, parts_text, list_json_text, map_text, struct_text}
use Rattle.orc_json_printer.specs.Texts.{Prints, PrintsStruct, no_name, shape_in, cell_in, json_in, members_at, ArePlacesInOrder, AreWithin}

pub prints_leaf : (k : Scalar) (o : List ℕ) → Prints leaf_text (scalar k o)
prints_leaf k o = λ c h. refl

-- ---- lists

elements_print : (text : Cell → List ℕ) (s : Shape) → Prints text s → (later : Bool) (cs : Cells) → all_fit cs s ≡ true → elements_text text later (list_of_cells cs) ≡ items_text later (each_json (λ x. json_of s x) cs)
elements_print text s u later end h = refl
elements_print text s u later (more c cs) h =
    let p = and_parts (fits c s) (all_fit cs s) h in
    ap₂ (λ (a b : List ℕ). comma_if later ++ (a ++ b)) (u c p.0) (elements_print text s u true cs p.1)

pub prints_list : (text : Cell → List ℕ) (s : Shape) (o : List ℕ) → Prints text s → Prints (list_json_text text) (list_of s o)
prints_list text s o u null h = refl
prints_list text s o u (leaf a) h = refl
prints_list text s o u (list cs) h = ap (λ (t : List ℕ). 91 ∷ t) (elements_print text s u false cs h)
prints_list text s o u (struct cs) h = refl
prints_list text s o u (pairs ps) h = refl

-- ---- maps

pair_prints : (t : PairTexts) (k v : Shape) → Prints t.key k → Prints t.value v → (x y : Cell) → fits x k ≡ true → fits y v ≡ true → pair_text t (x, y) ≡ compact_text (pair_json (json_of k x) (json_of v y))
pair_prints t k v u w x y h i = ap₂ (λ (a b : List ℕ). 91 ∷ (a ++ 44 ∷ (b ++ 93 ∷ []))) (u x h) (w y i)

pairs_print : (t : PairTexts) (k v : Shape) → Prints t.key k → Prints t.value v → (later : Bool) (ps : Pairs) → pairs_fit ps k v ≡ true
    → pairs_text t later (list_of_pairs ps) ≡ items_text later (pairs_json (λ x. json_of k x) (λ x. json_of v x) ps)
pairs_print t k v u w later no_pair h = refl
pairs_print t k v u w later (pair x y ps) h =
    let p = and_parts (fits x k) (fits y v && pairs_fit ps k v) h in
    let q = and_parts (fits y v) (pairs_fit ps k v) p.1 in
    ap₂ (λ (a b : List ℕ). comma_if later ++ (a ++ b)) (pair_prints t k v u w x y p.0 q.0) (pairs_print t k v u w true ps q.1)

pub prints_map : (t : PairTexts) (k v : Shape) (o : List ℕ) → Prints t.key k → Prints t.value v → Prints (map_text t) (map_of k v o)
prints_map t k v o u w null h = refl
prints_map t k v o u w (leaf a) h = refl
prints_map t k v o u w (list cs) h = refl
prints_map t k v o u w (struct cs) h = refl
prints_map t k v o u w (pairs ps) h = ap (λ (x : List ℕ). 91 ∷ x) (pairs_print t k v u w false ps h)

-- ---- the order of a struct's fields: what is done to places is done to what stands at them

abbrev pub Entry : Type 0
Entry = String Global × ℕ

members_at-match_ordering : (f : ℕ → Data) (o : Ordering) (a b c : List Entry) → members_at f (match_ordering o a b c) ≡ match_ordering o (members_at f a) (members_at f b) (members_at f c)
members_at-match_ordering f Less a b c = refl
members_at-match_ordering f Equal a b c = refl
members_at-match_ordering f Greater a b c = refl

pub members_at-insert_entry : (f : ℕ → Data) (es : List Entry) (k : String Global) (i : ℕ) → members_at f (insert_entry string_cmp es k i) ≡ put (string_bytes k) (f i) (members_at f es)
members_at-insert_entry f [] k i = refl
members_at-insert_entry f (e ∷ es) k i = members_at-match_ordering f (string_cmp k e.0) _ _ _ ∙ rw (members_at-insert_entry f es k i)

within_at : (n : ℕ) (o : Ordering) (a b c : List Entry) → AreWithin n a → AreWithin n b → AreWithin n c → AreWithin n (match_ordering o a b c)
within_at n Less a b c p q r = p
within_at n Equal a b c p q r = q
within_at n Greater a b c p q r = r

pub within_more : (n : ℕ) (es : List Entry) (k : String Global) (i : ℕ) → i < n → AreWithin n es → AreWithin n (insert_entry string_cmp es k i)
within_more n [] k i lt h = (lt, tt)
within_more n (e ∷ es) k i lt h = within_at n (string_cmp k e.0) _ _ _ (lt, h) (lt, h.1) (h.0, within_more n es k i lt h.1)

-- one field more has its place
pub members_next : (fs : List (List ℕ × Shape)) (cs : List Cell) (i : ℕ) (ms : Members) → i < length fs → length cs ≡ length fs
    → members_json (fields_of (drop (suc i) fs)) (cells_of (drop (suc i) cs)) (put (get_or fs i no_name).0 (json_in fs cs i) ms) ≡ members_json (fields_of (drop i fs)) (cells_of (drop i cs)) ms
members_next fs cs i ms h same = let k : i < length cs = omega (arith, h, same) in rw (drop-cons fs i no_name, drop-cons cs i null) refl

-- ---- structs

-- the parts print the fields at these places, in this order
abbrev pub Match : List (List ℕ × Shape) → List LaidMember → Bool → List Entry → Type 0
Match fs [] later [] = Unit {0}
Match fs [] later (e ∷ es) = ⊥
Match fs (p ∷ ps) later [] = ⊥
Match fs (p ∷ ps) later (e ∷ es) = (p.key ≡ comma_if later ++ (quoted (string_bytes e.0) ++ 58 ∷ [])) × (p.place ≡ e.1) × Prints p.text (shape_in fs e.1) × Match fs ps true es

in_groups : (q k t r : List ℕ) → (q ++ (k ++ 58 ∷ [])) ++ (t ++ r) ≡ q ++ (k ++ 58 ∷ (t ++ r))
in_groups q k t r = append_assoc q _ _ ∙ ap (λ (x : List ℕ). q ++ x) (append_assoc k (58 ∷ []) (t ++ r))

parts_print : (fs : List (List ℕ × Shape)) (cs : List Cell) → ((i : ℕ) → fits (cell_in cs i) (shape_in fs i) ≡ true) → (ps : List LaidMember) (later : Bool) (es : List Entry) → Match fs ps later es
    → parts_text ps cs ≡ members_text later (members_at (json_in fs cs) es)
parts_print fs cs u [] later [] h = refl
parts_print fs cs u [] later (e ∷ es) h = absurd h
parts_print fs cs u (p ∷ ps) later [] h = absurd h
parts_print fs cs u (p ∷ ps) later (e ∷ es) h =
    let own : p.text (cell_in cs p.place) ≡ compact_text (json_in fs cs e.1) = ap (λ (i : ℕ). p.text (cell_in cs i)) h.1 ∙ h.2 (cell_in cs e.1) (u e.1) in
    ap₂ (λ (a b : List ℕ). a ++ b) h.0 (ap₂ (λ (a b : List ℕ). a ++ b) own (parts_print fs cs u ps true es h.3))
    ∙ in_groups (comma_if later) (quoted (string_bytes e.0)) (compact_text (json_in fs cs e.1)) (members_text true (members_at (json_in fs cs) es))

fits_in : (cs : Cells) (fs : List (List ℕ × Shape)) → each_fits cs (fields_of fs) ≡ true → (i : ℕ) → fits (cell_in (list_of_cells cs) i) (shape_in fs i) ≡ true
fits_in end fs h i = refl
fits_in (more c cs) [] h i = cc
fits_in (more c cs) (f ∷ fs) h zero = (and_parts (fits c f.1) (each_fits cs (fields_of fs)) h).0
fits_in (more c cs) (f ∷ fs) h (suc i) = fits_in cs fs (and_parts (fits c f.1) (each_fits cs (fields_of fs)) h).1 i

as_many : (cs : Cells) (fs : List (List ℕ × Shape)) → each_fits cs (fields_of fs) ≡ true → length (list_of_cells cs) ≡ length fs
as_many end [] h = refl
as_many end (f ∷ fs) h = cc
as_many (more c cs) [] h = cc
as_many (more c cs) (f ∷ fs) h = ap suc (as_many cs fs (and_parts (fits c f.1) (each_fits cs (fields_of fs)) h).1)

pub prints_struct : (fs : List (List ℕ × Shape)) (ps : List LaidMember) (es : List Entry) → Match fs ps false es → ArePlacesInOrder fs es → (o : List ℕ) → Prints (struct_text ps) (struct_of (fields_of fs) o)
prints_struct fs ps es m order o null h = refl
prints_struct fs ps es m order o (leaf a) h = refl
prints_struct fs ps es m order o (list cs) h = refl
prints_struct fs ps es m order o (pairs qs) h = refl
prints_struct fs ps es m order o (struct cs) h =
    let xs = list_of_cells cs in
    let own = parts_print fs xs (fits_in cs fs h) ps false es m in
    let same = order xs (as_many cs fs h) ∙ ap (λ (x : Cells). members_json (fields_of fs) x no_members) (cells_of-list_of_cells cs) in
    ap (λ (t : List ℕ). 123 ∷ t) (own ∙ ap (members_text false) same)

-- ---- laying out the members of a struct

-- whatever prints the places that are left makes all of it print
pub record Laying (n : ℕ) (fs : List (List ℕ × Shape)) (ms : List LaidMember) (later : Bool) (left : List Entry) : Type 0 where
  pub places : List Entry
  pub order : ArePlacesInOrder fs places
  pub rest : (ps : List LaidMember) → Match fs ps later left → Match fs (ms ++ ps) false places
  pub within : AreWithin n left

pub laying_first : (n : ℕ) (fs : List (List ℕ × Shape)) (es : List Entry) → ArePlacesInOrder fs es → AreWithin n es → Laying n fs [] false es
laying_first n fs es order within = record { places = es; order = order; rest = λ ps m. m; within = within }

pub laying_next : (n : ℕ) (fs : List (List ℕ × Shape)) (ms : List LaidMember) (p : LaidMember) (later : Bool) (e : Entry) (left others : List Entry) → left ≡ e ∷ others
    → p.key ≡ comma_if later ++ (quoted (string_bytes e.0) ++ 58 ∷ []) → p.place ≡ e.1 → Prints p.text (shape_in fs e.1) → Laying n fs ms later left → Laying n fs (ms ++ p ∷ []) true others
laying_next n fs ms p later e left others is key place prints l = record {
  places = l.places;
  order = l.order;
  rest = λ ps m. subst (λ (t : List LaidMember). Match fs t false l.places) (sym (append_assoc ms (p ∷ []) ps)) (l.rest (p ∷ ps) (subst (λ (t : List Entry). Match fs (p ∷ ps) later t) (sym is) (key, place, prints, m)));
  within = (subst (λ (t : List Entry). AreWithin n t) is l.within).1;
}

pub laying_place : (n : ℕ) (fs : List (List ℕ × Shape)) (ms : List LaidMember) (later : Bool) (e : Entry) (left others : List Entry) → left ≡ e ∷ others → Laying n fs ms later left → e.1 < n
laying_place n fs ms later e left others is l = (subst (λ (t : List Entry). AreWithin n t) is l.within).0

pub laying_last : (n : ℕ) (fs : List (List ℕ × Shape)) (ms : List LaidMember) (later : Bool) (left : List Entry) → left ≡ [] → Laying n fs ms later left → PrintsStruct (struct_text ms) fs
laying_last n fs ms later left is l =
    let whole = subst (λ (t : List LaidMember). Match fs t false l.places) (append-nil ms) (l.rest [] (subst (λ (t : List Entry). Match fs [] later t) (sym is) tt)) in
    prints_struct fs ms l.places whole l.order
