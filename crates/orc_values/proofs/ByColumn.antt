-- Cells of columns, and the fields of structs.
use Rattle.std.proofs.Common.{◌≡◌, ℕ, zero, suc, ◌+◌, ◌-◌, ◌<◌, ◌≤◌, List, [], ◌∷◌, ◌++◌, length, get_or, map, take, drop, true, false, ◌&&◌, ltb, Option, Vec, Global, refl, sym, ap, ◌∙◌, subst, arith, drop-cons, sub-one, Box}
use Rattle.std.proofs.lemmas.Bool.{lt-ltb, le-ltb}
use Rattle.orc_values.specs.declared.tree.Tree.{Tree, List as TreeList, Map as TreeMap, Struct as TreeStruct}
use Rattle.std.specs.List.{flat_map}
use Rattle.orc_values.specs.Shapes.{Shape, Fields, no_field, field, width, widths, shape_at}
use Rattle.orc_values.specs.Cells.{Cell, null, leaf, list, struct, pairs, cells_of, pairs_of, parts, values, keys_in, values_in}
use Rattle.orc_values.specs.Columns.{cells, cells_within, IsLocated}
use Rattle.orc_values.specs.Fits.{fits, pairs_fit, each_fits}
use Rattle.orc_values.specs.Views.{shape, name_and_type, fields, view, views, paired}
use Rattle.orc_values.specs.declared.tree.Field.{Field}
use Rattle.orc_values.specs.declared.value.Value.{Value}
use Rattle.orc_values.specs.declared.value.MapPair.{MapPair}
use Rattle.orc_values.proofs.Views.{name_and_type-is, paired-is, shape-List, shape-Map, shape-Struct}

none_left : (i : ℕ) → take 1 (drop i (let e : List Cell = [] in e)) ≡ []
none_left zero = refl
none_left (suc i) = refl

pub parts_values : (cs : List Cell) → flat_map parts (values cs) ≡ flat_map parts cs
parts_values [] = refl
parts_values (null ∷ cs) = parts_values cs
parts_values (leaf a ∷ cs) = parts_values cs
parts_values (list xs ∷ cs) = ap (λ ys. parts (list xs) ++ ys) (parts_values cs)
parts_values (struct xs ∷ cs) = ap (λ ys. parts (struct xs) ++ ys) (parts_values cs)
parts_values (pairs ps ∷ cs) = parts_values cs

pub keys_values : (cs : List Cell) → flat_map keys_in (values cs) ≡ flat_map keys_in cs
keys_values [] = refl
keys_values (null ∷ cs) = keys_values cs
keys_values (leaf a ∷ cs) = keys_values cs
keys_values (list xs ∷ cs) = keys_values cs
keys_values (struct xs ∷ cs) = keys_values cs
keys_values (pairs ps ∷ cs) = ap (λ ys. keys_in (pairs ps) ++ ys) (keys_values cs)

pub values_values : (cs : List Cell) → flat_map values_in (values cs) ≡ flat_map values_in cs
values_values [] = refl
values_values (null ∷ cs) = values_values cs
values_values (leaf a ∷ cs) = values_values cs
values_values (list xs ∷ cs) = values_values cs
values_values (struct xs ∷ cs) = values_values cs
values_values (pairs ps ∷ cs) = ap (λ ys. values_in (pairs ps) ++ ys) (values_values cs)

pub members_values : (i : ℕ) (cs : List Cell) → flat_map (λ c. take 1 (drop i (parts c))) cs ≡ flat_map (λ x. take 1 (drop i x)) (map parts (values cs))
members_values i [] = refl
members_values i (null ∷ cs) = ap (λ xs. xs ++ flat_map (λ c. take 1 (drop i (parts c))) cs) (none_left i) ∙ members_values i cs
members_values i (leaf a ∷ cs) = ap (λ xs. take 1 (drop i []) ++ xs) (members_values i cs)
members_values i (list xs ∷ cs) = ap (λ ys. take 1 (drop i (parts (list xs))) ++ ys) (members_values i cs)
members_values i (struct xs ∷ cs) = ap (λ ys. take 1 (drop i (parts (struct xs))) ++ ys) (members_values i cs)
members_values i (pairs ps ∷ cs) = ap (λ xs. take 1 (drop i []) ++ xs) (members_values i cs)

heads_later : (i : ℕ) (xss : List (List Cell)) → flat_map (λ x. take 1 (drop i x)) (map (drop 1) xss) ≡ flat_map (λ x. take 1 (drop (suc i) x)) xss
heads_later i [] = refl
heads_later i ([] ∷ xss) = ap (λ ys. ys ++ flat_map (λ x. take 1 (drop i x)) (map (drop 1) xss)) (none_left i) ∙ heads_later i xss
heads_later i ((c ∷ cs) ∷ xss) = ap (λ ys. take 1 (drop i cs) ++ ys) (heads_later i xss)

-- the cells of a field's column
pub located_cells : (fs : List Field) (c i d : ℕ) (f : Field) (structs : List (List Cell)) → f ≡ get_or fs i f → IsLocated (fields fs) c i d
    → cells_within (fields fs) c structs ≡ cells (shape f.tree) d (flat_map (λ x. take 1 (drop i x)) structs)
located_cells [] c i d f structs is h = absurd h
located_cells (g ∷ fs) c zero d f structs is h =
    let t : ltb c (width (name_and_type g).1) ≡ true = lt-ltb _ _ h.0 in
    let e : (name_and_type g).1 ≡ shape f.tree = ap (λ (p : List ℕ × Shape). p.1) (name_and_type-is g) ∙ ap (λ (x : Field). shape x.tree) (sym is) in
    rw t (ap (λ s. cells s c (flat_map (take 1) structs)) e ∙ ap (λ n. cells (shape f.tree) n (flat_map (take 1) structs)) h.1)
located_cells (g ∷ fs) c (suc i) d f structs is h =
    let t : ltb c (width (name_and_type g).1) ≡ false = le-ltb _ _ h.0 in
    rw t (located_cells fs (c - width (name_and_type g).1) i d f (map (drop 1) structs) is h.1 ∙ ap (cells (shape f.tree) d) (heads_later i structs))

-- past the last column there is nothing
pub not_located : (fs : Fields) (c : ℕ) (structs : List (List Cell)) → widths fs ≤ c → cells_within fs c structs ≡ []
not_located no_field c structs h = refl
not_located (field name s fs) c structs h =
    let t : ltb c (width s) ≡ false = le-ltb _ _ (omega arith) in
    rw t (not_located fs (c - width s) (map (drop 1) structs) (omega arith))

pub struct_cells : (x : Tree) (fs : Vec Field Global) (o : Vec ℕ Global) (c : ℕ) (rows : List Cell) → x ≡ TreeStruct fs o → ¬ (c ≡ 0)
    → cells (shape x) c rows ≡ cells_within (fields fs.items) (c - 1) (map parts (values rows))
struct_cells x fs o zero rows is h = absurd (h refl)
struct_cells x fs o (suc c) rows is h = rw (is, shape-Struct fs o, sub-one) refl

pub list_cells : (x : Tree) (b : Box Tree Global) (o : Vec ℕ Global) (c : ℕ) (rows : List Cell) → x ≡ TreeList b o → ¬ (c ≡ 0)
    → cells (shape x) c rows ≡ cells (shape b.value) (c - 1) (flat_map parts rows)
list_cells x b o zero rows is h = absurd (h refl)
list_cells x b o (suc c) rows is h = rw (is, shape-List b o, sub-one) (ap (cells (shape b.value) c) (parts_values rows))

pub key_cells : (x : Tree) (k v : Box Tree Global) (o : Vec ℕ Global) (c : ℕ) (rows : List Cell) → x ≡ TreeMap k v o → ¬ (c ≡ 0) → c - 1 < width (shape k.value)
    → cells (shape x) c rows ≡ cells (shape k.value) (c - 1) (flat_map keys_in rows)
key_cells x k v o zero rows is h lt = absurd (h refl)
key_cells x k v o (suc c) rows is h lt =
    let t : ltb c (width (shape k.value)) ≡ true = lt-ltb _ _ (omega (arith, lt)) in
    rw (is, shape-Map k v o, sub-one, t) (ap (cells (shape k.value) c) (keys_values rows))

pub value_cells : (x : Tree) (k v : Box Tree Global) (o : Vec ℕ Global) (c : ℕ) (rows : List Cell) → x ≡ TreeMap k v o → ¬ (c ≡ 0) → width (shape k.value) ≤ c - 1
    → cells (shape x) c rows ≡ cells (shape v.value) (c - 1 - width (shape k.value)) (flat_map values_in rows)
value_cells x k v o zero rows is h le = absurd (h refl)
value_cells x k v o (suc c) rows is h le =
    let t : ltb c (width (shape k.value)) ≡ false = le-ltb _ _ (omega (arith, le)) in
    rw (is, shape-Map k v o, sub-one, t) (ap (cells (shape v.value) (c - width (shape k.value))) (values_values rows))

pub width_within : (fs : List Field) (i : ℕ) (f : Field) → i < length fs → f ≡ get_or fs i f → width (shape f.tree) ≤ widths (fields fs)
width_within [] i f h is = absurd (omega arith)
width_within (g ∷ fs) zero f h is =
    let e : width (shape f.tree) ≡ width (name_and_type g).1 = ap (λ (x : Field). width (shape x.tree)) is ∙ sym (ap (λ (p : List ℕ × Shape). width p.1) (name_and_type-is g)) in
    omega arith
width_within (g ∷ fs) (suc i) f h is = omega (arith, width_within fs i f (omega arith) is)

pub located_more : (fs : List Field) (i left : ℕ) (f : Field) → i < length fs → f ≡ get_or fs i f → width (shape f.tree) ≤ left
    → (j d : ℕ) → IsLocated (fields (drop (suc i) fs)) (left - width (shape f.tree)) j d → IsLocated (fields (drop i fs)) left (suc j) d
located_more fs i left f h is w j d l =
    rw (drop-cons fs i f, ← is, name_and_type-is f) (w, l)

pub located_here : (fs : List Field) (i left : ℕ) (f : Field) → i < length fs → f ≡ get_or fs i f → left < width (shape f.tree) → IsLocated (fields (drop i fs)) left 0 left
located_here fs i left f h is w = rw (drop-cons fs i f, ← is, name_and_type-is f) (w, refl)

pub located_next : (fs : List Field) (c i j d : ℕ) → IsLocated (fields fs) c (i + suc j) d → IsLocated (fields fs) c (suc i + j) d
located_next fs c i j d l = let e : i + suc j ≡ suc i + j = omega arith in subst (λ (n : ℕ). IsLocated (fields fs) c n d) e l

pub past_more : (fs : List Field) (i left : ℕ) (f : Field) → i < length fs → f ≡ get_or fs i f → width (shape f.tree) ≤ left
    → widths (fields (drop (suc i) fs)) ≤ left - width (shape f.tree) → widths (fields (drop i fs)) ≤ left
past_more fs i left f h is w p = rw (drop-cons fs i f, ← is, name_and_type-is f) (omega arith)

pub past_here : (fs : List Field) (i left : ℕ) (f : Field) → i < length fs → f ≡ get_or fs i f → widths (fields (drop i fs)) ≤ left → width (shape f.tree) + widths (fields (drop (suc i) fs)) ≤ left
past_here fs i left f h is p = rw (drop-cons fs i f, ← is, name_and_type-is f) at p

-- ---- rows of fields

-- as many rows as fields, or they don't fit
pub each_fits_lengths : (rs : List (Option Value)) (fs : List Field) → ¬ (length fs ≡ length rs) → each_fits (cells_of (views rs)) (fields fs) ≡ false
each_fits_lengths [] [] h = absurd (h refl)
each_fits_lengths [] (f ∷ fs) h = refl
each_fits_lengths (r ∷ rs) [] h = refl
each_fits_lengths (r ∷ rs) (f ∷ fs) h =
    let e : each_fits (cells_of (views rs)) (fields fs) ≡ false = each_fits_lengths rs fs (λ q. h (ap suc q)) in
    grind (arith, e)

-- one row is passed
pub each_fits_step : (rs : List (Option Value)) (fs : List Field) (i : ℕ) (r : Option Value) (f : Field) → i < length rs → i < length fs
    → r ≡ get_or rs i r → f ≡ get_or fs i f → fits (view r) (shape f.tree) ≡ true
    → each_fits (cells_of (views (drop (suc i) rs))) (fields (drop (suc i) fs)) ≡ each_fits (cells_of (views (drop i rs))) (fields (drop i fs))
each_fits_step rs fs i r f h k is at e = rw (drop-cons rs i r, drop-cons fs i f, ← is, ← at, name_and_type-is f, e) refl

pub each_fits_wrong : (rs : List (Option Value)) (fs : List Field) (i : ℕ) (r : Option Value) (f : Field) → i < length rs → i < length fs
    → r ≡ get_or rs i r → f ≡ get_or fs i f → fits (view r) (shape f.tree) ≡ false
    → each_fits (cells_of (views (drop i rs))) (fields (drop i fs)) ≡ false
each_fits_wrong rs fs i r f h k is at e = rw (drop-cons rs i r, drop-cons fs i f, ← is, ← at, name_and_type-is f, e) refl

-- one pair is passed
pub pairs_fit_step : (ps : List MapPair) (i : ℕ) (p : MapPair) (s t : Shape) → i < length ps → p ≡ get_or ps i p
    → pairs_fit (pairs_of (map paired (drop i ps))) s t ≡ (fits (view p.key) s && (fits (view p.value) t && pairs_fit (pairs_of (map paired (drop (suc i) ps))) s t))
pairs_fit_step ps i p s t h is = rw (drop-cons ps i p, ← is, paired-is p) refl

pub pairs_fit_key : (ps : List MapPair) (i : ℕ) (p : MapPair) (s t : Shape) → i < length ps → p ≡ get_or ps i p → fits (view p.key) s ≡ false → pairs_fit (pairs_of (map paired (drop i ps))) s t ≡ false
pairs_fit_key ps i p s t h is e = pairs_fit_step ps i p s t h is ∙ rw e refl

pub pairs_fit_value : (ps : List MapPair) (i : ℕ) (p : MapPair) (s t : Shape) → i < length ps → p ≡ get_or ps i p → fits (view p.key) s ≡ true → fits (view p.value) t ≡ false
    → pairs_fit (pairs_of (map paired (drop i ps))) s t ≡ false
pairs_fit_value ps i p s t h is e f = pairs_fit_step ps i p s t h is ∙ rw (e, f) refl

pub pairs_fit_more : (ps : List MapPair) (i : ℕ) (p : MapPair) (s t : Shape) → i < length ps → p ≡ get_or ps i p → fits (view p.key) s ≡ true → fits (view p.value) t ≡ true
    → pairs_fit (pairs_of (map paired (drop (suc i) ps))) s t ≡ pairs_fit (pairs_of (map paired (drop i ps))) s t
pairs_fit_more ps i p s t h is e f = sym (pairs_fit_step ps i p s t h is ∙ rw (e, f) refl)

-- ---- the type of a map's column

pub key_shape : (x : Tree) (k v : Box Tree Global) (o : Vec ℕ Global) (c : ℕ) → x ≡ TreeMap k v o → ¬ (c ≡ 0) → c - 1 < width (shape k.value) → shape_at (shape x) c ≡ shape_at (shape k.value) (c - 1)
key_shape x k v o zero is h lt = absurd (h refl)
key_shape x k v o (suc c) is h lt =
    let t : ltb c (width (shape k.value)) ≡ true = lt-ltb _ _ (omega (arith, lt)) in
    rw (is, shape-Map k v o, sub-one, t) refl

pub value_shape : (x : Tree) (k v : Box Tree Global) (o : Vec ℕ Global) (c : ℕ) → x ≡ TreeMap k v o → ¬ (c ≡ 0) → width (shape k.value) ≤ c - 1
    → shape_at (shape x) c ≡ shape_at (shape v.value) (c - 1 - width (shape k.value))
value_shape x k v o zero is h le = absurd (h refl)
value_shape x k v o (suc c) is h le =
    let t : ltb c (width (shape k.value)) ≡ false = le-ltb _ _ (omega (arith, le)) in
    rw (is, shape-Map k v o, sub-one, t) refl
