-- The columns of a type's parts are columns of the whole, and what is so of all is so of these.
use Rattle.std.proofs.Common.{◌≡◌, ℕ, zero, suc, ◌+◌, ◌-◌, ◌<◌, ◌≤◌, List, [], ◌∷◌, ◌++◌, length, get_or, take, drop, map, true, false, nat_lt, refl, ap, ◌∙◌, arith, drop-cons, string_bytes, lt-ltb, le-ltb}
use Rattle.std.specs.List.{flat_map}
use Rattle.orc_values.specs.declared.tree.Field.{Field}
use Rattle.orc_values.specs.Shapes.{Shape, scalar, list_of, map_of, struct_of, Fields, no_field, field, width, shape_at}
use Rattle.orc_values.specs.Cells.{Cell, parts, keys_in, values_in, values}
use Rattle.orc_values.specs.Columns.{cells}
use Rattle.orc_values.specs.Views.{shape, fields}
use Rattle.orc_values.proofs.Views.{name_and_type-is}
use Rattle.orc_values.proofs.Widths.{some_width}
use Rattle.orc_row_groups.specs.Subtrees.{AreColumnsFrom, ArePairsFrom, AreFieldsFrom}

-- ---- the fields at a place

pub nothing_dropped : {X : Type 0} (xss : List (List X)) → map (drop 0) xss ≡ xss
nothing_dropped [] = refl
nothing_dropped (xs ∷ xss) = ap (λ yss. xs ∷ yss) (nothing_dropped xss)

one_more : {X : Type 0} (n : ℕ) (xs : List X) → drop 1 (drop n xs) ≡ drop (suc n) xs
one_more zero xs = refl
one_more (suc n) [] = refl
one_more (suc n) (x ∷ xs) = one_more n xs

pub dropped_more : {X : Type 0} (n : ℕ) (xss : List (List X)) → map (drop 1) (map (drop n) xss) ≡ map (drop (n + 1)) xss
dropped_more n [] = refl
dropped_more n (xs ∷ xss) = let e : suc n ≡ n + 1 = omega arith in (λ i. (one_more n xs ∙ ap (λ k. drop k xs) e) i ∷ dropped_more n xss i)

pub heads_at : {X : Type 0} (n : ℕ) (xss : List (List X)) → flat_map (λ xs. take 1 (drop n xs)) xss ≡ flat_map (take 1) (map (drop n) xss)
heads_at n [] = refl
heads_at n (xs ∷ xss) = ap (λ ys. take 1 (drop n xs) ++ ys) (heads_at n xss)

-- the fields from a place on: the first of them, and the others
pub fields_at : (fs : List Field) (n : ℕ) (f : Field) → n < length fs → f ≡ get_or fs n f → fields (drop n fs) ≡ field (string_bytes f.name) (shape f.tree) (fields (drop (n + 1) fs))
fields_at fs n f less is = rw (drop-cons fs n f, ← is, name_and_type-is f) (let e : suc n ≡ n + 1 = omega arith in ap (λ k. field (string_bytes f.name) (shape f.tree) (fields (drop k fs))) e)

-- ---- which columns

pub root_type : (s : Shape) → shape_at s 0 ≡ s
root_type (scalar k o) = refl
root_type (list_of s o) = refl
root_type (map_of k v o) = refl
root_type (struct_of fs o) = refl

pub root_cells : (s : Shape) (column : List Cell) → cells s 0 column ≡ column
root_cells (scalar k o) column = refl
root_cells (list_of s o) column = refl
root_cells (map_of k v o) column = refl
root_cells (struct_of fs o) column = refl

pub all_columns_from : (s : Shape) (rows : List Cell) → AreColumnsFrom s rows 0 s rows
all_columns_from s rows d less = let e : 0 + d ≡ d = omega arith in (ap (shape_at s) e, ap (λ c. cells s c rows) e)

pub type_from : (s : Shape) (rows : List Cell) (c : ℕ) (t : Shape) (column : List Cell) → AreColumnsFrom s rows c t column → shape_at s c ≡ t
type_from s rows c t column h = let e : c ≡ c + 0 = omega arith in ap (shape_at s) e ∙ (h 0 (some_width t)).0 ∙ root_type t

pub cells_from : (s : Shape) (rows : List Cell) (c : ℕ) (t : Shape) (column : List Cell) → AreColumnsFrom s rows c t column → cells s c rows ≡ column
cells_from s rows c t column h = let e : c ≡ c + 0 = omega arith in ap (λ k. cells s k rows) e ∙ (h 0 (some_width t)).1 ∙ root_cells t column

pub element_from : (s : Shape) (rows : List Cell) (c : ℕ) (t : Shape) (o : List ℕ) (column : List Cell) → AreColumnsFrom s rows c (list_of t o) column
    → AreColumnsFrom s rows (c + 1) t (flat_map parts (values column))
element_from s rows c t o column h d less =
    let e : c + 1 + d ≡ c + suc d = omega arith in
    let f = h (suc d) (omega (arith, less)) in
    (ap (shape_at s) e ∙ f.0, ap (λ k. cells s k rows) e ∙ f.1)

keys_from : (s : Shape) (rows : List Cell) (c : ℕ) (k v : Shape) (o : List ℕ) (column : List Cell) → AreColumnsFrom s rows c (map_of k v o) column
    → AreColumnsFrom s rows (c + 1) k (flat_map keys_in (values column))
keys_from s rows c k v o column h d less =
    let u : nat_lt d (width k) ≡ true = lt-ltb _ _ less in
    let e : c + 1 + d ≡ c + suc d = omega arith in
    let f = h (suc d) (omega (arith, less)) in
    let g = rw u at f in
    (ap (shape_at s) e ∙ g.0, ap (λ j. cells s j rows) e ∙ g.1)

map_values_from : (s : Shape) (rows : List Cell) (c : ℕ) (k v : Shape) (o : List ℕ) (column : List Cell) → AreColumnsFrom s rows c (map_of k v o) column
    → AreColumnsFrom s rows (c + 1 + width k) v (flat_map values_in (values column))
map_values_from s rows c k v o column h d less =
    let u : nat_lt (width k + d) (width k) ≡ false = le-ltb _ _ (omega arith) in
    let back : width k + d - width k ≡ d = omega arith in
    let e : c + 1 + width k + d ≡ c + suc (width k + d) = omega arith in
    let f = h (suc (width k + d)) (omega (arith, less)) in
    let g = rw (u, back) at f in
    (ap (shape_at s) e ∙ g.0, ap (λ j. cells s j rows) e ∙ g.1)

pub pairs_from : (s : Shape) (rows : List Cell) (c : ℕ) (k v : Shape) (o : List ℕ) (column : List Cell) → AreColumnsFrom s rows c (map_of k v o) column → ArePairsFrom s rows (c + 1) k v column
pairs_from s rows c k v o column h = (keys_from s rows c k v o column h, map_values_from s rows c k v o column h)

pub fields_from : (s : Shape) (rows : List Cell) (c : ℕ) (fs : Fields) (o : List ℕ) (column : List Cell) → AreColumnsFrom s rows c (struct_of fs o) column
    → AreFieldsFrom s rows (c + 1) fs (map parts (values column))
fields_from s rows c fs o column h d less =
    let e : c + 1 + d ≡ c + suc d = omega arith in
    let f = h (suc d) (omega (arith, less)) in
    (ap (shape_at s) e ∙ f.0, ap (λ k. cells s k rows) e ∙ f.1)

pub first_from : (s : Shape) (rows : List Cell) (c : ℕ) (name : List ℕ) (t : Shape) (fs : Fields) (structs : List (List Cell)) → AreFieldsFrom s rows c (field name t fs) structs
    → AreColumnsFrom s rows c t (flat_map (take 1) structs)
first_from s rows c name t fs structs h d less =
    let u : nat_lt d (width t) ≡ true = lt-ltb _ _ less in
    let f = h d (omega (arith, less)) in
    rw u at f

pub others_from : (s : Shape) (rows : List Cell) (c : ℕ) (name : List ℕ) (t : Shape) (fs : Fields) (structs : List (List Cell)) → AreFieldsFrom s rows c (field name t fs) structs
    → AreFieldsFrom s rows (c + width t) fs (map (drop 1) structs)
others_from s rows c name t fs structs h d less =
    let u : nat_lt (width t + d) (width t) ≡ false = le-ltb _ _ (omega arith) in
    let back : width t + d - width t ≡ d = omega arith in
    let e : c + width t + d ≡ c + (width t + d) = omega arith in
    let f = h (width t + d) (omega (arith, less)) in
    let g = rw (u, back) at f in
    (ap (shape_at s) e ∙ g.0, ap (λ k. cells s k rows) e ∙ g.1)

-- ---- behind the last field

pub none_after : (fs : List Field) (n : ℕ) → length fs ≤ n → fields (drop n fs) ≡ no_field
none_after [] zero h = refl
none_after [] (suc n) h = refl
none_after (f ∷ fs) zero h = absurd (omega arith)
none_after (f ∷ fs) (suc n) h = none_after fs n (omega (arith, h))
