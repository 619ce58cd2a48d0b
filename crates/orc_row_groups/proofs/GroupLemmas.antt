-- The bounds of groups, down the schema, and the rows with which groups begin.
use Rattle.std.proofs.Common.{◌≡◌, ℕ, zero, suc, ◌+◌, ◌-◌, ◌*◌, ◌<◌, ◌≤◌, min, nat_lt, true, false, List, [], ◌∷◌, ◌++◌, length, map, take, drop, get_or, refl, sym, ap, ◌∙◌, subst, arith, inl, inr, lt-ltb, le-ltb}
use Rattle.std.specs.List.{flat_map, range_with_len}
use Rattle.std.proofs.lemmas.Bool.{cases_lt}
use Rattle.std.proofs.lemmas.Grind.{div_ceil_times}
use Rattle.std.proofs.lemmas.List.{take-append-drop, take-map}
use Rattle.std.proofs.lemmas.List.FromFn.{length-map-range_with_len, get_or-map-range_with_len}
use Rattle.orc_values.specs.Cells.{Cell, parts, pairs_in, keys_in, values_in, values}
use Rattle.orc_values.specs.Columns.{cells, cells_within}
use Rattle.orc_values.specs.Shapes.{Shape, list_of, map_of, struct_of, Fields, field, width}
use Rattle.orc_values.proofs.Together.{values-append, keys-append, map_values-append, elements-append}
use Rattle.orc_values.proofs.Widths.{some_width}
use Rattle.orc_row_groups.specs.Bounds.{AreBounds, elements_before, pairs_before, values_before}
use Rattle.orc_row_groups.proofs.Groups.{bound_within, keys_long, map_values_long, key_bounds_are}
use Rattle.orc_row_groups.specs.Groups.{group_count, starts_of_groups, cells_before, bounds_of, AreGroupsFrom, ArePairGroupsFrom, AreFieldGroupsFrom}
use Rattle.orc_row_groups.specs.Subtrees.{FieldsFit}
use Rattle.orc_row_groups.proofs.SubtreeLemmas.{root_cells}
use Rattle.orc_values.proofs.Lists.{map_same}

-- ---- fronts of lists

map_through : {X Y Z : Type 0} (f : X → Z) (g : Y → Z) (k : X → Y) (xs : List X) → ((x : X) → f x ≡ g (k x)) → map f xs ≡ map g (map k xs)
map_through f g k [] h = refl
map_through f g k (x ∷ xs) h = λ i. h x i ∷ map_through f g k xs h i

front_taken : {X : Type 0} (xs ys : List X) → take (length xs) (xs ++ ys) ≡ xs
front_taken [] ys = refl
front_taken (x ∷ xs) ys = ap (λ zs. x ∷ zs) (front_taken xs ys)

-- what a list becomes element by element has its front from the list's
front_through : {X : Type 0} (f : List Cell → List X) → ((a b : List Cell) → f (a ++ b) ≡ f a ++ f b) → (n : ℕ) (cs : List Cell) → take (length (f (take n cs))) (f cs) ≡ f (take n cs)
front_through f joins n cs =
    ap (λ ds. take (length (f (take n cs))) (f ds)) (sym (take-append-drop n cs)) ∙ ap (take (length (f (take n cs)))) (joins (take n cs) (drop n cs)) ∙ front_taken (f (take n cs)) (f (drop n cs))

-- ---- bounds down the schema

pub groups_at_root : (s : Shape) (rows : List Cell) (firsts : List ℕ) → AreGroupsFrom s rows firsts 0 s rows firsts
groups_at_root s rows firsts d less = let e : 0 + d ≡ d = omega arith in ap (λ (c : ℕ). bounds_of s c rows firsts) e

length_front : (n : ℕ) (cs : List Cell) → length (take n cs) ≡ min n (length cs)
length_front zero cs = omega arith
length_front (suc n) [] = omega arith
length_front (suc n) (c ∷ cs) = let r = length_front n cs in omega (arith, r)

-- bounds are how long the fronts are
bounds_counted : (column : List Cell) (count : ℕ) (bounds : List ℕ) → length column ≡ count → AreBounds count bounds → map (λ b. length (take b column)) bounds ≡ bounds
bounds_counted column count [] e h = refl
bounds_counted column count (b ∷ bs) e h =
    let first : length (take b column) ≡ b = omega (arith, bound_within count (b ∷ bs) 0 h, e, length_front b column) in
    λ i. first i ∷ bounds_counted column count bs e (λ g. h (suc g)) i

pub bounds_here : (s : Shape) (rows : List Cell) (firsts : List ℕ) (c : ℕ) (t : Shape) (column : List Cell) (bounds : List ℕ) → AreGroupsFrom s rows firsts c t column bounds → AreBounds (length column) bounds
    → bounds_of s c rows firsts ≡ bounds
bounds_here s rows firsts c t column bounds h b =
    let e : c ≡ c + 0 = omega arith in
    ap (λ (k : ℕ). bounds_of s k rows firsts) e ∙ h 0 (some_width t) ∙ map_same (cells_before t 0 column) (λ n. length (take n column)) bounds (λ n. ap length (root_cells t (take n column)))
    ∙ bounds_counted column (length column) bounds refl b

pub groups_element : (s : Shape) (rows : List Cell) (firsts : List ℕ) (c : ℕ) (t : Shape) (o : List ℕ) (column : List Cell) (bounds : List ℕ) → AreGroupsFrom s rows firsts c (list_of t o) column bounds
    → AreGroupsFrom s rows firsts (c + 1) t (flat_map parts (values column)) (map (elements_before column) bounds)
groups_element s rows firsts c t o column bounds h d less =
    let e : c + 1 + d ≡ c + suc d = omega arith in
    ap (λ (k : ℕ). bounds_of s k rows firsts) e ∙ h (suc d) (omega (arith, less))
    ∙ map_through (cells_before (list_of t o) (suc d) column) (cells_before t d (flat_map parts (values column))) (elements_before column) bounds
    (λ n. ap (λ cs. length (cells t d cs)) (sym (front_through (λ cs. flat_map parts (values cs)) elements-append n column)))

pub pair_bounds_are : (cells : List Cell) (bounds : List ℕ) → AreBounds (length cells) bounds → AreBounds (length (flat_map pairs_in (values cells))) (map (pairs_before cells) bounds)
pair_bounds_are cells bounds h = subst (λ (n : ℕ). AreBounds n (map (pairs_before cells) bounds)) (keys_long (values cells)) (key_bounds_are cells bounds h)

-- so many keys, and so many values, as pairs
keys_taken : (n : ℕ) (column : List Cell) → take (pairs_before column n) (flat_map keys_in (values column)) ≡ flat_map keys_in (values (take n column))
keys_taken n column =
    ap (λ (j : ℕ). take j (flat_map keys_in (values column))) (sym (keys_long (values (take n column)))) ∙ front_through (λ cs. flat_map keys_in (values cs)) keys-append n column

map_values_taken : (n : ℕ) (column : List Cell) → take (pairs_before column n) (flat_map values_in (values column)) ≡ flat_map values_in (values (take n column))
map_values_taken n column =
    ap (λ (j : ℕ). take j (flat_map values_in (values column))) (sym (map_values_long (values (take n column)))) ∙ front_through (λ cs. flat_map values_in (values cs)) map_values-append n column

key_before : (k v : Shape) (o : List ℕ) (column : List Cell) (d n : ℕ) → d < width k
    → length (cells (map_of k v o) (suc d) (take n column)) ≡ length (cells k d (take (pairs_before column n) (flat_map keys_in (values column))))
key_before k v o column d n less =
    let u : nat_lt d (width k) ≡ true = lt-ltb _ _ less in
    rw u (ap (λ cs. length (cells k d cs)) (sym (keys_taken n column)))

map_value_before : (k v : Shape) (o : List ℕ) (column : List Cell) (d n : ℕ)
    → length (cells (map_of k v o) (suc (width k + d)) (take n column)) ≡ length (cells v d (take (pairs_before column n) (flat_map values_in (values column))))
map_value_before k v o column d n =
    let u : nat_lt (width k + d) (width k) ≡ false = le-ltb _ _ (omega arith) in
    let back : width k + d - width k ≡ d = omega arith in
    rw (u, back) (ap (λ cs. length (cells v d cs)) (sym (map_values_taken n column)))

groups_keys : (s : Shape) (rows : List Cell) (firsts : List ℕ) (c : ℕ) (k v : Shape) (o : List ℕ) (column : List Cell) (bounds : List ℕ) → AreGroupsFrom s rows firsts c (map_of k v o) column bounds
    → AreGroupsFrom s rows firsts (c + 1) k (flat_map keys_in (values column)) (map (pairs_before column) bounds)
groups_keys s rows firsts c k v o column bounds h d less =
    let e : c + 1 + d ≡ c + suc d = omega arith in
    ap (λ (j : ℕ). bounds_of s j rows firsts) e ∙ h (suc d) (omega (arith, less))
    ∙ map_through (cells_before (map_of k v o) (suc d) column) (cells_before k d (flat_map keys_in (values column))) (pairs_before column) bounds (λ n. key_before k v o column d n less)

groups_map_values : (s : Shape) (rows : List Cell) (firsts : List ℕ) (c : ℕ) (k v : Shape) (o : List ℕ) (column : List Cell) (bounds : List ℕ) → AreGroupsFrom s rows firsts c (map_of k v o) column bounds
    → AreGroupsFrom s rows firsts (c + 1 + width k) v (flat_map values_in (values column)) (map (pairs_before column) bounds)
groups_map_values s rows firsts c k v o column bounds h d less =
    let e : c + 1 + width k + d ≡ c + suc (width k + d) = omega arith in
    ap (λ (j : ℕ). bounds_of s j rows firsts) e ∙ h (suc (width k + d)) (omega (arith, less))
    ∙ map_through (cells_before (map_of k v o) (suc (width k + d)) column) (cells_before v d (flat_map values_in (values column))) (pairs_before column) bounds (λ n. map_value_before k v o column d n)

pub groups_pairs : (s : Shape) (rows : List Cell) (firsts : List ℕ) (c : ℕ) (k v : Shape) (o : List ℕ) (column : List Cell) (bounds : List ℕ) → AreGroupsFrom s rows firsts c (map_of k v o) column bounds
    → ArePairGroupsFrom s rows firsts (c + 1) k v column (map (pairs_before column) bounds)
groups_pairs s rows firsts c k v o column bounds h = (groups_keys s rows firsts c k v o column bounds h, groups_map_values s rows firsts c k v o column bounds h)

pub groups_fields : (s : Shape) (rows : List Cell) (firsts : List ℕ) (c : ℕ) (fs : Fields) (o : List ℕ) (column : List Cell) (bounds : List ℕ) → AreGroupsFrom s rows firsts c (struct_of fs o) column bounds
    → AreFieldGroupsFrom s rows firsts (c + 1) fs (map parts (values column)) (map (values_before column) bounds)
groups_fields s rows firsts c fs o column bounds h d less =
    let e : c + 1 + d ≡ c + suc d = omega arith in
    ap (λ (k : ℕ). bounds_of s k rows firsts) e ∙ h (suc d) (omega (arith, less))
    ∙ map_through (cells_before (struct_of fs o) (suc d) column) (λ n. length (cells_within fs d (take n (map parts (values column))))) (values_before column) bounds
    (λ n. ap (λ xss. length (cells_within fs d xss)) (sym (take-map parts (values_before column n) (values column) ∙ ap (map parts) (front_through values values-append n column))))

-- each struct has a first field
heads_taken : (name : List ℕ) (t : Shape) (fs : Fields) (structs : List (List Cell)) (n : ℕ) → FieldsFit (field name t fs) structs → take n (flat_map (take 1) structs) ≡ flat_map (take 1) (take n structs)
heads_taken name t fs structs zero h = refl
heads_taken name t fs [] (suc n) h = refl
heads_taken name t fs ([] ∷ xss) (suc n) h = absurd cc
heads_taken name t fs ((x ∷ xs) ∷ xss) (suc n) h = ap (λ cs. x ∷ cs) (heads_taken name t fs xss n h.1)

pub heads_long : (name : List ℕ) (t : Shape) (fs : Fields) (structs : List (List Cell)) → FieldsFit (field name t fs) structs → length (flat_map (take 1) structs) ≡ length structs
heads_long name t fs [] h = refl
heads_long name t fs ([] ∷ xss) h = absurd cc
heads_long name t fs ((x ∷ xs) ∷ xss) h = ap suc (heads_long name t fs xss h.1)

pub groups_first : (s : Shape) (rows : List Cell) (firsts : List ℕ) (c : ℕ) (name : List ℕ) (t : Shape) (fs : Fields) (structs : List (List Cell)) (bounds : List ℕ) → FieldsFit (field name t fs) structs
    → AreFieldGroupsFrom s rows firsts c (field name t fs) structs bounds → AreGroupsFrom s rows firsts c t (flat_map (take 1) structs) bounds
groups_first s rows firsts c name t fs structs bounds fit h d less =
    let u : nat_lt d (width t) ≡ true = lt-ltb _ _ less in
    let f = h d (omega (arith, less)) in
    let g = rw u at f in
    g ∙ map_same (λ n. length (cells t d (flat_map (take 1) (take n structs)))) (cells_before t d (flat_map (take 1) structs)) bounds (λ n. ap (λ cs. length (cells t d cs)) (sym (heads_taken name t fs structs n fit)))

pub groups_others : (s : Shape) (rows : List Cell) (firsts : List ℕ) (c : ℕ) (name : List ℕ) (t : Shape) (fs : Fields) (structs : List (List Cell)) (bounds : List ℕ)
    → AreFieldGroupsFrom s rows firsts c (field name t fs) structs bounds → AreFieldGroupsFrom s rows firsts (c + width t) fs (map (drop 1) structs) bounds
groups_others s rows firsts c name t fs structs bounds h d less =
    let u : nat_lt (width t + d) (width t) ≡ false = le-ltb _ _ (omega arith) in
    let back : width t + d - width t ≡ d = omega arith in
    let e : c + width t + d ≡ c + (width t + d) = omega arith in
    let f = h (width t + d) (omega (arith, less)) in
    let g = rw (u, back) at f in
    ap (λ (k : ℕ). bounds_of s k rows firsts) e ∙ g
    ∙ map_same (λ n. length (cells_within fs d (map (drop 1) (take n structs)))) (λ n. length (cells_within fs d (take n (map (drop 1) structs)))) bounds
    (λ n. ap (λ xss. length (cells_within fs d xss)) (sym (take-map (drop 1) n structs)))

-- ---- the rows with which groups begin

start_at : (stride rows g d : ℕ) → g < group_count stride rows → get_or (starts_of_groups stride rows) g d ≡ g * stride
start_at stride rows g d less = get_or-map-range_with_len (λ n. n * stride) 0 (group_count stride rows) g g d less (omega arith)

past_all : (xs : List ℕ) (g d : ℕ) → length xs ≤ g → get_or xs g d ≡ d
past_all [] g d h = refl
past_all (x ∷ xs) zero d h = absurd (omega (arith, h))
past_all (x ∷ xs) (suc g) d h = past_all xs g d (omega (arith, h))

start_past : (stride rows g d : ℕ) → group_count stride rows ≤ g → get_or (starts_of_groups stride rows) g d ≡ d
start_past stride rows g d le = past_all (starts_of_groups stride rows) g d (let k = length-map-range_with_len (λ n. n * stride) 0 (group_count stride rows) in omega (arith, k, le))

suc_times : (a n : ℕ) → suc a * n ≡ n + a * n
suc_times a n = grind arith

times_le : (a b n : ℕ) → a ≤ b → a * n ≤ b * n
times_le zero b n h = omega arith
times_le (suc a) zero n h = absurd (omega (arith, h))
times_le (suc a) (suc b) n h = let r = times_le a b n (omega (arith, h)) in omega (arith, r, suc_times a n, suc_times b n)

-- a group begins before the last row
pub start_below : (stride rows g : ℕ) → 0 < stride → g < group_count stride rows → g * stride < rows
start_below stride rows g some less =
    let k = div_ceil_times rows stride some in
    let t = times_le (suc g) (group_count stride rows) stride (omega (arith, less)) in
    omega (arith, k.1, t, suc_times g stride)

pub starts_are_bounds : (stride rows : ℕ) → 0 < stride → AreBounds rows (starts_of_groups stride rows)
starts_are_bounds stride rows some g =
    elim (cases_lt (suc g) (group_count stride rows)) [
      | inl more ↦
          let a = start_at stride rows g rows (omega (arith, more)) in
          let b = start_at stride rows (suc g) rows more in
          omega (arith, a, b, suc_times g stride)
      | inr last ↦
          let b = start_past stride rows (suc g) rows last in
          elim (cases_lt g (group_count stride rows)) [
            | inl here ↦ let a = start_at stride rows g rows here in let l = start_below stride rows g some here in omega (arith, a, b, l)
            | inr past ↦ let a = start_past stride rows g rows past in omega (arith, a, b)
          ]
    ]

range_more : (a n : ℕ) → range_with_len a (suc n) ≡ range_with_len a n ++ (a + n) ∷ []
range_more a zero = let e : a ≡ a + 0 = omega arith in λ i. e i ∷ []
range_more a (suc n) =
    let e : a + 1 + n ≡ a + suc n = omega arith in
    ap (λ xs. a ∷ xs) (range_more (a + 1) n ∙ ap (λ k. range_with_len (a + 1) n ++ k ∷ []) e)

map_joins : {X Y : Type 0} (f : X → Y) (xs ys : List X) → map f (xs ++ ys) ≡ map f xs ++ map f ys
map_joins f [] ys = refl
map_joins f (x ∷ xs) ys = ap (λ zs. f x ∷ zs) (map_joins f xs ys)

-- one more group
pub starts_more : (stride n : ℕ) → map (λ g. g * stride) (range_with_len 0 n) ++ n * stride ∷ [] ≡ map (λ g. g * stride) (range_with_len 0 (n + 1))
starts_more stride n =
    let e : suc n ≡ n + 1 = omega arith in
    let z : 0 + n ≡ n = omega arith in
    sym (map_joins (λ g. g * stride) (range_with_len 0 n) (n ∷ [])) ∙ ap (λ (k : ℕ). map (λ g. g * stride) (range_with_len 0 n ++ k ∷ [])) (sym z)
    ∙ ap (map (λ g. g * stride)) (sym (range_more 0 n)) ∙ ap (λ (k : ℕ). map (λ g. g * stride) (range_with_len 0 k)) e
