-- What a column keeps of its cells, with what lies below put in again, is the cells.
use Rattle.std.proofs.Common.{◌≡◌, ℕ, List, [], ◌∷◌, ◌++◌, length, map, flat_map, take, drop, replicate, refl, sym, ap, ◌∙◌}
use Rattle.std.specs.Prelude.{zip}
use Rattle.std.proofs.lemmas.List.{take_at, drop_at, map-append}
use Rattle.orc_values.specs.declared.kind.Scalar.{Scalar}
use Rattle.orc_values.specs.Shapes.{Shape, scalar, list_of, map_of, struct_of, Fields, no_field, field}
use Rattle.orc_values.specs.Cells.{Cell, null, leaf, list, struct, pairs, list_of_cells, list_of_pairs, cells_of, pairs_of, parts, pairs_in, keys_in, values_in, values}
use Rattle.orc_values.specs.Childless.{childless, list_of_size, map_of_size}
use Rattle.orc_values.specs.Fits.{RowsFit}
use Rattle.orc_values.proofs.Childless.{list_size, map_size}
use Rattle.orc_values.proofs.Together.{StructsFit}
use Rattle.orc_values.proofs.Views.{cells_of-list_of_cells, pairs_of-list_of_pairs}
use Rattle.orc_row_batch.specs.RowsFrom.{with_elements, with_pairs, with_fields}

-- a column of values keeps them whole
pub scalars_back : (k : Scalar) (o : List ℕ) (cs : List Cell) → RowsFit (scalar k o) cs → map childless cs ≡ cs
scalars_back k o [] h = refl
scalars_back k o (null ∷ cs) h = ap (λ t. null ∷ t) (scalars_back k o cs h.1)
scalars_back k o (leaf a ∷ cs) h = ap (λ t. leaf a ∷ t) (scalars_back k o cs h.1)
scalars_back k o (list x ∷ cs) h = let wrong = h.0 in cc
scalars_back k o (struct x ∷ cs) h = let wrong = h.0 in cc
scalars_back k o (pairs x ∷ cs) h = let wrong = h.0 in cc

-- ---- lists

next_list : (x : List Cell) (n : ℕ) (cs below : List Cell) → n ≡ length x
    → list (cells_of (take n (x ++ below))) ∷ with_elements cs (drop n (x ++ below)) ≡ list (cells_of x) ∷ with_elements cs below
next_list x n cs below e = rw (take_at x below n (sym e), drop_at x below n (sym e)) refl

pub elements_back : (s : Shape) (o : List ℕ) (cs : List Cell) → RowsFit (list_of s o) cs → with_elements (map childless cs) (flat_map parts (values cs)) ≡ cs
elements_back s o [] h = refl
elements_back s o (null ∷ cs) h = ap (λ t. null ∷ t) (elements_back s o cs h.1)
elements_back s o (leaf a ∷ cs) h = let wrong = h.0 in cc
elements_back s o (struct x ∷ cs) h = let wrong = h.0 in cc
elements_back s o (pairs x ∷ cs) h = let wrong = h.0 in cc
elements_back s o (list x ∷ cs) h =
    next_list (list_of_cells x) (length (parts (list_of_size (length (list_of_cells x))))) (map childless cs) (flat_map parts (values cs)) (list_size (length (list_of_cells x)))
    ∙ rw (cells_of-list_of_cells x, elements_back s o cs h.1) refl

-- ---- maps

next_map : (x : List (Cell × Cell)) (n : ℕ) (cs : List Cell) (below : List (Cell × Cell)) → n ≡ length x
    → pairs (pairs_of (take n (x ++ below))) ∷ with_pairs cs (drop n (x ++ below)) ≡ pairs (pairs_of x) ∷ with_pairs cs below
next_map x n cs below e = rw (take_at x below n (sym e), drop_at x below n (sym e)) refl

pub pairs_back : (k v : Shape) (o : List ℕ) (cs : List Cell) → RowsFit (map_of k v o) cs → with_pairs (map childless cs) (flat_map pairs_in (values cs)) ≡ cs
pairs_back k v o [] h = refl
pairs_back k v o (null ∷ cs) h = ap (λ t. null ∷ t) (pairs_back k v o cs h.1)
pairs_back k v o (leaf a ∷ cs) h = let wrong = h.0 in cc
pairs_back k v o (struct x ∷ cs) h = let wrong = h.0 in cc
pairs_back k v o (list x ∷ cs) h = let wrong = h.0 in cc
pairs_back k v o (pairs x ∷ cs) h =
    next_map (list_of_pairs x) (length (pairs_in (map_of_size (length (list_of_pairs x))))) (map childless cs) (flat_map pairs_in (values cs)) (map_size (length (list_of_pairs x)))
    ∙ rw (pairs_of-list_of_pairs x, pairs_back k v o cs h.1) refl

-- the keys of maps, and their values, are the parts of their pairs
keys_of_pairs : (cs : List Cell) → flat_map keys_in cs ≡ map (λ p. p.0) (flat_map pairs_in cs)
keys_of_pairs [] = refl
keys_of_pairs (c ∷ cs) = ap (λ t. keys_in c ++ t) (keys_of_pairs cs) ∙ sym (map-append (λ (p : Cell × Cell). p.0) (pairs_in c) (flat_map pairs_in cs))

values_of_pairs : (cs : List Cell) → flat_map values_in cs ≡ map (λ p. p.1) (flat_map pairs_in cs)
values_of_pairs [] = refl
values_of_pairs (c ∷ cs) = ap (λ t. values_in c ++ t) (values_of_pairs cs) ∙ sym (map-append (λ (p : Cell × Cell). p.1) (pairs_in c) (flat_map pairs_in cs))

parts_of_pairs : (ps : List (Cell × Cell)) → zip (map (λ p. p.0) ps) (map (λ p. p.1) ps) ≡ ps
parts_of_pairs [] = refl
parts_of_pairs (p ∷ ps) = ap (λ t. p ∷ t) (parts_of_pairs ps)

pub keys_and_values : (cs : List Cell) → zip (flat_map keys_in cs) (flat_map values_in cs) ≡ flat_map pairs_in cs
keys_and_values cs = rw (keys_of_pairs cs, values_of_pairs cs) (parts_of_pairs (flat_map pairs_in cs))

-- ---- structs

-- a null has no fields
null_back : (cs : List Cell) (xs : List (List Cell)) → with_fields (null ∷ cs) xs ≡ null ∷ with_fields cs xs
null_back [] [] = refl
null_back [] (x ∷ xs) = refl
null_back (c ∷ cs) [] = refl
null_back (c ∷ cs) (x ∷ xs) = refl

pub fields_back : (fs : Fields) (o : List ℕ) (cs : List Cell) → RowsFit (struct_of fs o) cs → with_fields (map childless cs) (map parts (values cs)) ≡ cs
fields_back fs o [] h = refl
fields_back fs o (null ∷ cs) h = null_back (map childless cs) (map parts (values cs)) ∙ ap (λ t. null ∷ t) (fields_back fs o cs h.1)
fields_back fs o (leaf a ∷ cs) h = let wrong = h.0 in cc
fields_back fs o (list x ∷ cs) h = let wrong = h.0 in cc
fields_back fs o (pairs x ∷ cs) h = let wrong = h.0 in cc
fields_back fs o (struct x ∷ cs) h = rw (cells_of-list_of_cells x, fields_back fs o cs h.1) refl

-- structs of no field
pub empty_structs : (structs : List (List Cell)) → StructsFit no_field structs → replicate (length structs) [] ≡ structs
empty_structs [] h = refl
empty_structs ([] ∷ xs) h = ap (λ t. [] ∷ t) (empty_structs xs h.1)
empty_structs ((c ∷ cs) ∷ xs) h = let wrong = h.0 in cc

-- structs of a field and others
pub first_and_others : (name : List ℕ) (s : Shape) (fs : Fields) (structs : List (List Cell)) → StructsFit (field name s fs) structs
    → map (λ p. p.0 ∷ p.1) (zip (flat_map (take 1) structs) (map (drop 1) structs)) ≡ structs
first_and_others name s fs [] h = refl
first_and_others name s fs ([] ∷ xs) h = let wrong = h.0 in cc
first_and_others name s fs ((c ∷ cs) ∷ xs) h = ap (λ t. (c ∷ cs) ∷ t) (first_and_others name s fs xs h.1)
