-- What a cell without its children keeps, and that a column's own streams spell it.
use Rattle.std.proofs.Common.{◌≡◌, ◌≤◌, ℕ, pos, List, [], ◌∷◌, map, length, replicate, sum, refl, sym, ap, subst, arith, length-append}
use Rattle.std.specs.List.{flat_map}
use Rattle.std.proofs.lemmas.List.{length-map}
use Rattle.orc_rle.specs.declared.sign.Sign.TheVariants.{Unsigned}
use Rattle.orc_values.specs.Cells.{Cell, null, leaf, list, struct, pairs, list_of_cells, list_of_pairs, parts, pairs_in, keys_in, values_in, values}
use Rattle.orc_values.specs.Fits.{RowsFit}
use Rattle.orc_values.specs.Shapes.{Shape, scalar, list_of, map_of, struct_of, Fields}
use Rattle.orc_values.specs.declared.kind.Scalar.{Scalar}
use Rattle.orc_values.proofs.Childless.{marks_childless, values_childless, list_size, map_size}
use Rattle.orc_column_reader.specs.Numbers.{AreNumbers}
use Rattle.orc_column_reader.specs.Spellings.{size}
use Rattle.orc_column_reader.specs.Stripe.{Streams, version, Marks, SpellsScalar, SpellsValues, IsColumn}
use Rattle.orc_values.specs.Limits.{most_cells}
use Rattle.orc_values.specs.Childless.{list_of_size, map_of_size, childless_struct, childless}
use Rattle.orc_column_walk.specs.OwnColumns.{SpellsOwnValues, IsOwnColumn, elements_together, pairs_together}
use Rattle.orc_values.proofs.Lists.{sum_more}

-- ---- sizes

pub elements_childless : (s : Shape) (o : List ℕ) (cs : List Cell) → RowsFit (list_of s o) cs → elements_together (map childless cs) ≡ elements_together cs
elements_childless s o [] h = refl
elements_childless s o (null ∷ cs) h = elements_childless s o cs h.1
elements_childless s o (leaf a ∷ cs) h = let wrong = h.0 in cc
elements_childless s o (struct x ∷ cs) h = let wrong = h.0 in cc
elements_childless s o (pairs x ∷ cs) h = let wrong = h.0 in cc
elements_childless s o (list x ∷ cs) h =
    let n = length (list_of_cells x) in
    let a = length-append (parts (list_of_size n)) (flat_map parts (values (map childless cs))) in
    let b = length-append (list_of_cells x) (flat_map parts (values cs)) in
    omega (arith, a, b, list_size n, elements_childless s o cs h.1)

pub pairs_childless : (k v : Shape) (o : List ℕ) (cs : List Cell) → RowsFit (map_of k v o) cs → pairs_together (map childless cs) ≡ pairs_together cs
pairs_childless k v o [] h = refl
pairs_childless k v o (null ∷ cs) h = pairs_childless k v o cs h.1
pairs_childless k v o (leaf a ∷ cs) h = let wrong = h.0 in cc
pairs_childless k v o (struct x ∷ cs) h = let wrong = h.0 in cc
pairs_childless k v o (list x ∷ cs) h = let wrong = h.0 in cc
pairs_childless k v o (pairs x ∷ cs) h =
    let n = length (list_of_pairs x) in
    let a = length-append (pairs_in (map_of_size n)) (flat_map pairs_in (values (map childless cs))) in
    let b = length-append (list_of_pairs x) (flat_map pairs_in (values cs)) in
    omega (arith, a, b, map_size n, pairs_childless k v o cs h.1)

-- so many keys, and so many values, as pairs
pub keys_long : (vs : List Cell) → length (flat_map keys_in vs) ≡ length (flat_map pairs_in vs)
keys_long [] = refl
keys_long (v ∷ vs) =
    let a = length-append (keys_in v) (flat_map keys_in vs) in
    let b = length-append (pairs_in v) (flat_map pairs_in vs) in
    let f : Cell × Cell → Cell = λ p. p.0 in
    omega (arith, a, b, length-map (pairs_in v) f, keys_long vs)

pub map_values_long : (vs : List Cell) → length (flat_map values_in vs) ≡ length (flat_map pairs_in vs)
map_values_long [] = refl
map_values_long (v ∷ vs) =
    let a = length-append (values_in v) (flat_map values_in vs) in
    let b = length-append (pairs_in v) (flat_map pairs_in vs) in
    let f : Cell × Cell → Cell = λ p. p.1 in
    omega (arith, a, b, length-map (pairs_in v) f, map_values_long vs)

-- ---- values of a column

scalars_are : (k : Scalar) (o : List ℕ) (cs : List Cell) → RowsFit (scalar k o) cs → map childless (values cs) ≡ values cs
scalars_are k o [] h = refl
scalars_are k o (null ∷ cs) h = scalars_are k o cs h.1
scalars_are k o (leaf a ∷ cs) h = ap (λ t. leaf a ∷ t) (scalars_are k o cs h.1)
scalars_are k o (list x ∷ cs) h = let wrong = h.0 in cc
scalars_are k o (struct x ∷ cs) h = let wrong = h.0 in cc
scalars_are k o (pairs x ∷ cs) h = let wrong = h.0 in cc

lists_are : (s : Shape) (o : List ℕ) (cs : List Cell) → RowsFit (list_of s o) cs → map childless (values cs) ≡ map list_of_size (map (λ v. length (parts v)) (values cs))
lists_are s o [] h = refl
lists_are s o (null ∷ cs) h = lists_are s o cs h.1
lists_are s o (leaf a ∷ cs) h = let wrong = h.0 in cc
lists_are s o (list x ∷ cs) h = ap (λ t. childless (list x) ∷ t) (lists_are s o cs h.1)
lists_are s o (struct x ∷ cs) h = let wrong = h.0 in cc
lists_are s o (pairs x ∷ cs) h = let wrong = h.0 in cc

maps_are : (k v : Shape) (o : List ℕ) (cs : List Cell) → RowsFit (map_of k v o) cs → map childless (values cs) ≡ map map_of_size (map (λ m. length (pairs_in m)) (values cs))
maps_are k v o [] h = refl
maps_are k v o (null ∷ cs) h = maps_are k v o cs h.1
maps_are k v o (leaf a ∷ cs) h = let wrong = h.0 in cc
maps_are k v o (list x ∷ cs) h = let wrong = h.0 in cc
maps_are k v o (struct x ∷ cs) h = let wrong = h.0 in cc
maps_are k v o (pairs x ∷ cs) h = ap (λ t. childless (pairs x) ∷ t) (maps_are k v o cs h.1)

structs_are : (fs : Fields) (o : List ℕ) (cs : List Cell) → RowsFit (struct_of fs o) cs → map childless (values cs) ≡ replicate (length (map childless (values cs))) childless_struct
structs_are fs o [] h = refl
structs_are fs o (null ∷ cs) h = structs_are fs o cs h.1
structs_are fs o (leaf a ∷ cs) h = let wrong = h.0 in cc
structs_are fs o (list x ∷ cs) h = let wrong = h.0 in cc
structs_are fs o (struct x ∷ cs) h = ap (λ t. childless_struct ∷ t) (structs_are fs o cs h.1)
structs_are fs o (pairs x ∷ cs) h = let wrong = h.0 in cc

list_sizes : (vs : List Cell) → map pos (map (λ v. length (parts v)) vs) ≡ map (λ v. size (parts v)) vs
list_sizes [] = refl
list_sizes (v ∷ vs) = ap (λ t. size (parts v) ∷ t) (list_sizes vs)

map_sizes : (vs : List Cell) → map pos (map (λ m. length (pairs_in m)) vs) ≡ map (λ m. size (pairs_in m)) vs
map_sizes [] = refl
map_sizes (v ∷ vs) = ap (λ t. size (pairs_in v) ∷ t) (map_sizes vs)

lists_sum : (vs : List Cell) → length (flat_map parts vs) ≡ sum (map (λ v. length (parts v)) vs)
lists_sum [] = refl
lists_sum (v ∷ vs) =
    let a = length-append (parts v) (flat_map parts vs) in
    omega (arith, a, lists_sum vs, sum_more (length (parts v)) (map (λ w. length (parts w)) vs))

maps_sum : (vs : List Cell) → length (flat_map pairs_in vs) ≡ sum (map (λ m. length (pairs_in m)) vs)
maps_sum [] = refl
maps_sum (v ∷ vs) =
    let a = length-append (pairs_in v) (flat_map pairs_in vs) in
    omega (arith, a, maps_sum vs, sum_more (length (pairs_in v)) (map (λ m. length (pairs_in m)) vs))

-- there is room for the cells of the column below
abbrev pub HasRoom : Shape → List Cell → Type 0
HasRoom (scalar k o) cells = Unit {0}
HasRoom (list_of s o) cells = elements_together cells ≤ most_cells
HasRoom (map_of k v o) cells = pairs_together cells ≤ most_cells
HasRoom (struct_of fs o) cells = Unit {0}

own_values : (s : Shape) (x : Streams) (cs : List Cell) → RowsFit s cs → HasRoom s cs → SpellsValues s x (values cs) → SpellsOwnValues s x (map childless (values cs))
own_values (scalar k o) x cs fit room h = subst (SpellsScalar k x) (sym (scalars_are k o cs fit)) h
own_values (list_of s o) x cs fit room h =
    (map (λ v. length (parts v)) (values cs), subst (AreNumbers (version x) Unsigned (x.stream 2)) (sym (list_sizes (values cs))) h, lists_are s o cs fit, omega (arith, room, lists_sum (values cs)))
own_values (map_of k v o) x cs fit room h =
    (map (λ m. length (pairs_in m)) (values cs), subst (AreNumbers (version x) Unsigned (x.stream 2)) (sym (map_sizes (values cs))) h, maps_are k v o cs fit, omega (arith, room, maps_sum (values cs)))
own_values (struct_of fs o) x cs fit room h = structs_are fs o cs fit

-- what spells a column's cells spells what they keep
pub own_of : (s : Shape) (x : Streams) (cs : List Cell) → RowsFit s cs → HasRoom s cs → IsColumn s x cs → IsOwnColumn s x (length cs) (map childless cs)
own_of s x cs fit room h = record {
  counted = length-map cs childless;
  few = h.few;
  spelled = (subst (Marks (x.stream 0)) (sym (marks_childless cs)) h.marks, subst (SpellsOwnValues s x) (sym (values_childless cs)) (own_values s x cs fit room h.spelled));
}
