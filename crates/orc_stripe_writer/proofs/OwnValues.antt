-- What a column says of its cells has the marks, the values and the sizes of the cells.
use Rattle.std.proofs.Common.{◌≡◌, ◌∙◌, ℕ, pos, List, [], ◌∷◌, ◌++◌, map, length, option_map, refl, ap}
use Rattle.std.specs.List.{flat_map}
use Rattle.std.specs.Option.{option_to_list}
use Rattle.orc_values.specs.Cells.{Cell, null, leaf, list, struct, pairs, is_value, list_of_cells, list_of_pairs, parts, pairs_in, values}
use Rattle.orc_values.specs.Childless.{childless}
use Rattle.orc_values.specs.Fits.{RowsFit}
use Rattle.orc_values.specs.Shapes.{Shape, list_of, map_of}
use Rattle.orc_values.specs.declared.own.Own.{Own}
use Rattle.orc_values.proofs.Childless.{marks_childless, elements_many, pairs_many}
use Rattle.orc_stats.specs.Statistics.{bool_of}
use Rattle.orc_column_reader.specs.Spellings.{size}
use Rattle.orc_row_groups.specs.OwnCells.{own_cells, AreOwn}
use Rattle.orc_stripe_writer.specs.CellValues.{int_in, byte_of, bytes_in, bools_in, ints_in, number_bytes_in, all_bytes_in, sizes_in}
use Rattle.orc_stats.proofs.Childless.{bool_childless}

pub own_marks : (owns : List Own) (cells : List Cell) → AreOwn owns cells → map is_value (own_cells owns) ≡ map is_value cells
own_marks owns cells h = ap (map is_value) h ∙ marks_childless cells

-- what is found in each cell is found in what is said of it
each_childless : {A : Type 0} (found : Cell → List A) → ((c : Cell) → found (childless c) ≡ found c) → (cs : List Cell) → flat_map found (map childless cs) ≡ flat_map found cs
each_childless found one [] = refl
each_childless found one (c ∷ cs) = λ i. one c i ++ each_childless found one cs i

int_one : (c : Cell) → int_in (childless c) ≡ int_in c
int_one null = refl
int_one (leaf a) = refl
int_one (list cs) = refl
int_one (struct cs) = refl
int_one (pairs ps) = refl

bytes_one : (c : Cell) → bytes_in (childless c) ≡ bytes_in c
bytes_one null = refl
bytes_one (leaf a) = refl
bytes_one (list cs) = refl
bytes_one (struct cs) = refl
bytes_one (pairs ps) = refl

pub own_bools : (owns : List Own) (cells : List Cell) → AreOwn owns cells → bools_in (own_cells owns) ≡ bools_in cells
own_bools owns cells h = ap bools_in h ∙ each_childless (λ c. option_to_list (bool_of c)) (λ c. ap option_to_list (bool_childless c)) cells

pub own_ints : (owns : List Own) (cells : List Cell) → AreOwn owns cells → ints_in (own_cells owns) ≡ ints_in cells
own_ints owns cells h = ap ints_in h ∙ each_childless (λ c. option_to_list (int_in c)) (λ c. ap option_to_list (int_one c)) cells

pub own_number_bytes : (owns : List Own) (cells : List Cell) → AreOwn owns cells → number_bytes_in (own_cells owns) ≡ number_bytes_in cells
own_number_bytes owns cells h =
    ap number_bytes_in h ∙ each_childless (λ c. option_to_list (option_map byte_of (int_in c))) (λ c. ap (λ n. option_to_list (option_map byte_of n)) (int_one c)) cells

pub own_byte_strings : (owns : List Own) (cells : List Cell) → AreOwn owns cells → all_bytes_in (own_cells owns) ≡ all_bytes_in cells
own_byte_strings owns cells h = ap all_bytes_in h ∙ each_childless (λ c. option_to_list (bytes_in c)) (λ c. ap option_to_list (bytes_one c)) cells

-- how long the lists are
list_sizes : (s : Shape) (o : List ℕ) (cs : List Cell) → RowsFit (list_of s o) cs → sizes_in (map childless cs) ≡ map (λ v. size (parts v)) (values cs)
list_sizes s o [] h = refl
list_sizes s o (null ∷ cs) h = list_sizes s o cs h.1
list_sizes s o (leaf a ∷ cs) h = let wrong = h.0 in cc
list_sizes s o (list xs ∷ cs) h = λ i. pos (elements_many (length (list_of_cells xs)) i) ∷ list_sizes s o cs h.1 i
list_sizes s o (struct xs ∷ cs) h = let wrong = h.0 in cc
list_sizes s o (pairs ps ∷ cs) h = let wrong = h.0 in cc

-- how many pairs the maps have
map_sizes : (k v : Shape) (o : List ℕ) (cs : List Cell) → RowsFit (map_of k v o) cs → sizes_in (map childless cs) ≡ map (λ m. size (pairs_in m)) (values cs)
map_sizes k v o [] h = refl
map_sizes k v o (null ∷ cs) h = map_sizes k v o cs h.1
map_sizes k v o (leaf a ∷ cs) h = let wrong = h.0 in cc
map_sizes k v o (list xs ∷ cs) h = let wrong = h.0 in cc
map_sizes k v o (struct xs ∷ cs) h = let wrong = h.0 in cc
map_sizes k v o (pairs ps ∷ cs) h = λ i. pos (pairs_many (length (list_of_pairs ps)) i) ∷ map_sizes k v o cs h.1 i

pub own_list_sizes : (s : Shape) (o : List ℕ) (owns : List Own) (cells : List Cell) → AreOwn owns cells → RowsFit (list_of s o) cells → sizes_in (own_cells owns) ≡ map (λ v. size (parts v)) (values cells)
own_list_sizes s o owns cells h fit = ap sizes_in h ∙ list_sizes s o cells fit

pub own_map_sizes : (k v : Shape) (o : List ℕ) (owns : List Own) (cells : List Cell) → AreOwn owns cells → RowsFit (map_of k v o) cells → sizes_in (own_cells owns) ≡ map (λ m. size (pairs_in m)) (values cells)
own_map_sizes k v o owns cells h fit = ap sizes_in h ∙ map_sizes k v o cells fit
