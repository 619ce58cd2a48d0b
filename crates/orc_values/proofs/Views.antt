-- Trees and values, level by level.
use Rattle.std.proofs.Common.{◌≡◌, ℕ, List, [], ◌∷◌, map, Option, Some, None, Vec, Box, string_bytes, Global, refl, ap, rules}
use Rattle.std.specs.Cow.{cow_slice_items, cow_str_bytes}
use Rattle.std.specs.declared.borrow.CowSlice.{CowSlice}
use Rattle.std.specs.declared.borrow.CowStr.{CowStr}
use Rattle.orc_values.specs.Shapes.{scalar, list_of, map_of, struct_of}
use Rattle.orc_values.specs.Cells.{bytes, text, Cell, null, leaf, list, struct, pairs, Cells, end, more, Pairs, no_pair, pair, cells_of, list_of_cells, pairs_of, list_of_pairs}
use Rattle.orc_values.specs.Views.{shape, name_and_type, fields, view, views, or_null, cell_of_value, cell_step, pair_step, paired}
use Rattle.orc_values.specs.declared.kind.Scalar.{Scalar as Kind}
use Rattle.orc_values.specs.declared.tree.Tree.{Tree, Scalar, List as TreeList, Map as TreeMap, Struct as TreeStruct}
use Rattle.orc_values.specs.declared.tree.Tree.TheFolds.{the_lemmas as tree_lemmas}
use Rattle.orc_values.specs.declared.tree.Field.{Field}
use Rattle.orc_values.specs.declared.value.Value.{Value, Bytes, Text, List as ListOf, Struct, Map as MapOf, the_lemmas}
use Rattle.orc_values.specs.declared.value.MapPair.{MapPair}
use Rattle.orc_values.specs.declared.value.Value.TheFolds.{fold-Value}
use Rattle.orc_values.specs.declared.value.Value.TheShapes.{former-Value-List-0-at-1, former-MapPair-key}

-- the rows inside a value, each seen as its cell
views-former : (rs : List (Option Value)) → map or_null (map (former-Value-List-0-at-1.map Value Cell (fold-Value Cell (Cell × Cell) cell_step pair_step)) rs) ≡ views rs
views-former [] = refl
views-former (None ∷ rs) = ap (λ cs. null ∷ cs) (views-former rs)
views-former (Some v ∷ rs) = ap (λ cs. cell_of_value v ∷ cs) (views-former rs)

pub view-List : (v : Vec (Option Value) Global) → view (Some (ListOf v)) ≡ list (cells_of (views v.items))
view-List v = search (rules, the_lemmas, views-former)

pub view-Struct : (v : Vec (Option Value) Global) → view (Some (Struct v)) ≡ struct (cells_of (views v.items))
view-Struct v = search (rules, the_lemmas, views-former)

-- a row of a pair
view-former : (r : Option Value) → or_null (former-MapPair-key.map Value Cell (fold-Value Cell (Cell × Cell) cell_step pair_step) r) ≡ view r
view-former None = refl
view-former (Some v) = refl

pub paired-is : (p : MapPair) → paired p ≡ (view p.key, view p.value)
paired-is p = search (rules, the_lemmas, view-former)

pub view-Map : (v : Vec MapPair Global) → view (Some (MapOf v)) ≡ pairs (pairs_of (map paired v.items))
view-Map v = search (rules, the_lemmas)

pub view-Text : (s : CowStr Global) → view (Some (Text s)) ≡ leaf (text (cow_str_bytes s))
view-Text s = search (rules, the_lemmas)

pub view-Bytes : (s : CowSlice ℕ Global) → view (Some (Bytes s)) ≡ leaf (bytes (cow_slice_items s))
view-Bytes s = search (rules, the_lemmas)

pub shape-Scalar : (k : Kind) (o : Vec ℕ Global) → shape (Scalar k o) ≡ scalar k o.items
shape-Scalar k o = search (rules, tree_lemmas)

pub shape-List : (b : Box Tree Global) (o : Vec ℕ Global) → shape (TreeList b o) ≡ list_of (shape b.value) o.items
shape-List b o = search (rules, tree_lemmas)

pub shape-Map : (k v : Box Tree Global) (o : Vec ℕ Global) → shape (TreeMap k v o) ≡ map_of (shape k.value) (shape v.value) o.items
shape-Map k v o = search (rules, tree_lemmas)

pub shape-Struct : (fs : Vec Field Global) (o : Vec ℕ Global) → shape (TreeStruct fs o) ≡ struct_of (fields fs.items) o.items
shape-Struct fs o = search (rules, tree_lemmas)

pub name_and_type-is : (f : Field) → name_and_type f ≡ (string_bytes f.name, shape f.tree)
name_and_type-is f = search (rules, tree_lemmas)

pub list_of_cells-cells_of : (cs : List Cell) → list_of_cells (cells_of cs) ≡ cs
list_of_cells-cells_of [] = refl
list_of_cells-cells_of (c ∷ cs) = ap (λ x. c ∷ x) (list_of_cells-cells_of cs)

pub list_of-views : (rs : List (Option Value)) → list_of_cells (cells_of (views rs)) ≡ views rs
list_of-views rs = list_of_cells-cells_of (views rs)

pub cells_of-list_of_cells : (cs : Cells) → cells_of (list_of_cells cs) ≡ cs
cells_of-list_of_cells end = refl
cells_of-list_of_cells (more c cs) = ap (λ x. more c x) (cells_of-list_of_cells cs)

pub list_of_pairs-pairs_of : (ps : List (Cell × Cell)) → list_of_pairs (pairs_of ps) ≡ ps
list_of_pairs-pairs_of [] = refl
list_of_pairs-pairs_of (p ∷ ps) = ap (λ x. p ∷ x) (list_of_pairs-pairs_of ps)

pub pairs_of-list_of_pairs : (ps : Pairs) → pairs_of (list_of_pairs ps) ≡ ps
pairs_of-list_of_pairs no_pair = refl
pairs_of-list_of_pairs (pair k v ps) = ap (λ x. pair k v x) (pairs_of-list_of_pairs ps)

pub list_of-paired : (ps : List MapPair) → list_of_pairs (pairs_of (map paired ps)) ≡ map paired ps
list_of-paired ps = list_of_pairs-pairs_of (map paired ps)
