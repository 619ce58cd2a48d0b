-- What a cell without its children keeps.
use Rattle.std.proofs.Common.{◌≡◌, ℕ, suc, List, [], ◌∷◌, map, length, replicate, Option, Some, Vec, Global, refl, ap, ◌∙◌}
use Rattle.std.proofs.lemmas.List.{length-map, length-replicate}
use Rattle.orc_values.specs.Cells.{Cell, null, leaf, list, struct, pairs, cells_of, list_of_cells, pairs_of, list_of_pairs, is_value, parts, pairs_in, values}
use Rattle.orc_values.specs.Childless.{list_of_size, map_of_size, childless_struct, childless}
use Rattle.orc_values.specs.Views.{view, views, paired}
use Rattle.orc_values.specs.declared.value.Value.{Value, List as ListOf, Map as MapOf}
use Rattle.orc_values.specs.declared.value.MapPair.{MapPair}
use Rattle.orc_values.proofs.Views.{view-List, view-Map, list_of_cells-cells_of, list_of_pairs-pairs_of}

pub value_childless : (c : Cell) → is_value (childless c) ≡ is_value c
value_childless null = refl
value_childless (leaf a) = refl
value_childless (list cs) = refl
value_childless (struct cs) = refl
value_childless (pairs ps) = refl

pub marks_childless : (cs : List Cell) → map is_value (map childless cs) ≡ map is_value cs
marks_childless [] = refl
marks_childless (c ∷ cs) = λ i. value_childless c i ∷ marks_childless cs i

pub values_childless : (cs : List Cell) → values (map childless cs) ≡ map childless (values cs)
values_childless [] = refl
values_childless (null ∷ cs) = values_childless cs
values_childless (leaf a ∷ cs) = ap (λ t. leaf a ∷ t) (values_childless cs)
values_childless (list x ∷ cs) = ap (λ t. childless (list x) ∷ t) (values_childless cs)
values_childless (struct x ∷ cs) = ap (λ t. childless_struct ∷ t) (values_childless cs)
values_childless (pairs x ∷ cs) = ap (λ t. childless (pairs x) ∷ t) (values_childless cs)

pub elements_many : (n : ℕ) → length (list_of_cells (cells_of (replicate n null))) ≡ n
elements_many n = ap length (list_of_cells-cells_of (replicate n null)) ∙ length-replicate n null

pub pairs_many : (n : ℕ) → length (list_of_pairs (pairs_of (replicate n (null, null)))) ≡ n
pairs_many n = ap length (list_of_pairs-pairs_of (replicate n (null, null))) ∙ length-replicate n (null, null)

pub list_size : (n : ℕ) → length (parts (list_of_size n)) ≡ n
list_size n = elements_many n

pub map_size : (n : ℕ) → length (pairs_in (map_of_size n)) ≡ n
map_size n = pairs_many n

-- ---- of rows in memory

many_views : (rs : List (Option Value)) → length (list_of_cells (cells_of (views rs))) ≡ length rs
many_views [] = refl
many_views (r ∷ rs) = ap suc (many_views rs)

pub childless_list : (v : Vec (Option Value) Global) → childless (view (Some (ListOf v))) ≡ list_of_size (length v.items)
childless_list v = ap childless (view-List v) ∙ ap list_of_size (many_views v.items)

pub childless_map : (v : Vec MapPair Global) → childless (view (Some (MapOf v))) ≡ map_of_size (length v.items)
childless_map v = ap childless (view-Map v) ∙ ap map_of_size (ap length (list_of_pairs-pairs_of (map paired v.items)) ∙ length-map v.items paired)

pub values_many : (cs : List Cell) → length (values (map childless cs)) ≡ length (values cs)
values_many cs = ap length (values_childless cs) ∙ length-map (values cs) childless
