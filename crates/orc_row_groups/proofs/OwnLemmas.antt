-- Cells as their own column says them: they are as many as the cells, and have as many values, bytes and children.
use Rattle.std.proofs.Common.{◌≡◌, ◌∙◌, ℕ, zero, suc, List, [], ◌∷◌, length, map, take, drop, refl, sym, ap, arith, length-append}
use Rattle.std.proofs.lemmas.List.{length-map, take-map}
use Rattle.std.specs.List.{flat_map, drop-map}
use Rattle.orc_values.specs.Cells.{Cell, null, leaf, list, struct, pairs, list_of_cells, list_of_pairs, parts, pairs_in, values}
use Rattle.orc_values.specs.Childless.{list_of_size, map_of_size, childless}
use Rattle.orc_values.specs.Fits.{RowsFit}
use Rattle.orc_values.specs.Own.{own_cell}
use Rattle.orc_values.specs.Shapes.{Shape, list_of}
use Rattle.orc_values.specs.declared.own.Own.{Own}
use Rattle.orc_values.proofs.Childless.{list_size, map_size, values_many}
use Rattle.orc_row_groups.specs.Bounds.{elements_before, pairs_before, values_before}
use Rattle.orc_row_groups.specs.OwnCells.{own_cells, AreOwn}

-- ---- a slice of what is said

pub owns_long : (owns : List Own) → length (own_cells owns) ≡ length owns
owns_long owns = length-map owns own_cell

pub owns_between : (owns : List Own) (at n : ℕ) → own_cells (take n (drop at owns)) ≡ take n (drop at (own_cells owns))
owns_between owns at n = sym (take-map own_cell n (drop at owns)) ∙ ap (take n) (sym (drop-map own_cell at owns))

-- ---- cells without their children

pub own_count : (owns : List Own) (cells : List Cell) → AreOwn owns cells → length owns ≡ length cells
own_count owns cells h = sym (owns_long owns) ∙ ap length h ∙ length-map cells childless

-- what is said of a part of the cells
pub own_part : (owns part : List Own) (cells : List Cell) (n at : ℕ) → AreOwn owns cells → own_cells part ≡ take n (drop at (own_cells owns)) → AreOwn part (take n (drop at cells))
own_part owns part cells n at h e =
    e ∙ ap (λ (cs : List Cell). take n (drop at cs)) h ∙ ap (take n) (drop-map childless at cells) ∙ take-map childless n (drop at cells)

elements_many : (s : Shape) (o : List ℕ) (cs : List Cell) → RowsFit (list_of s o) cs → length (flat_map parts (values (map childless cs))) ≡ length (flat_map parts (values cs))
elements_many s o [] h = refl
elements_many s o (null ∷ cs) h = elements_many s o cs h.1
elements_many s o (leaf a ∷ cs) h = let wrong = h.0 in cc
elements_many s o (struct x ∷ cs) h = let wrong = h.0 in cc
elements_many s o (pairs x ∷ cs) h = let wrong = h.0 in cc
elements_many s o (list x ∷ cs) h =
    let n = length (list_of_cells x) in
    let a = length-append (parts (list_of_size n)) (flat_map parts (values (map childless cs))) in
    let b = length-append (list_of_cells x) (flat_map parts (values cs)) in
    omega (arith, a, b, list_size n, elements_many s o cs h.1)

pairs_many : (cs : List Cell) → length (flat_map pairs_in (values (map childless cs))) ≡ length (flat_map pairs_in (values cs))
pairs_many [] = refl
pairs_many (null ∷ cs) = pairs_many cs
pairs_many (leaf a ∷ cs) = pairs_many cs
pairs_many (list x ∷ cs) = omega (arith, pairs_many cs)
pairs_many (struct x ∷ cs) = pairs_many cs
pairs_many (pairs x ∷ cs) =
    let n = length (list_of_pairs x) in
    let a = length-append (pairs_in (map_of_size n)) (flat_map pairs_in (values (map childless cs))) in
    let b = length-append (list_of_pairs x) (flat_map pairs_in (values cs)) in
    omega (arith, a, b, map_size n, pairs_many cs)

-- ---- bounds of the columns below

fit_front : (s : Shape) (n : ℕ) (cs : List Cell) → RowsFit s cs → RowsFit s (take n cs)
fit_front s zero cs h = tt
fit_front s (suc n) [] h = tt
fit_front s (suc n) (c ∷ cs) h = (h.0, fit_front s n cs h.1)

same_elements : (s : Shape) (o : List ℕ) (owns : List Own) (cells : List Cell) (b : ℕ) → AreOwn owns cells → RowsFit (list_of s o) cells → elements_before (own_cells owns) b ≡ elements_before cells b
same_elements s o owns cells b own fit =
    ap (λ (cs : List Cell). elements_before cs b) own
    ∙ ap (λ (cs : List Cell). length (flat_map parts (values cs))) (take-map childless b cells)
    ∙ elements_many s o (take b cells) (fit_front (list_of s o) b cells fit)

pub own_elements : (s : Shape) (o : List ℕ) (owns : List Own) (cells : List Cell) (bounds : List ℕ) → AreOwn owns cells → RowsFit (list_of s o) cells
    → map (elements_before (own_cells owns)) bounds ≡ map (elements_before cells) bounds
own_elements s o owns cells bounds own fit = λ i. map (λ (b : ℕ). same_elements s o owns cells b own fit i) bounds

-- all their elements
pub all_elements : (s : Shape) (o : List ℕ) (owns : List Own) (cells : List Cell) → AreOwn owns cells → RowsFit (list_of s o) cells
    → length (flat_map parts (values (own_cells owns))) ≡ length (flat_map parts (values cells))
all_elements s o owns cells own fit = ap (λ (cs : List Cell). length (flat_map parts (values cs))) own ∙ elements_many s o cells fit

same_pairs : (owns : List Own) (cells : List Cell) (b : ℕ) → AreOwn owns cells → pairs_before (own_cells owns) b ≡ pairs_before cells b
same_pairs owns cells b own =
    ap (λ (cs : List Cell). pairs_before cs b) own
    ∙ ap (λ (cs : List Cell). length (flat_map pairs_in (values cs))) (take-map childless b cells)
    ∙ pairs_many (take b cells)

pub own_pairs : (owns : List Own) (cells : List Cell) (bounds : List ℕ) → AreOwn owns cells → map (pairs_before (own_cells owns)) bounds ≡ map (pairs_before cells) bounds
own_pairs owns cells bounds own = λ i. map (λ (b : ℕ). same_pairs owns cells b own i) bounds

-- all their pairs
pub all_pairs : (owns : List Own) (cells : List Cell) → AreOwn owns cells → length (flat_map pairs_in (values (own_cells owns))) ≡ length (flat_map pairs_in (values cells))
all_pairs owns cells own = ap (λ (cs : List Cell). length (flat_map pairs_in (values cs))) own ∙ pairs_many cells

same_values : (owns : List Own) (cells : List Cell) (b : ℕ) → AreOwn owns cells → values_before (own_cells owns) b ≡ values_before cells b
same_values owns cells b own =
    ap (λ (cs : List Cell). values_before cs b) own ∙ ap (λ (cs : List Cell). length (values cs)) (take-map childless b cells) ∙ values_many (take b cells)

pub own_values : (owns : List Own) (cells : List Cell) (bounds : List ℕ) → AreOwn owns cells → map (values_before (own_cells owns)) bounds ≡ map (values_before cells) bounds
own_values owns cells bounds own = λ i. map (λ (b : ℕ). same_values owns cells b own i) bounds
