-- Groups of a column's cells, one after the other.
use Rattle.std.proofs.Common.{◌≡◌, ℕ, zero, suc, ◌+◌, ◌-◌, ◌<◌, ◌≤◌, min, true, List, [], ◌∷◌, ◌++◌, length, map, take, drop, get_or, refl, sym, ap, ◌∙◌, subst, arith, append_assoc, length-append, length-drop}
use Rattle.std.specs.List.{flat_map, drop-map, AllByRecursion}
use Rattle.std.proofs.Math.ListN.{get_or-map}
use Rattle.std.proofs.Math.Seq.{take-add}
use Rattle.std.proofs.lemmas.Grind.{get_or_default_zero}
use Rattle.std.proofs.lemmas.List.{length-map, take_all, take-append-drop, drop-take, take-map}
use Rattle.orc_values.specs.Childless.{childless}
use Rattle.orc_values.specs.Cells.{Cell, parts, pairs_in, keys_in, values_in, values}
use Rattle.orc_values.specs.Fits.{fits, RowsFit}
use Rattle.orc_values.specs.Lent.{lent_cells}
use Rattle.orc_values.specs.Shapes.{Shape}
use Rattle.orc_values.specs.Views.{view}
use Rattle.orc_values.specs.declared.lent.Lent.{Lent}
use Rattle.orc_values.specs.declared.own.Own.{Own}
use Rattle.orc_values.proofs.Together.{values-append, flat_map-append}
use Rattle.orc_row_groups.specs.Bounds.{bound_at, AreBounds, before_group, group_of, elements_before, pairs_before, values_before}
use Rattle.orc_row_groups.specs.OwnCells.{own_cells, AreOwn}
use Rattle.orc_row_groups.specs.Counts.{octets, most, AreCounted}
use Rattle.orc_row_groups.specs.declared.counts.Counts.{Counts}
use Rattle.orc_row_groups.proofs.Counted.{counted_more, values_more}
use Rattle.orc_row_groups.proofs.OwnLemmas.{owns_long, own_count, own_part}
use Rattle.orc_values.proofs.Childless.{values_many}
use Rattle.orc_row_groups.proofs.OctetLemmas.{octets_many}

-- ---- bounds

-- no group begins past the end
pub bound_within : (count : ℕ) (bounds : List ℕ) (group : ℕ) → AreBounds count bounds → bound_at count bounds group ≤ count
bound_within count [] group h = omega arith
bound_within count (b ∷ bs) zero h = omega (arith, h 0, bound_within count bs 0 (λ g. h (suc g)))
bound_within count (b ∷ bs) (suc group) h = bound_within count bs group (λ g. h (suc g))

-- a longer front is a shorter one and the cells between
pub cells_between : (cells : List Cell) (at start : ℕ) → at ≤ start → take start cells ≡ take at cells ++ take (start - at) (drop at cells)
cells_between cells at start le =
    let sum : start ≡ at + (start - at) = omega (arith, le) in
    ap (λ (n : ℕ). take n cells) sum ∙ take-add at (start - at) cells

-- cells that are lent of a part are that part of those that are lent
pub lent_between : (rs : List Lent) (at n : ℕ) → lent_cells (take n (drop at rs)) ≡ take n (drop at (lent_cells rs))
lent_between rs at n = sym (take-map (λ (r : Lent). view r.0.now) n (drop at rs)) ∙ ap (take n) (sym (drop-map (λ (r : Lent). view r.0.now) at rs))

-- the cells from a group's bound to where it ends are the group's
pub group_between : (cells : List Cell) (bounds : List ℕ) (group start end : ℕ) → AreBounds (length cells) bounds → start ≡ bound_at (length cells) bounds group → end ≡ bound_at (length cells) bounds (group + 1)
    → take (end - start) (drop start cells) ≡ group_of cells bounds group
group_between cells bounds group start end h s e =
    let next : group + 1 ≡ suc group = omega arith in
    let last : end ≡ bound_at (length cells) bounds (suc group) = e ∙ ap (λ (n : ℕ). bound_at (length cells) bounds n) next in
    let le : start ≤ end = omega (arith, h group, s, last) in
    let sum : end ≡ start + (end - start) = omega (arith, le) in
    sym (drop-take start (end - start) cells) ∙ ap (λ (n : ℕ). drop start (take n cells)) (sym sum) ∙ (λ i. drop (s i) (take (last i) cells))

-- the bound that a loop reads
pub bound_read : (count : ℕ) (bounds : List ℕ) (group : ℕ) → group < length bounds → get_or bounds group 0 ≡ bound_at count bounds group
bound_read count bounds group lt = sym (get_or_default_zero bounds group count lt)

-- what has come no further than a group has come no further than its bound
pub bound_ahead : (count : ℕ) (bounds : List ℕ) (group at : ℕ) → group < length bounds → at ≤ bound_at count bounds group → at ≤ get_or bounds group 0
bound_ahead count bounds group at lt le = omega (arith, le, bound_read count bounds group lt)

-- the next one is not below it
pub bound_up : (count : ℕ) (bounds : List ℕ) (group : ℕ) → AreBounds count bounds → bound_at count bounds group ≤ bound_at count bounds (group + 1)
bound_up count bounds group h =
    let next : suc group ≡ group + 1 = omega arith in
    subst (λ (n : ℕ). bound_at count bounds group ≤ bound_at count bounds n) next (h group)

pub bound_rises : (count : ℕ) (bounds : List ℕ) (group : ℕ) → AreBounds count bounds → group < length bounds → get_or bounds group 0 ≤ bound_at count bounds (group + 1)
bound_rises count bounds group h lt = omega (arith, bound_up count bounds group h, bound_read count bounds group lt)

pub lent_long : (rs : List Lent) → length (lent_cells rs) ≡ length rs
lent_long rs = length-map rs (λ (r : Lent). view r.0.now)

-- a bound is a place among the cells
pub bound_there : (owns : List Own) (bounds : List ℕ) (group : ℕ) → AreBounds (length (own_cells owns)) bounds → group < length bounds → get_or bounds group 0 ≤ length owns
bound_there owns bounds group h lt = omega (arith, bound_read (length (own_cells owns)) bounds group lt, bound_within (length (own_cells owns)) bounds group h, owns_long owns)

map_next : (f : ℕ → ℕ) (bounds : List ℕ) (i : ℕ) → i < length bounds → map f (drop i bounds) ≡ f (get_or bounds i 0) ∷ map f (drop (suc i) bounds)
map_next f [] i lt = absurd (omega (arith, lt))
map_next f (b ∷ bs) zero lt = refl
map_next f (b ∷ bs) (suc i) lt = map_next f bs i (omega (arith, lt))

-- one more bound is found
pub found_more : (f : ℕ → ℕ) (bounds : List ℕ) (i n : ℕ) (found new : List ℕ) → i < length bounds → n ≡ f (get_or bounds i 0) → new ≡ found ++ n ∷ [] → found ++ map f (drop i bounds) ≡ map f bounds
    → new ++ map f (drop (i + 1) bounds) ≡ map f bounds
found_more f bounds i n found new lt is pushed h =
    let next : i + 1 ≡ suc i = omega arith in
    let rest = map f (drop (suc i) bounds) in
    ap (λ (k : ℕ). new ++ map f (drop k bounds)) next ∙ ap (λ (t : List ℕ). t ++ rest) pushed ∙ append_assoc found (n ∷ []) rest ∙ ap (λ (k : ℕ). found ++ k ∷ rest) is
    ∙ ap (λ (t : List ℕ). found ++ t) (sym (map_next f bounds i lt)) ∙ h

-- what counts more where there is more takes bounds to bounds
pub bounds_map : (f : ℕ → ℕ) → ((a b : ℕ) → a ≤ b → f a ≤ f b) → (count : ℕ) (bounds : List ℕ) → AreBounds count bounds → AreBounds (f count) (map f bounds)
bounds_map f rises count bounds h = λ group.
    let e = get_or-map f bounds group count in
    let d = get_or-map f bounds (suc group) count in
    omega (arith, e, d, rises (bound_at count bounds group) (bound_at count bounds (suc group)) (h group))

-- what cells contain, by any rule: of more cells it is more
contents_more : {X : Type 0} (inside : Cell → List X) (a b : List Cell) → length (flat_map inside (values (a ++ b))) ≡ length (flat_map inside (values a)) + length (flat_map inside (values b))
contents_more inside a b =
    ap (λ vs. length (flat_map inside vs)) (values-append a b) ∙ ap length (flat_map-append inside (values a) (values b)) ∙ length-append (flat_map inside (values a)) (flat_map inside (values b))

-- so much do the first cells contain
abbrev contents_before : {X : Type 0} → (Cell → List X) → List Cell → ℕ → ℕ
contents_before inside cells bound = length (flat_map inside (values (take bound cells)))

contents_between : {X : Type 0} (inside : Cell → List X) (cells : List Cell) (at start : ℕ) → at ≤ start
    → contents_before inside cells start ≡ contents_before inside cells at + length (flat_map inside (values (take (start - at) (drop at cells))))
contents_between inside cells at start le =
    ap (λ cs. length (flat_map inside (values cs))) (cells_between cells at start le) ∙ contents_more inside (take at cells) (take (start - at) (drop at cells))

contents_rise : {X : Type 0} (inside : Cell → List X) (cells : List Cell) (a b : ℕ) → a ≤ b → contents_before inside cells a ≤ contents_before inside cells b
contents_rise inside cells a b le = omega (arith, contents_between inside cells a b le)

pub elements_between : (cells : List Cell) (at start : ℕ) → at ≤ start
    → elements_before cells start ≡ elements_before cells at + length (flat_map parts (values (take (start - at) (drop at cells))))
elements_between = contents_between parts

pub pairs_between : (cells : List Cell) (at start : ℕ) → at ≤ start
    → pairs_before cells start ≡ pairs_before cells at + length (flat_map pairs_in (values (take (start - at) (drop at cells))))
pairs_between = contents_between pairs_in

pub values_between : (cells : List Cell) (at start : ℕ) → at ≤ start → values_before cells start ≡ values_before cells at + length (values (take (start - at) (drop at cells)))
values_between cells at start le = ap (λ cs. length (values cs)) (cells_between cells at start le) ∙ values_more (take at cells) (take (start - at) (drop at cells))

values_rise : (cells : List Cell) (a b : ℕ) → a ≤ b → values_before cells a ≤ values_before cells b
values_rise cells a b le = omega (arith, values_between cells a b le)

whole_front : (cells : List Cell) → take (length cells) cells ≡ cells
whole_front cells = take_all (length cells) cells (omega arith)

contents_within : {X : Type 0} (inside : Cell → List X) (cells : List Cell) (a : ℕ) → a ≤ length cells → contents_before inside cells a ≤ length (flat_map inside (values cells))
contents_within inside cells a le = omega (arith, contents_rise inside cells a (length cells) le, ap (λ cs. length (flat_map inside (values cs))) (whole_front cells))

pub elements_within : (cells : List Cell) (a : ℕ) → a ≤ length cells → elements_before cells a ≤ length (flat_map parts (values cells))
elements_within = contents_within parts

pub pairs_within : (cells : List Cell) (a : ℕ) → a ≤ length cells → pairs_before cells a ≤ length (flat_map pairs_in (values cells))
pairs_within = contents_within pairs_in

content_bounds_are : {X : Type 0} (inside : Cell → List X) (cells : List Cell) (bounds : List ℕ) → AreBounds (length cells) bounds
    → AreBounds (length (flat_map inside (values cells))) (map (contents_before inside cells) bounds)
content_bounds_are inside cells bounds h =
    subst (λ (n : ℕ). AreBounds n (map (contents_before inside cells) bounds)) (ap (λ cs. length (flat_map inside (values cs))) (whole_front cells))
    (bounds_map (contents_before inside cells) (contents_rise inside cells) (length cells) bounds h)

pub element_bounds_are : (cells : List Cell) (bounds : List ℕ) → AreBounds (length cells) bounds → AreBounds (length (flat_map parts (values cells))) (map (elements_before cells) bounds)
element_bounds_are = content_bounds_are parts

-- the keys of maps are as many as their pairs, and the values
pub keys_long : (ms : List Cell) → length (flat_map keys_in ms) ≡ length (flat_map pairs_in ms)
keys_long [] = refl
keys_long (m ∷ ms) = omega (arith, length-append (keys_in m) (flat_map keys_in ms), length-append (pairs_in m) (flat_map pairs_in ms), length-map (pairs_in m) (λ (p : Cell × Cell). p.0), keys_long ms)

pub map_values_long : (ms : List Cell) → length (flat_map values_in ms) ≡ length (flat_map pairs_in ms)
map_values_long [] = refl
map_values_long (m ∷ ms) = omega (arith, length-append (values_in m) (flat_map values_in ms), length-append (pairs_in m) (flat_map pairs_in ms), length-map (pairs_in m) (λ (p : Cell × Cell). p.1), map_values_long ms)

pub key_bounds_are : (cells : List Cell) (bounds : List ℕ) → AreBounds (length cells) bounds → AreBounds (length (flat_map keys_in (values cells))) (map (pairs_before cells) bounds)
key_bounds_are cells bounds h = subst (λ (n : ℕ). AreBounds n (map (pairs_before cells) bounds)) (sym (keys_long (values cells))) (content_bounds_are pairs_in cells bounds h)

pub value_bounds_are : (cells : List Cell) (bounds : List ℕ) → AreBounds (length cells) bounds → AreBounds (length (flat_map values_in (values cells))) (map (pairs_before cells) bounds)
value_bounds_are cells bounds h = subst (λ (n : ℕ). AreBounds n (map (pairs_before cells) bounds)) (sym (map_values_long (values cells))) (content_bounds_are pairs_in cells bounds h)

pub field_bounds_are : (cells : List Cell) (bounds : List ℕ) → AreBounds (length cells) bounds → AreBounds (length (values cells)) (map (values_before cells) bounds)
field_bounds_are cells bounds h =
    subst (λ (n : ℕ). AreBounds n (map (values_before cells) bounds)) (ap (λ cs. length (values cs)) (whole_front cells))
    (bounds_map (values_before cells) (values_rise cells) (length cells) bounds h)

-- ---- what is counted, group by group

-- counts of the cells before a group
pub counted_to : (cells : List Cell) (at start : ℕ) (k m : Counts) (group : List Cell) → at ≤ start → group ≡ take (start - at) (drop at cells) → AreCounted k (take at cells)
    → m.cells ≡ k.cells + length group → m.values ≡ k.values + length (values group) → m.octets ≡ min most (k.octets + octets group) → AreCounted m (take start cells)
counted_to cells at start k m group le are h c v o =
    subst (λ (cs : List Cell). AreCounted m cs) (ap (λ (g : List Cell). take at cells ++ g) are ∙ sym (cells_between cells at start le)) (counted_more k m (take at cells) group h c v o)

-- what is counted of what a column says of cells is counted of the cells
pub counted_own : (k m : Counts) (front : List Cell) (owns : List Own) (cells : List Cell) → AreOwn owns cells → AreCounted k front
    → m.cells ≡ k.cells + length (own_cells owns) → m.values ≡ k.values + length (values (own_cells owns)) → m.octets ≡ min most (k.octets + octets (own_cells owns)) → AreCounted m (front ++ cells)
counted_own k m front owns cells own h c v o =
    counted_more k m front cells h
    (c ∙ ap (λ (n : ℕ). k.cells + n) (ap length own ∙ length-map cells childless))
    (v ∙ ap (λ (n : ℕ). k.values + n) (ap (λ (cs : List Cell). length (values cs)) own ∙ values_many cells))
    (o ∙ ap (λ (n : ℕ). min most (k.octets + n)) (ap octets own ∙ octets_many cells))

-- a group's cells come behind those before it
pub group_behind : (cells : List Cell) (bounds : List ℕ) (group : ℕ) → AreBounds (length cells) bounds → before_group cells bounds (group + 1) ≡ before_group cells bounds group ++ group_of cells bounds group
group_behind cells bounds group rise =
    let start = bound_at (length cells) bounds group in
    let end = bound_at (length cells) bounds (group + 1) in
    cells_between cells start end (bound_up (length cells) bounds group rise)
    ∙ ap (λ (own : List Cell). take start cells ++ own) (group_between cells bounds group start end rise refl refl)

-- what a column says of the cells before the first group
pub own_front : (owns part : List Own) (cells : List Cell) (bounds : List ℕ) (first : ℕ) → AreOwn owns cells → own_cells part ≡ take (first - 0) (drop 0 (own_cells owns)) → first ≡ bound_at (length owns) bounds 0
    → AreOwn part (before_group cells bounds 0)
own_front owns part cells bounds first own is at =
    let all : first - 0 ≡ first = omega arith in
    let e : first - 0 ≡ bound_at (length cells) bounds 0 = all ∙ at ∙ ap (λ (n : ℕ). bound_at n bounds 0) (own_count owns cells own) in
    subst (λ (n : ℕ). AreOwn part (take n cells)) e (own_part owns part cells (first - 0) 0 own is)

-- and of a group's
pub own_group : (owns part : List Own) (cells : List Cell) (bounds : List ℕ) (group end : ℕ) → AreOwn owns cells → AreBounds (length owns) bounds → group < length bounds
    → own_cells part ≡ take (end - get_or bounds group 0) (drop (get_or bounds group 0) (own_cells owns)) → end ≡ bound_at (length owns) bounds (group + 1) → AreOwn part (group_of cells bounds group)
own_group owns part cells bounds group end own rise lt is at =
    let long = own_count owns cells own in
    let start = get_or bounds group 0 in
    let there : AreBounds (length cells) bounds = subst (λ (n : ℕ). AreBounds n bounds) long rise in
    let last : end ≡ bound_at (length cells) bounds (group + 1) = at ∙ ap (λ (n : ℕ). bound_at n bounds (group + 1)) long in
    subst (λ (cs : List Cell). AreOwn part cs) (group_between cells bounds group start end there (bound_read (length cells) bounds group lt) last) (own_part owns part cells (end - start) start own is)

-- ---- the cells of a group

all_take : (P : Cell → Type 0) (n : ℕ) (xs : List Cell) → AllByRecursion P xs → AllByRecursion P (take n xs)
all_take P zero xs h = tt
all_take P (suc n) [] h = tt
all_take P (suc n) (x ∷ xs) h = (h.0, all_take P n xs h.1)

all_drop : (P : Cell → Type 0) (n : ℕ) (xs : List Cell) → AllByRecursion P xs → AllByRecursion P (drop n xs)
all_drop P zero xs h = h
all_drop P (suc n) [] h = tt
all_drop P (suc n) (x ∷ xs) h = all_drop P n xs h.1

pub group_fits : (s : Shape) (cells : List Cell) (bounds : List ℕ) (group : ℕ) → RowsFit s cells → RowsFit s (group_of cells bounds group)
group_fits s cells bounds group h =
    all_drop (λ r. fits r s ≡ true) (bound_at (length cells) bounds group) (take (bound_at (length cells) bounds (suc group)) cells)
    (all_take (λ r. fits r s ≡ true) (bound_at (length cells) bounds (suc group)) cells h)

drop_short : (n : ℕ) (xs : List Cell) → length (drop n xs) ≤ length xs
drop_short n xs = omega (arith, length-drop n xs)

pub take_short : (n : ℕ) (xs : List Cell) → length (take n xs) ≤ length xs
take_short n xs = omega (arith, ap length (take-append-drop n xs), length-append (take n xs) (drop n xs))

pub group_few : (cells : List Cell) (bounds : List ℕ) (group : ℕ) → length (group_of cells bounds group) ≤ length cells
group_few cells bounds group =
    omega (arith, drop_short (bound_at (length cells) bounds group) (take (bound_at (length cells) bounds (suc group)) cells), take_short (bound_at (length cells) bounds (suc group)) cells)
