-- Where each column's own streams spell cells, as many as the column above has room for, there are rows that all
-- columns spell.
use Rattle.std.proofs.Common.{◌≡◌, ℕ, suc, ◌+◌, pos, Bool, true, List, [], ◌∷◌, ◌++◌, map, length, replicate, take, drop, sum, refl, sym, ap, ◌∙◌, subst, arith, length-append, length-drop}
use Rattle.std.specs.List.{flat_map, AllZip}
use Rattle.std.proofs.lemmas.List.{length-map, length-replicate, length-take, nil_from_length, take-append-drop}
use Rattle.orc_rle.specs.declared.sign.Sign.TheVariants.{Unsigned}
use Rattle.orc_values.specs.Cells.{Cell, list, struct, pairs, cells_of, pairs_of, is_value, parts, pairs_in, values}
use Rattle.orc_values.specs.Shapes.{Shape, scalar, list_of, map_of, struct_of, Fields, no_field, field, width}
use Rattle.orc_column_reader.specs.Numbers.{AreNumbers}
use Rattle.orc_column_reader.specs.Spellings.{Nullable, size, concatenated, zip_cons}
use Rattle.orc_column_reader.specs.Stripe.{Streams, version, Marks, SpellsTree, SpellsFields, SpellsCells}
use Rattle.orc_column_reader.proofs.Fronts.{length-values, length-zip}
use Rattle.orc_values.specs.Childless.{list_of_size, map_of_size}
use Rattle.orc_column_walk.specs.OwnColumns.{IsOwnColumn, AreOwnColumns, AreOwnFields, elements_together, pairs_together, OwnBelow, OwnWithin, OwnDown}
use Rattle.orc_values.proofs.Childless.{list_size, map_size}
use Rattle.orc_column_walk.proofs.Spread.{AreValues, spread, spread_is}
use Rattle.orc_values.proofs.Lists.{sum_more}
use Rattle.orc_column_walk.proofs.SizeLemmas.{plain_empty}

-- other values in the places of a column's own
pub refilled : (marks : List Bool → Type 0) (found : List Cell → Type 0) (own vs : List Cell) (n : ℕ) → length own ≡ n → marks (map is_value own) → found vs → AreValues vs → length vs ≡ length (values own)
    → (cells : List Cell) × Nullable marks found cells × (length cells ≡ n)
refilled marks found own vs n counted m f h e =
    let ms = map is_value own in
    let r = spread_is ms vs h (e ∙ length-values own) in
    let cells = spread ms vs in
    let long : length cells ≡ n = omega (arith, length-map cells is_value, ap length r.marks, length-map own is_value, counted) in
    (cells, (subst marks (sym r.marks) m, subst found (sym r.values_are) f), long)

-- ---- groups by their sizes

abbrev pub regroup : {X : Type 0} → List ℕ → List X → List (List X)
regroup [] xs = []
regroup (n ∷ ns) xs = take n xs ∷ regroup ns (drop n xs)

record Regrouped {X : Type 0} (ns : List ℕ) (xs : List X) (groups : List (List X)) : Type 0 where
  sizes : map size groups ≡ map pos ns
  all : concatenated groups ≡ xs

regrouped : {X : Type 0} (ns : List ℕ) (xs : List X) → length xs ≡ sum ns → Regrouped ns xs (regroup ns xs)
regrouped [] xs e = record { sizes = refl; all = sym (nil_from_length xs (omega (arith, e))) }
regrouped {X = X} (n ∷ ns) xs e =
    let s = sum_more n ns in
    let r = regrouped ns (drop n xs) (omega (arith, length-drop n xs, e, s)) in
    let first : length (take n xs) ≡ n = omega (arith, length-take n xs, e, s) in
    record { sizes = λ i. pos (first i) ∷ r.sizes i; all = ap (λ (t : List X). take n xs ++ t) r.all ∙ take-append-drop n xs }

regroup_long : {X : Type 0} (ns : List ℕ) (xs : List X) → length (regroup ns xs) ≡ length ns
regroup_long [] xs = refl
regroup_long (n ∷ ns) xs = ap suc (regroup_long ns (drop n xs))

-- one group for each size
as_many_groups : {X : Type 0} (make : List X → Cell) (sized : ℕ → Cell) (sizes : List ℕ) (xs : List X) (vs : List Cell) → vs ≡ map sized sizes → length (map make (regroup sizes xs)) ≡ length vs
as_many_groups make sized sizes xs vs e =
    let groups = length-map (regroup sizes xs) make in
    let long = length-map sizes sized in
    omega (arith, groups, regroup_long sizes xs, long, ap length e)

pub elements_sum : (sizes : List ℕ) → length (flat_map parts (map list_of_size sizes)) ≡ sum sizes
elements_sum [] = refl
elements_sum (n ∷ ns) =
    let a = length-append (parts (list_of_size n)) (flat_map parts (map list_of_size ns)) in
    omega (arith, a, list_size n, elements_sum ns, sum_more n ns)

pub pairs_sum : (sizes : List ℕ) → length (flat_map pairs_in (map map_of_size sizes)) ≡ sum sizes
pairs_sum [] = refl
pairs_sum (n ∷ ns) =
    let a = length-append (pairs_in (map_of_size n)) (flat_map pairs_in (map map_of_size ns)) in
    omega (arith, a, map_size n, pairs_sum ns, sum_more n ns)

-- ---- values that stand for groups

abbrev list_with : List Cell → Cell
list_with cs = list (cells_of cs)

abbrev map_with : List (Cell × Cell) → Cell
map_with ps = pairs (pairs_of ps)

abbrev struct_with : List Cell → Cell
struct_with cs = struct (cells_of cs)

all_stand : {X : Type 0} (make : X → Cell) (xs : List X) → AllZip (λ x c. c ≡ make x) xs (map make xs)
all_stand make [] = tt
all_stand make (x ∷ xs) = (refl, all_stand make xs)

pub all_values : {X : Type 0} (make : X → Cell) → ((x : X) → is_value (make x) ≡ true) → (xs : List X) → AreValues (map make xs)
all_values make one [] = tt
all_values make one (x ∷ xs) = (one x, all_values make one xs)

-- ---- pairs

abbrev zip_pairs : {X Y : Type 0} → List X → List Y → List (X × Y)
zip_pairs [] ys = []
zip_pairs (x ∷ xs) [] = []
zip_pairs (x ∷ xs) (y ∷ ys) = (x, y) ∷ zip_pairs xs ys

record Zipped {X Y : Type 0} (xs : List X) (ys : List Y) (ps : List (X × Y)) : Type 0 where
  firsts : map (λ p. p.0) ps ≡ xs
  seconds : map (λ p. p.1) ps ≡ ys

zipped : {X Y : Type 0} (xs : List X) (ys : List Y) → length xs ≡ length ys → Zipped xs ys (zip_pairs xs ys)
zipped [] [] e = record { firsts = refl; seconds = refl }
zipped [] (y ∷ ys) e = absurd (omega (arith, e))
zipped (x ∷ xs) [] e = absurd (omega (arith, e))
zipped {X = X} {Y = Y} (x ∷ xs) (y ∷ ys) e =
    let r = zipped xs ys (omega (arith, e)) in
    record { firsts = ap (λ (t : List X). x ∷ t) r.firsts; seconds = ap (λ (t : List Y). y ∷ t) r.seconds }

-- ---- columns by their numbers

-- the streams of the columns from one on
abbrev pub From : (ℕ → Streams) → (ℕ → Streams) → ℕ → Type 0
From x columns c = (d : ℕ) → x d ≡ columns (c + d)

pub first_from : (x columns : ℕ → Streams) (c : ℕ) → From x columns c → x 0 ≡ columns c
first_from x columns c e = let z : c + 0 ≡ c = omega arith in e 0 ∙ ap columns z

pub next_from : (x columns : ℕ → Streams) (c : ℕ) → From x columns c → From (λ d. x (suc d)) columns (suc c)
next_from x columns c e d = let z : c + suc d ≡ suc c + d = omega arith in e (suc d) ∙ ap columns z

pub later_from : (x columns : ℕ → Streams) (c k : ℕ) → From x columns c → From (λ d. x (k + d)) columns (c + k)
later_from x columns c k e d = let z : c + (k + d) ≡ c + k + d = omega arith in e (k + d) ∙ ap columns z

pub from_start : (columns : ℕ → Streams) → From columns columns 0
from_start columns d = let z : d ≡ 0 + d = omega arith in ap columns z

-- the same cells
pub own_first : (s : Shape) (x columns : ℕ → Streams) (c n : ℕ) (own : List Cell) → From x columns c → IsOwnColumn s (x 0) n own → IsOwnColumn s (columns c) n own
own_first s x columns c n own e h = subst (λ (y : Streams). IsOwnColumn s y n own) (first_from x columns c e) h

own_there : (s : Shape) (x columns : ℕ → Streams) (c n : ℕ) (own : List Cell) → From x columns c → IsOwnColumn s (columns c) n own → IsOwnColumn s (x 0) n own
own_there s x columns c n own e h = subst (λ (y : Streams). IsOwnColumn s y n own) (sym (first_from x columns c e)) h

-- ---- down the schema

mutual
  own_below : (s : Shape) (x columns : ℕ → Streams) (c : ℕ) (own : ℕ → List Cell) (n : ℕ) → From x columns c → AreOwnColumns s x own n → OwnDown s columns c n
  own_below (scalar k o) x columns c own n e h = (own 0, own_first (scalar k o) x columns c n (own 0) e h, tt)
  own_below (list_of s o) x columns c own n e h = (
    own 0,
    own_first (list_of s o) x columns c n (own 0) e h.0,
    own_below s (λ d. x (suc d)) columns (suc c) (λ d. own (suc d)) (elements_together (own 0)) (next_from x columns c e) h.1,
  )
  own_below (map_of k v o) x columns c own n e h =
      let below = next_from x columns c e in (
        own 0,
        own_first (map_of k v o) x columns c n (own 0) e h.0,
        (
          own_below k (λ d. x (suc d)) columns (suc c) (λ d. own (suc d)) (pairs_together (own 0)) below h.1,
          own_below v (λ d. x (suc (width k + d))) columns (suc c + width k) (λ d. own (suc (width k + d))) (pairs_together (own 0)) (later_from (λ d. x (suc d)) columns (suc c) (width k) below) h.2,
        ),
      )
  own_below (struct_of fs o) x columns c own n e h = (
    own 0,
    own_first (struct_of fs o) x columns c n (own 0) e h.0,
    own_within fs (λ d. x (suc d)) columns (suc c) (λ d. own (suc d)) (length (values (own 0))) (next_from x columns c e) h.1,
  )

  own_within : (fs : Fields) (x columns : ℕ → Streams) (c : ℕ) (own : ℕ → List Cell) (n : ℕ) → From x columns c → AreOwnFields fs x own n → OwnWithin fs columns c n
  own_within no_field x columns c own n e h = tt
  own_within (field name s fs) x columns c own n e h = (
    own_below s x columns c own n e h.0,
    own_within fs (λ d. x (width s + d)) columns (c + width s) (λ d. own (width s + d)) n (later_from x columns c (width s) e) h.1,
  )

pub own_down : (s : Shape) (columns : ℕ → Streams) (own : ℕ → List Cell) (n : ℕ) → AreOwnColumns s columns own n → OwnDown s columns 0 n
own_down s columns own n h = own_below s columns columns 0 own n (from_start columns) h

mutual
  rows_of : (s : Shape) (x columns : ℕ → Streams) (c : ℕ) (own : List Cell) (n : ℕ) → From x columns c → IsOwnColumn s (columns c) n own → OwnBelow s columns c own → (rows : List Cell) × SpellsCells s x rows × (length rows ≡ n)
  rows_of (scalar k o) x columns c own n e there h = let is = own_there (scalar k o) x columns c n own e there in (own, is.spelled, is.counted)
  rows_of (list_of s o) x columns c own n e there h =
      let is = own_there (list_of s o) x columns c n own e there in
      let below = rows_of s (λ d. x (suc d)) columns (suc c) h.0 (elements_together own) (next_from x columns c e) h.1 h.2 in
      let few = h.1.few in
      let spelled = is.spelled.1 in
      let sizes = spelled.0 in
      let many : elements_together own ≡ sum sizes = ap (λ vs. length (flat_map parts vs)) spelled.2 ∙ elements_sum sizes in
      let r = regrouped sizes below.0 (below.2 ∙ many) in
      let groups = regroup sizes below.0 in
      let found : SpellsTree (list_of s o) x (map list_with groups) = (
        groups,
        all_stand list_with groups,
        (
          subst (AreNumbers (version (x 0)) Unsigned ((x 0).stream 2)) (sym r.sizes) spelled.1,
          (omega (arith, ap length r.all, below.2, few), subst (SpellsCells s (λ c. x (suc c))) (sym r.all) below.1),
        ),
      ) in
      let long = as_many_groups list_with list_of_size sizes below.0 (values own) spelled.2 in
      refilled (Marks ((x 0).stream 0)) (SpellsTree (list_of s o) x) own (map list_with groups) n is.counted is.spelled.0 found (all_values list_with (λ g. refl) groups) long
  rows_of (map_of k v o) x columns c own n e there h =
      let is = own_there (map_of k v o) x columns c n own e there in
      let from = next_from x columns c e in
      let count = pairs_together own in
      let keys = rows_of k (λ d. x (suc d)) columns (suc c) h.0.0 count from h.0.1 h.0.2 in
      let seconds = rows_of v (λ d. x (suc (width k + d))) columns (suc c + width k) h.1.0 count (later_from (λ d. x (suc d)) columns (suc c) (width k) from) h.1.1 h.1.2 in
      let few = h.0.1.few in
      let spelled = is.spelled.1 in
      let sizes = spelled.0 in
      let many : count ≡ sum sizes = ap (λ vs. length (flat_map pairs_in vs)) spelled.2 ∙ pairs_sum sizes in
      let z = zipped keys.0 seconds.0 (keys.2 ∙ sym seconds.2) in
      let ps = zip_pairs keys.0 seconds.0 in
      let first : Cell × Cell → Cell = λ p. p.0 in
      let second : Cell × Cell → Cell = λ p. p.1 in
      let as_many : length ps ≡ count = sym (length-map ps first) ∙ ap length z.firsts ∙ keys.2 in
      let r = regrouped sizes ps (as_many ∙ many) in
      let groups = regroup sizes ps in
      let found : SpellsTree (map_of k v o) x (map map_with groups) = (
        groups,
        all_stand map_with groups,
        (
          subst (AreNumbers (version (x 0)) Unsigned ((x 0).stream 2)) (sym r.sizes) spelled.1,
          (
            omega (arith, ap length r.all, as_many, few),
            (
              subst (SpellsCells k (λ c. x (suc c))) (sym (ap (map first) r.all ∙ z.firsts)) keys.1,
              subst (SpellsCells v (λ c. x (suc (width k + c)))) (sym (ap (map second) r.all ∙ z.seconds)) seconds.1,
            ),
          ),
        ),
      ) in
      let long = as_many_groups map_with map_of_size sizes ps (values own) spelled.2 in
      refilled (Marks ((x 0).stream 0)) (SpellsTree (map_of k v o) x) own (map map_with groups) n is.counted is.spelled.0 found (all_values map_with (λ g. refl) groups) long
  rows_of (struct_of fs o) x columns c own n e there h =
      let is = own_there (struct_of fs o) x columns c n own e there in
      let below = structs_of fs (λ d. x (suc d)) columns (suc c) (length (values own)) (next_from x columns c e) h in
      let found : SpellsTree (struct_of fs o) x (map struct_with below.0) = (below.0, all_stand struct_with below.0, below.1) in
      let long : length (map struct_with below.0) ≡ length (values own) = length-map below.0 struct_with ∙ below.2 in
      refilled (Marks ((x 0).stream 0)) (SpellsTree (struct_of fs o) x) own (map struct_with below.0) n is.counted is.spelled.0 found (all_values struct_with (λ g. refl) below.0) long

  structs_of : (fs : Fields) (x columns : ℕ → Streams) (c n : ℕ) → From x columns c → OwnWithin fs columns c n → (structs : List (List Cell)) × SpellsFields fs x structs × (length structs ≡ n)
  structs_of no_field x columns c n e h = (replicate n [], plain_empty n, length-replicate n [])
  structs_of (field name s fs) x columns c n e h =
      let heads = rows_of s x columns c h.0.0 n e h.0.1 h.0.2 in
      let tails = structs_of fs (λ d. x (width s + d)) columns (c + width s) n (later_from x columns c (width s) e) h.1 in
      let alike = heads.2 ∙ sym tails.2 in (
        zip_cons heads.0 tails.0,
        record { heads = heads.0; tails = tails.0; alike = alike; parts = refl; first_spelled = heads.1; others_spelled = tails.1 },
        length-zip heads.0 tails.0 alike ∙ heads.2,
      )

pub rows_down : (s : Shape) (columns : ℕ → Streams) (n : ℕ) → OwnDown s columns 0 n → (rows : List Cell) × SpellsCells s columns rows × (length rows ≡ n)
rows_down s columns n h = rows_of s columns columns 0 h.0 n (from_start columns) h.1 h.2
