-- Cells of rows that stand one after the other, and of rows that fit.
use Rattle.std.proofs.Common.{◌≡◌, ℕ, zero, suc, ◌-◌, ◌<◌, ◌++◌, List, [], ◌∷◌, length, take, drop, map, Bool, true, false, refl, sym, ap, ◌∙◌, append_assoc, arith, inl, inr}
use Rattle.std.proofs.lemmas.Bool.{and_parts}
use Rattle.std.specs.List.{AllByRecursion, flat_map}
use Rattle.std.proofs.lemmas.List.{map-append}
use Rattle.std.proofs.lemmas.Bool.Decides.{leb_tells}
use Rattle.orc_values.specs.Shapes.{Shape, scalar, list_of, map_of, struct_of, Fields, no_field, field, width, widths, shape_at, shape_within}
use Rattle.orc_values.specs.Cells.{Cell, null, leaf, list, struct, pairs, Cells, end, more, Pairs, no_pair, pair, cells_of, list_of_cells, list_of_pairs, parts, values, keys_in, values_in, is_value}
use Rattle.orc_values.specs.Columns.{cells, cells_within}
use Rattle.orc_values.specs.Fits.{fits, all_fit, each_fits, pairs_fit, RowsFit}
use Rattle.orc_values.proofs.Views.{cells_of-list_of_cells}
use Rattle.orc_values.proofs.Lists.{all_append}

-- ---- one after the other

pub values-append : (a b : List Cell) → values (a ++ b) ≡ values a ++ values b
values-append [] b = refl
values-append (null ∷ a) b = values-append a b
values-append (leaf x ∷ a) b = ap (λ cs. leaf x ∷ cs) (values-append a b)
values-append (list xs ∷ a) b = ap (λ cs. list xs ∷ cs) (values-append a b)
values-append (struct xs ∷ a) b = ap (λ cs. struct xs ∷ cs) (values-append a b)
values-append (pairs ps ∷ a) b = ap (λ cs. pairs ps ∷ cs) (values-append a b)

pub flat_map-append : {X Y : Type 0} (f : X → List Y) (a b : List X) → flat_map f (a ++ b) ≡ flat_map f a ++ flat_map f b
flat_map-append f [] b = refl
flat_map-append f (x ∷ a) b = ap (λ ys. f x ++ ys) (flat_map-append f a b) ∙ sym (append_assoc (f x) (flat_map f a) (flat_map f b))

pub elements-append : (a b : List Cell) → flat_map parts (values (a ++ b)) ≡ flat_map parts (values a) ++ flat_map parts (values b)
elements-append a b = ap (flat_map parts) (values-append a b) ∙ flat_map-append parts (values a) (values b)

pub structs-append : (a b : List Cell) → map parts (values (a ++ b)) ≡ map parts (values a) ++ map parts (values b)
structs-append a b = ap (map parts) (values-append a b) ∙ map-append parts (values a) (values b)

pub keys-append : (a b : List Cell) → flat_map keys_in (values (a ++ b)) ≡ flat_map keys_in (values a) ++ flat_map keys_in (values b)
keys-append a b = ap (flat_map keys_in) (values-append a b) ∙ flat_map-append keys_in (values a) (values b)

pub map_values-append : (a b : List Cell) → flat_map values_in (values (a ++ b)) ≡ flat_map values_in (values a) ++ flat_map values_in (values b)
map_values-append a b = ap (flat_map values_in) (values-append a b) ∙ flat_map-append values_in (values a) (values b)

mutual
  pub cells-append : (s : Shape) (c : ℕ) (a b : List Cell) → cells s c (a ++ b) ≡ cells s c a ++ cells s c b
  cells-append (scalar k o) c a b = refl
  cells-append (list_of s o) zero a b = refl
  cells-append (list_of s o) (suc c) a b = ap (cells s c) (elements-append a b) ∙ cells-append s c (flat_map parts (values a)) (flat_map parts (values b))
  cells-append (map_of k v o) zero a b = refl
  cells-append (map_of k v o) (suc c) a b =
      elim (leb_tells (suc c) (width k)) [
        | inl p ↦ rw p.0 (ap (cells k c) (keys-append a b) ∙ cells-append k c (flat_map keys_in (values a)) (flat_map keys_in (values b)))
        | inr p ↦ rw p.0 (ap (cells v (c - width k)) (map_values-append a b) ∙ cells-append v (c - width k) (flat_map values_in (values a)) (flat_map values_in (values b)))
      ]
  cells-append (struct_of fs o) zero a b = refl
  cells-append (struct_of fs o) (suc c) a b = ap (cells_within fs c) (structs-append a b) ∙ cells_within-append fs c (map parts (values a)) (map parts (values b))

  pub cells_within-append : (fs : Fields) (c : ℕ) (a b : List (List Cell)) → cells_within fs c (a ++ b) ≡ cells_within fs c a ++ cells_within fs c b
  cells_within-append no_field c a b = refl
  cells_within-append (field name s fs) c a b =
      elim (leb_tells (suc c) (width s)) [
        | inl p ↦ rw p.0 (ap (cells s c) (flat_map-append (take 1) a b) ∙ cells-append s c (flat_map (take 1) a) (flat_map (take 1) b))
        | inr p ↦ rw p.0 (ap (cells_within fs (c - width s)) (map-append (drop 1) a b) ∙ cells_within-append fs (c - width s) (map (drop 1) a) (map (drop 1) b))
      ]

-- ---- rows that fit

-- the fields of each struct are rows of the fields
abbrev pub StructsFit : Fields → List (List Cell) → Type 0
StructsFit fs structs = AllByRecursion (λ x. each_fits (cells_of x) fs ≡ true) structs

list_fits : (cs : Cells) (s : Shape) → all_fit cs s ≡ true → RowsFit s (list_of_cells cs)
list_fits end s h = tt
list_fits (more c cs) s h = let p = and_parts (fits c s) (all_fit cs s) h in (p.0, list_fits cs s p.1)

-- the elements of lists that fit are rows of their type
pub elements_fit : (s : Shape) (o : List ℕ) (rows : List Cell) → RowsFit (list_of s o) rows → RowsFit s (flat_map parts (values rows))
elements_fit s o [] h = tt
elements_fit s o (null ∷ rows) h = elements_fit s o rows h.1
elements_fit s o (leaf a ∷ rows) h = let wrong = h.0 in cc
elements_fit s o (list cs ∷ rows) h = all_append (λ c. fits c s ≡ true) (list_of_cells cs) (flat_map parts (values rows)) (list_fits cs s h.0) (elements_fit s o rows h.1)
elements_fit s o (struct cs ∷ rows) h = let wrong = h.0 in cc
elements_fit s o (pairs ps ∷ rows) h = let wrong = h.0 in cc

keys_all : (ps : Pairs) (k v : Shape) → pairs_fit ps k v ≡ true → RowsFit k (map (λ p. p.0) (list_of_pairs ps))
keys_all no_pair k v h = tt
keys_all (pair x y ps) k v h =
    let p = and_parts (fits x k) _ h in
    (p.0, keys_all ps k v (and_parts (fits y v) (pairs_fit ps k v) p.1).1)

values_all : (ps : Pairs) (k v : Shape) → pairs_fit ps k v ≡ true → RowsFit v (map (λ p. p.1) (list_of_pairs ps))
values_all no_pair k v h = tt
values_all (pair x y ps) k v h =
    let p = and_parts (fits x k) _ h in
    let q = and_parts (fits y v) (pairs_fit ps k v) p.1 in
    (q.0, values_all ps k v q.1)

-- the keys of maps that fit are rows of their type
pub keys_fit : (k v : Shape) (o : List ℕ) (rows : List Cell) → RowsFit (map_of k v o) rows → RowsFit k (flat_map keys_in (values rows))
keys_fit k v o [] h = tt
keys_fit k v o (null ∷ rows) h = keys_fit k v o rows h.1
keys_fit k v o (leaf a ∷ rows) h = let wrong = h.0 in cc
keys_fit k v o (list cs ∷ rows) h = let wrong = h.0 in cc
keys_fit k v o (struct cs ∷ rows) h = let wrong = h.0 in cc
keys_fit k v o (pairs ps ∷ rows) h = all_append (λ c. fits c k ≡ true) (keys_in (pairs ps)) (flat_map keys_in (values rows)) (keys_all ps k v h.0) (keys_fit k v o rows h.1)

pub values_fit : (k v : Shape) (o : List ℕ) (rows : List Cell) → RowsFit (map_of k v o) rows → RowsFit v (flat_map values_in (values rows))
values_fit k v o [] h = tt
values_fit k v o (null ∷ rows) h = values_fit k v o rows h.1
values_fit k v o (leaf a ∷ rows) h = let wrong = h.0 in cc
values_fit k v o (list cs ∷ rows) h = let wrong = h.0 in cc
values_fit k v o (struct cs ∷ rows) h = let wrong = h.0 in cc
values_fit k v o (pairs ps ∷ rows) h = all_append (λ c. fits c v ≡ true) (values_in (pairs ps)) (flat_map values_in (values rows)) (values_all ps k v h.0) (values_fit k v o rows h.1)

-- the structs that fit have fields that fit
pub structs_fit : (fs : Fields) (o : List ℕ) (rows : List Cell) → RowsFit (struct_of fs o) rows → StructsFit fs (map parts (values rows))
structs_fit fs o [] h = tt
structs_fit fs o (null ∷ rows) h = structs_fit fs o rows h.1
structs_fit fs o (leaf a ∷ rows) h = let wrong = h.0 in cc
structs_fit fs o (list cs ∷ rows) h = let wrong = h.0 in cc
structs_fit fs o (pairs ps ∷ rows) h = let wrong = h.0 in cc
structs_fit fs o (struct cs ∷ rows) h = (ap (λ (x : Cells). each_fits x fs) (cells_of-list_of_cells cs) ∙ h.0, structs_fit fs o rows h.1)

pub heads_fit : (name : List ℕ) (s : Shape) (fs : Fields) (structs : List (List Cell)) → StructsFit (field name s fs) structs → RowsFit s (flat_map (take 1) structs)
heads_fit name s fs [] h = tt
heads_fit name s fs ([] ∷ structs) h = let wrong = h.0 in cc
heads_fit name s fs ((c ∷ cs) ∷ structs) h = ((and_parts (fits c s) (each_fits (cells_of cs) fs) h.0).0, heads_fit name s fs structs h.1)

pub tails_fit : (name : List ℕ) (s : Shape) (fs : Fields) (structs : List (List Cell)) → StructsFit (field name s fs) structs → StructsFit fs (map (drop 1) structs)
tails_fit name s fs [] h = tt
tails_fit name s fs ([] ∷ structs) h = let wrong = h.0 in cc
tails_fit name s fs ((c ∷ cs) ∷ structs) h = ((and_parts (fits c s) (each_fits (cells_of cs) fs) h.0).1, tails_fit name s fs structs h.1)

-- structs that fit have each field once
pub heads-length : (name : List ℕ) (s : Shape) (fs : Fields) (structs : List (List Cell)) → StructsFit (field name s fs) structs → length (flat_map (take 1) structs) ≡ length structs
heads-length name s fs [] h = refl
heads-length name s fs ([] ∷ structs) h = let wrong = h.0 in cc
heads-length name s fs ((c ∷ cs) ∷ structs) h = ap suc (heads-length name s fs structs h.1)

mutual
  pub cells_fit : (s : Shape) (c : ℕ) (rows : List Cell) → c < width s → RowsFit s rows → RowsFit (shape_at s c) (cells s c rows)
  cells_fit (scalar k o) c rows w h = h
  cells_fit (list_of s o) zero rows w h = h
  cells_fit (list_of s o) (suc c) rows w h = cells_fit s c (flat_map parts (values rows)) (omega arith) (elements_fit s o rows h)
  cells_fit (map_of k v o) zero rows w h = h
  cells_fit (map_of k v o) (suc c) rows w h =
      elim (leb_tells (suc c) (width k)) [
        | inl p ↦ rw p.0 (cells_fit k c (flat_map keys_in (values rows)) p.1 (keys_fit k v o rows h))
        | inr p ↦ rw p.0 (cells_fit v (c - width k) (flat_map values_in (values rows)) (omega (arith, p.1)) (values_fit k v o rows h))
      ]
  cells_fit (struct_of fs o) zero rows w h = h
  cells_fit (struct_of fs o) (suc c) rows w h = within_fit fs c (map parts (values rows)) (omega arith) (structs_fit fs o rows h)

  pub within_fit : (fs : Fields) (c : ℕ) (structs : List (List Cell)) → c < widths fs → StructsFit fs structs → RowsFit (shape_within fs c) (cells_within fs c structs)
  within_fit no_field c structs w h = absurd (omega arith)
  within_fit (field name s fs) c structs w h =
      elim (leb_tells (suc c) (width s)) [
        | inl p ↦ rw p.0 (cells_fit s c (flat_map (take 1) structs) p.1 (heads_fit name s fs structs h))
        | inr p ↦ rw p.0 (within_fit fs (c - width s) (map (drop 1) structs) (omega (arith, p.1)) (tails_fit name s fs structs h))
      ]

-- ---- open and close: what stands below determines what stands above

by_mark : (t : Bool) (x y : Cell) (a b : List Cell) → is_value x ≡ t → is_value y ≡ t → values (x ∷ a) ≡ values (y ∷ b) → (values a ≡ values b → a ≡ b) → x ∷ a ≡ y ∷ b
by_mark true x y a b p q v rest =
    let e : x ∷ values a ≡ y ∷ values b = rw (p, q) at v in
    let first : x ≡ y = cc in
    let later : values a ≡ values b = cc in
    rw (first, rest later) refl
by_mark false null null a b p q v rest = ap (λ cs. null ∷ cs) (rest v)
by_mark false null (leaf y) a b p q v rest = cc
by_mark false null (list y) a b p q v rest = cc
by_mark false null (struct y) a b p q v rest = cc
by_mark false null (pairs y) a b p q v rest = cc
by_mark false (leaf x) y a b p q v rest = cc
by_mark false (list x) y a b p q v rest = cc
by_mark false (struct x) y a b p q v rest = cc
by_mark false (pairs x) y a b p q v rest = cc

-- which cells are null, and the others, determine the cells
pub same_cells : (a b : List Cell) → map is_value a ≡ map is_value b → values a ≡ values b → a ≡ b
same_cells [] [] m v = refl
same_cells [] (y ∷ b) m v = cc
same_cells (x ∷ a) [] m v = cc
same_cells (x ∷ a) (y ∷ b) m v =
    let first : is_value x ≡ is_value y = cc in
    let later : map is_value a ≡ map is_value b = cc in
    by_mark (is_value y) x y a b first refl v (λ e. same_cells a b later e)

-- all cells are lists
abbrev pub AreLists : List Cell → Type 0
AreLists [] = Unit {0}
AreLists (null ∷ cs) = ⊥
AreLists (leaf a ∷ cs) = ⊥
AreLists (list xs ∷ cs) = AreLists cs
AreLists (struct xs ∷ cs) = ⊥
AreLists (pairs ps ∷ cs) = ⊥

record Split (a b x y : List Cell) : Type 0 where
  front : a ≡ b
  rest : x ≡ y

split : (a b x y : List Cell) → length a ≡ length b → a ++ x ≡ b ++ y → Split a b x y
split [] [] x y n e = record { front = refl; rest = e }
split [] (d ∷ b) x y n e = absurd (omega (arith, n))
split (c ∷ a) [] x y n e = absurd (omega (arith, n))
split (c ∷ a) (d ∷ b) x y n e =
    let first : c ≡ d = cc in
    let later : a ++ x ≡ b ++ y = cc in
    let s = split a b x y (omega (arith, n)) later in
    record { front = rw (first, s.front) refl; rest = s.rest }

-- the lengths of lists and their elements, joined, determine the lists
pub same_lists : (a b : List Cell) → AreLists a → AreLists b → map (λ c. length (parts c)) a ≡ map (λ c. length (parts c)) b → flat_map parts a ≡ flat_map parts b → a ≡ b
same_lists [] [] p q n e = refl
same_lists [] (y ∷ b) p q n e = cc
same_lists (x ∷ a) [] p q n e = cc
same_lists (null ∷ a) (y ∷ b) p q n e = absurd p
same_lists (leaf x ∷ a) (y ∷ b) p q n e = absurd p
same_lists (struct x ∷ a) (y ∷ b) p q n e = absurd p
same_lists (pairs x ∷ a) (y ∷ b) p q n e = absurd p
same_lists (list x ∷ a) (null ∷ b) p q n e = absurd q
same_lists (list x ∷ a) (leaf y ∷ b) p q n e = absurd q
same_lists (list x ∷ a) (struct y ∷ b) p q n e = absurd q
same_lists (list x ∷ a) (pairs y ∷ b) p q n e = absurd q
same_lists (list x ∷ a) (list y ∷ b) p q n e =
    let first : length (list_of_cells x) ≡ length (list_of_cells y) = cc in
    let later : map (λ c. length (parts c)) a ≡ map (λ c. length (parts c)) b = cc in
    let s = split (list_of_cells x) (list_of_cells y) (flat_map parts a) (flat_map parts b) first e in
    let same : x ≡ y = sym (cells_of-list_of_cells x) ∙ ap cells_of s.front ∙ cells_of-list_of_cells y in
    rw (same, same_lists a b p q later s.rest) refl

-- all lists have a first element
abbrev pub HaveFirst : List (List Cell) → Type 0
HaveFirst [] = Unit {0}
HaveFirst ([] ∷ xss) = ⊥
HaveFirst ((c ∷ cs) ∷ xss) = HaveFirst xss

-- the first fields of structs and the others determine the structs
pub same_structs : (a b : List (List Cell)) → HaveFirst a → HaveFirst b → flat_map (take 1) a ≡ flat_map (take 1) b → map (drop 1) a ≡ map (drop 1) b → a ≡ b
same_structs [] [] p q h t = refl
same_structs [] (y ∷ b) p q h t = cc
same_structs (x ∷ a) [] p q h t = cc
same_structs ([] ∷ a) (y ∷ b) p q h t = absurd p
same_structs ((c ∷ cs) ∷ a) ([] ∷ b) p q h t = absurd q
same_structs ((c ∷ cs) ∷ a) ((d ∷ ds) ∷ b) p q h t =
    let first : c ≡ d = cc in
    let firsts : flat_map (take 1) a ≡ flat_map (take 1) b = cc in
    let rest : cs ≡ ds = cc in
    let rests : map (drop 1) a ≡ map (drop 1) b = cc in
    rw (first, rest, same_structs a b p q firsts rests) refl
