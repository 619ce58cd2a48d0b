-- A front of what is spelled, for each way of spelling.
use Rattle.std.proofs.Common.{◌≡◌, ℕ, zero, suc, ◌+◌, ◌-◌, ◌<◌, ◌≤◌, ℤ, Bool, List, [], ◌∷◌, ◌++◌, map, length, refl, sym, ap, ◌∙◌, subst, arith, append_assoc, length-append}
use Rattle.std.specs.List.{AllZip}
use Rattle.std.proofs.lemmas.List.{length-map, map-append}
use Rattle.orc_values.specs.Cells.{Cell, null, leaf, list, struct, pairs, is_value, values}
use Rattle.orc_values.specs.Trues.{trues}
use Rattle.orc_column_reader.specs.Fronts.{Leaves, Lacks}
use Rattle.orc_column_reader.specs.Spellings.{Nullable, Standing, size, concatenated, Sized, Within, Paired, zip_cons, Fielded}
use Rattle.orc_values.proofs.Together.{values-append, same_cells}

-- nothing was taken
pub nothing : {X : Type 0} (before : List X → Type 0) → Leaves before before []
nothing before = record { found = λ rest r. r; only = λ all r h. (all, refl, r) }

-- one front after another
pub one_after_other : {X : Type 0} (before between after : List X → Type 0) (a b : List X) → Leaves before between a → Leaves between after b → Leaves before after (a ++ b)
one_after_other before between after a b p q = record {
  found = λ rest r. subst before (sym (append_assoc a b rest)) (p.found (b ++ rest) (q.found rest r));
  only = λ all r h.
      let i = p.only all r (omega (arith, h, length-append a b)) in
      let j = q.only i.0 i.2 (omega (arith, h, length-append a b, length-append a i.0, ap length i.1)) in
      (j.0, i.1 ∙ ap (λ t. a ++ t) j.1 ∙ sym (append_assoc a b j.0), j.2);
}

-- behind a front there is too little
pub lacks_after : {X : Type 0} (before between : List X → Type 0) (a : List X) (n : ℕ) → Leaves before between a → Lacks between n → Lacks before (length a + n)
lacks_after before between a n p q = λ all r h.
    let i = p.only all r (omega (arith, h)) in
    q i.0 i.2 (omega (arith, h, length-append a i.0, ap length i.1))

pub lacks_more : {X : Type 0} (before : List X → Type 0) (m n : ℕ) → m ≤ n → Lacks before m → Lacks before n
lacks_more before m n le p = λ all r h. p all r (omega (arith, le, h))

-- ---- lists that are cut at the same place

pub record Pieces {X : Type 0} (a b x y : List X) : Type 0 where
  pub front : a ≡ b
  pub back : x ≡ y

pub same_pieces : {X : Type 0} (a b x y : List X) → length a ≡ length b → a ++ x ≡ b ++ y → Pieces a b x y
same_pieces [] [] x y l e = record { front = refl; back = e }
same_pieces [] (c ∷ b) x y l e = absurd (omega (arith, l))
same_pieces (c ∷ a) [] x y l e = absurd (omega (arith, l))
same_pieces (c ∷ a) (d ∷ b) x y l e =
    let h : c ≡ d = cc in
    let t : a ++ x ≡ b ++ y = cc in
    let p = same_pieces a b x y (omega (arith, l)) t in
    record { front = ap (λ z. z ∷ a) h ∙ ap (λ z. d ∷ z) p.front; back = p.back }

pub record Cut {X : Type 0} (all : List X) (n : ℕ) : Type 0 where
  pub front : List X
  pub back : List X
  pub parts : all ≡ front ++ back
  pub counted : length front ≡ n

pub cut : {X : Type 0} (all : List X) (n : ℕ) → n ≤ length all → Cut all n
cut all zero h = record { front = []; back = all; parts = refl; counted = refl }
cut [] (suc n) h = absurd (omega arith)
cut (x ∷ all) (suc n) h =
    let c = cut all n (omega arith) in
    record { front = x ∷ c.front; back = c.back; parts = ap (λ t. x ∷ t) c.parts; counted = omega (arith, c.counted) }

-- ---- values that stand for things

pub stand_length : {X Y : Type 0} (stands : X → Y → Type 0) (xs : List X) (ys : List Y) → AllZip stands xs ys → length xs ≡ length ys
stand_length stands [] [] h = refl
stand_length stands [] (y ∷ ys) h = absurd h
stand_length stands (x ∷ xs) [] h = absurd h
stand_length stands (x ∷ xs) (y ∷ ys) h = omega (arith, stand_length stands xs ys h.1)

pub stand_append : {X Y : Type 0} (stands : X → Y → Type 0) (a b : List X) (c d : List Y) → AllZip stands a c → AllZip stands b d → AllZip stands (a ++ b) (c ++ d)
stand_append stands [] b [] d h k = k
stand_append stands [] b (y ∷ c) d h k = absurd h
stand_append stands (x ∷ a) b [] d h k = absurd h
stand_append stands (x ∷ a) b (y ∷ c) d h k = (h.0, stand_append stands a b c d h.1 k)

-- what stands for a list in two pieces
pub record StandApart {X Y : Type 0} (stands : X → Y → Type 0) (a b : List X) (all : List Y) : Type 0 where
  pub front : List Y
  pub back : List Y
  pub parts : all ≡ front ++ back
  pub first : AllZip stands a front
  pub second : AllZip stands b back

pub stand_apart : {X Y : Type 0} (stands : X → Y → Type 0) (a b : List X) (all : List Y) → AllZip stands (a ++ b) all → StandApart stands a b all
stand_apart stands [] b all h = record { front = []; back = all; parts = refl; first = tt; second = h }
stand_apart stands (x ∷ a) b [] h = absurd h
stand_apart stands (x ∷ a) b (y ∷ all) h =
    let k = stand_apart stands a b all h.1 in
    record { front = y ∷ k.front; back = k.back; parts = ap (λ t. y ∷ t) k.parts; first = (h.0, k.first); second = k.second }

pub one_standing : {X Y : Type 0} (stands : X → Y → Type 0) → ((x : X) (y z : Y) → stands x y → stands x z → y ≡ z) → (xs : List X) (ys zs : List Y) → AllZip stands xs ys → AllZip stands xs zs → ys ≡ zs
one_standing stands one [] [] [] h k = refl
one_standing stands one [] [] (z ∷ zs) h k = absurd k
one_standing stands one [] (y ∷ ys) zs h k = absurd h
one_standing stands one (x ∷ xs) [] zs h k = absurd h
one_standing stands one (x ∷ xs) (y ∷ ys) [] h k = absurd k
one_standing stands one (x ∷ xs) (y ∷ ys) (z ∷ zs) h k = ap (λ t. t ∷ ys) (one x y z h.0 k.0) ∙ ap (λ t. z ∷ t) (one_standing stands one xs ys zs h.1 k.1)

pub standing_leaves : {X Y : Type 0} (stands : X → Y → Type 0) → ((x : X) (y z : Y) → stands x y → stands x z → y ≡ z) → (before after : List X → Type 0) (xs : List X) (ys : List Y)
    → AllZip stands xs ys → Leaves before after xs → Leaves (Standing stands before) (Standing stands after) ys
standing_leaves stands one before after xs ys h p = record {
  found = λ rest r. (xs ++ r.0, stand_append stands xs r.0 ys rest h r.1, p.found r.0 r.2);
  only = λ all r le.
      let i = p.only r.0 r.2 (omega (arith, le, stand_length stands xs ys h, stand_length stands r.0 all r.1)) in
      let k = stand_apart stands xs i.0 all (subst (λ t. AllZip stands t all) i.1 r.1) in
      (k.back, k.parts ∙ ap (λ t. t ++ k.back) (one_standing stands one xs k.front ys k.first h), (i.0, k.second, i.2));
}

pub standing_lacks : {X Y : Type 0} (stands : X → Y → Type 0) (before : List X → Type 0) (n : ℕ) → Lacks before n → Lacks (Standing stands before) n
standing_lacks stands before n p = λ all r le. p r.0 r.2 (omega (arith, le, stand_length stands r.0 all r.1))

-- nothing stands for those in front
pub none_stands : {X Y : Type 0} (stands : X → Y → Type 0) (before after : List X → Type 0) (xs : List X) → Leaves before after xs → ((ys : List Y) → AllZip stands xs ys → ⊥) → Lacks (Standing stands before) (length xs)
none_stands stands before after xs p none = λ all r le.
    let i = p.only r.0 r.2 (omega (arith, le, stand_length stands r.0 all r.1)) in
    let k = stand_apart stands xs i.0 all (subst (λ t. AllZip stands t all) i.1 r.1) in
    none k.front k.first

-- ---- groups

pub joined-append : {X : Type 0} (a b : List (List X)) → concatenated (a ++ b) ≡ concatenated a ++ concatenated b
joined-append [] b = refl
joined-append (x ∷ a) b = ap (λ t. x ++ t) (joined-append a b) ∙ sym (append_assoc x (concatenated a) (concatenated b))

size_same : {X : Type 0} (a b : List X) → size a ≡ size b → length a ≡ length b
size_same a b e = cc

-- groups of the same sizes are cut at the same places
pub same_groups : {X : Type 0} (a b : List (List X)) (x y : List X) → map size a ≡ map size b → concatenated a ++ x ≡ concatenated b ++ y → (a ≡ b) × (x ≡ y)
same_groups [] [] x y s e = (refl, e)
same_groups [] (d ∷ b) x y s e = cc
same_groups (c ∷ a) [] x y s e = cc
same_groups (c ∷ a) (d ∷ b) x y s e =
    let h : size c ≡ size d = cc in
    let t : map size a ≡ map size b = cc in
    let p = same_pieces c d (concatenated a ++ x) (concatenated b ++ y) (size_same c d h) (sym (append_assoc c (concatenated a) x) ∙ e ∙ append_assoc d (concatenated b) y) in
    let q = same_groups a b x y t p.back in
    (ap (λ z. z ∷ a) p.front ∙ ap (λ z. d ∷ z) q.0, q.1)

pub joined_length : {X Y : Type 0} (a : List (List X)) (b : List (List Y)) → map size a ≡ map size b → length (concatenated a) ≡ length (concatenated b)
joined_length [] [] s = refl
joined_length [] (d ∷ b) s = cc
joined_length (c ∷ a) [] s = cc
joined_length (c ∷ a) (d ∷ b) s =
    let h : size c ≡ size d = cc in
    let t : map size a ≡ map size b = cc in
    let l : length c ≡ length d = cc in
    omega (arith, l, joined_length a b t, length-append c (concatenated a), length-append d (concatenated b))

-- the strings in front, by their sizes
pub record GroupsApart {X : Type 0} (all : List (List X)) (sizes more : List ℤ) : Type 0 where
  pub front : List (List X)
  pub back : List (List X)
  pub parts : all ≡ front ++ back
  pub front_sizes : map size front ≡ sizes
  pub back_sizes : map size back ≡ more

pub groups_apart : {X : Type 0} (all : List (List X)) (sizes more : List ℤ) → map size all ≡ sizes ++ more → GroupsApart all sizes more
groups_apart all sizes more e =
    let c = cut all (length sizes) (omega (arith, ap length e, length-map all size, length-append sizes more)) in
    let p = same_pieces (map size c.front) sizes (map size c.back) more (length-map c.front size ∙ c.counted) (sym (map-append size c.front c.back) ∙ ap (map size) (sym c.parts) ∙ e) in
    record { front = c.front; back = c.back; parts = c.parts; front_sizes = p.front; back_sizes = p.back }

pub grouped_leaves : {X : Type 0} (sizes sizes' : List ℤ → Type 0) (elements elements' : List X → Type 0) (byte_strings : List (List X))
    → Leaves sizes sizes' (map size byte_strings) → Leaves elements elements' (concatenated byte_strings) → Leaves (Sized sizes elements) (Sized sizes' elements') byte_strings
grouped_leaves sizes sizes' elements elements' byte_strings p q = record {
  found = λ rest r.
      (subst sizes (sym (map-append size byte_strings rest)) (p.found (map size rest) r.0), subst elements (sym (joined-append byte_strings rest)) (q.found (concatenated rest) r.1));
  only = λ all r le.
      let i = p.only (map size all) r.0 (omega (arith, le, length-map all size, length-map byte_strings size)) in
      let g = groups_apart all (map size byte_strings) i.0 i.1 in
      let e = ap concatenated g.parts ∙ joined-append g.front g.back in
      let j = q.only (concatenated all) r.1 (omega (arith, ap length e, length-append (concatenated g.front) (concatenated g.back), joined_length g.front byte_strings g.front_sizes)) in
      let s = same_groups g.front byte_strings (concatenated g.back) j.0 g.front_sizes (sym e ∙ j.1) in
      (g.back, g.parts ∙ ap (λ t. t ++ g.back) s.0, (subst sizes' (sym g.back_sizes) i.2, subst elements' (sym s.1) j.2));
}

pub grouped_lacks_sizes : {X : Type 0} (sizes : List ℤ → Type 0) (elements : List X → Type 0) (n : ℕ) → Lacks sizes n → Lacks (Sized sizes elements) n
grouped_lacks_sizes sizes elements n p = λ all r le. p (map size all) r.0 (omega (arith, le, length-map all size))

-- ---- cells, some of them null

pub length-values : (cs : List Cell) → length (values cs) ≡ trues (map is_value cs)
length-values [] = refl
length-values (null ∷ cs) = length-values cs
length-values (leaf x ∷ cs) = omega (arith, length-values cs)
length-values (list x ∷ cs) = omega (arith, length-values cs)
length-values (struct x ∷ cs) = omega (arith, length-values cs)
length-values (pairs x ∷ cs) = omega (arith, length-values cs)

-- the cells in front, by their marks
pub record CellsApart (all : List Cell) (marks more : List Bool) : Type 0 where
  pub front : List Cell
  pub back : List Cell
  pub parts : all ≡ front ++ back
  pub front_marks : map is_value front ≡ marks
  pub back_marks : map is_value back ≡ more

pub cells_apart : (all : List Cell) (marks more : List Bool) → map is_value all ≡ marks ++ more → CellsApart all marks more
cells_apart all marks more e =
    let c = cut all (length marks) (omega (arith, ap length e, length-map all is_value, length-append marks more)) in
    let p = same_pieces (map is_value c.front) marks (map is_value c.back) more (length-map c.front is_value ∙ c.counted) (sym (map-append is_value c.front c.back) ∙ ap (map is_value) (sym c.parts) ∙ e) in
    record { front = c.front; back = c.back; parts = c.parts; front_marks = p.front; back_marks = p.back }

pub nullable_leaves : (marks marks' : List Bool → Type 0) (found found' : List Cell → Type 0) (ms : List Bool) (vs cells : List Cell) → map is_value cells ≡ ms → values cells ≡ vs
    → Leaves marks marks' ms → Leaves found found' vs → Leaves (Nullable marks found) (Nullable marks' found') cells
nullable_leaves marks marks' found found' ms vs cells em ev p q = record {
  found = λ rest r. (
    subst marks (ap (λ t. t ++ map is_value rest) (sym em) ∙ sym (map-append is_value cells rest)) (p.found (map is_value rest) r.0),
    subst found (ap (λ t. t ++ values rest) (sym ev) ∙ sym (values-append cells rest)) (q.found (values rest) r.1),
  );
  only = λ all r le.
      let i = p.only (map is_value all) r.0 (omega (arith, le, ap length em, length-map cells is_value, length-map all is_value)) in
      let c = cells_apart all ms i.0 i.1 in
      let e = ap values c.parts ∙ values-append c.front c.back in
      let count : length (values c.front) ≡ length vs = length-values c.front ∙ ap trues (c.front_marks ∙ sym em) ∙ sym (length-values cells) ∙ ap length ev in
      let j = q.only (values all) r.1 (omega (arith, count, ap length e, length-append (values c.front) (values c.back))) in
      let s = same_pieces (values c.front) vs (values c.back) j.0 count (sym e ∙ j.1) in
      (c.back, c.parts ∙ ap (λ t. t ++ c.back) (same_cells c.front cells (c.front_marks ∙ sym em) (s.front ∙ sym ev)), (subst marks' (sym c.back_marks) i.2, subst found' (sym s.back) j.2));
}

pub nullable_lacks_marks : (marks : List Bool → Type 0) (found : List Cell → Type 0) (n : ℕ) → Lacks marks n → Lacks (Nullable marks found) n
nullable_lacks_marks marks found n p = λ all r le. p (map is_value all) r.0 (omega (arith, le, length-map all is_value))

pub nullable_lacks_values : (marks marks' : List Bool → Type 0) (found : List Cell → Type 0) (ms : List Bool) → Leaves marks marks' ms → Lacks found (trues ms) → Lacks (Nullable marks found) (length ms)
nullable_lacks_values marks marks' found ms p q = λ all r le.
    let i = p.only (map is_value all) r.0 (omega (arith, le, length-map all is_value)) in
    let c = cells_apart all ms i.0 i.1 in
    let e = ap values c.parts ∙ values-append c.front c.back in
    q (values all) r.1 (omega (arith, length-values c.front, ap trues c.front_marks, ap length e, length-append (values c.front) (values c.back)))

-- ---- structs

pub zip-append : {X : Type 0} (a b : List X) (c d : List (List X)) → length a ≡ length c → zip_cons (a ++ b) (c ++ d) ≡ zip_cons a c ++ zip_cons b d
zip-append [] b [] d l = refl
zip-append [] b (y ∷ c) d l = absurd (omega (arith, l))
zip-append (x ∷ a) b [] d l = absurd (omega (arith, l))
zip-append (x ∷ a) b (y ∷ c) d l = ap (λ t. (x ∷ y) ∷ t) (zip-append a b c d (omega (arith, l)))

pub length-zip : {X : Type 0} (a : List X) (c : List (List X)) → length a ≡ length c → length (zip_cons a c) ≡ length a
length-zip [] c l = refl
length-zip (x ∷ a) [] l = absurd (omega (arith, l))
length-zip (x ∷ a) (y ∷ c) l = omega (arith, length-zip a c (omega (arith, l)))

pub fielded_leaves : {X : Type 0} (first first' : List X → Type 0) (others others' : List (List X) → Type 0) (heads : List X) (tails : List (List X)) → length heads ≡ length tails
    → Leaves first first' heads → Leaves others others' tails → Leaves (Fielded first others) (Fielded first' others') (zip_cons heads tails)
fielded_leaves first first' others others' heads tails l p q = record {
  found = λ rest r. record {
    heads = heads ++ r.heads;
    tails = tails ++ r.tails;
    alike = omega (arith, l, r.alike, length-append heads r.heads, length-append tails r.tails);
    parts = ap (λ t. zip_cons heads tails ++ t) r.parts ∙ sym (zip-append heads r.heads tails r.tails l);
    first_spelled = p.found r.heads r.first_spelled;
    others_spelled = q.found r.tails r.others_spelled;
  };
  only = λ all r le.
      let n = ap length r.parts ∙ length-zip r.heads r.tails r.alike in
      let i = p.only r.heads r.first_spelled (omega (arith, le, n, length-zip heads tails l)) in
      let j = q.only r.tails r.others_spelled (omega (arith, le, n, l, r.alike, length-zip heads tails l)) in
      let k = ap length i.1 ∙ length-append heads i.0 in
      let m = ap length j.1 ∙ length-append tails j.0 in (
        zip_cons i.0 j.0,
        r.parts ∙ ap (λ t. zip_cons t r.tails) i.1 ∙ ap (λ t. zip_cons (heads ++ i.0) t) j.1 ∙ zip-append heads i.0 tails j.0 l,
        record { heads = i.0; tails = j.0; alike = omega (arith, k, m, l, r.alike); parts = refl; first_spelled = i.2; others_spelled = j.2 },
      );
}

pub fielded_lacks_first : {X : Type 0} (first : List X → Type 0) (others : List (List X) → Type 0) (n : ℕ) → Lacks first n → Lacks (Fielded first others) n
fielded_lacks_first first others n p = λ all r le. p r.heads r.first_spelled (omega (arith, le, ap length r.parts, length-zip r.heads r.tails r.alike))

pub fielded_lacks_others : {X : Type 0} (first : List X → Type 0) (others : List (List X) → Type 0) (n : ℕ) → Lacks others n → Lacks (Fielded first others) n
fielded_lacks_others first others n p = λ all r le. p r.tails r.others_spelled (omega (arith, le, ap length r.parts, r.alike, length-zip r.heads r.tails r.alike))

-- ---- room

pub within_leaves : {X : Type 0} (room : ℕ) (elements elements' : List X → Type 0) (xs : List X) → length xs ≤ room → Leaves elements elements' xs → Leaves (Within room elements) (Within (room - length xs) elements') xs
within_leaves room elements elements' xs h p = record {
  found = λ rest r. (omega (arith, h, r.0, length-append xs rest), p.found rest r.1);
  only = λ all r le.
      let i = p.only all r.1 le in
      (i.0, i.1, (omega (arith, r.0, ap length i.1, length-append xs i.0), i.2));
}

pub within_lacks : {X : Type 0} (room n : ℕ) (elements : List X → Type 0) → Lacks elements n → Lacks (Within room elements) n
within_lacks room n elements p = λ all r le. p all r.1 le

pub no_room : {X : Type 0} (room n : ℕ) (elements : List X → Type 0) → room < n → Lacks (Within room elements) n
no_room room n elements h = λ all r le. omega (arith, h, r.0, le)

-- ---- pairs

-- the firsts and the seconds are all that there is
pub same_pairs : {X Y : Type 0} (a b : List (X × Y)) → map (λ p. p.0) a ≡ map (λ p. p.0) b → map (λ p. p.1) a ≡ map (λ p. p.1) b → a ≡ b
same_pairs [] [] h k = refl
same_pairs [] (q ∷ b) h k = cc
same_pairs (p ∷ a) [] h k = cc
same_pairs {X = X} {Y = Y} (p ∷ a) (q ∷ b) h k =
    let first : p.0 ≡ q.0 = cc in
    let second : p.1 ≡ q.1 = cc in
    let firsts : map (λ (r : X × Y). r.0) a ≡ map (λ (r : X × Y). r.0) b = cc in
    let seconds : map (λ (r : X × Y). r.1) a ≡ map (λ (r : X × Y). r.1) b = cc in
    let one : p ≡ q = ap (λ (x : X). (x, p.1)) first ∙ ap (λ (y : Y). (q.0, y)) second in
    ap (λ t. t ∷ a) one ∙ ap (λ t. q ∷ t) (same_pairs a b firsts seconds)

pub paired_leaves : {X Y : Type 0} (first first' : List X → Type 0) (second second' : List Y → Type 0) (front : List (X × Y)) → Leaves first first' (map (λ p. p.0) front) → Leaves second second' (map (λ p. p.1) front)
    → Leaves (Paired first second) (Paired first' second') front
paired_leaves {X = X} {Y = Y} first first' second second' front p q =
    let f : X × Y → X = λ r. r.0 in
    let g : X × Y → Y = λ r. r.1 in
    record {
      found = λ rest r. (subst first (sym (map-append f front rest)) (p.found (map f rest) r.0), subst second (sym (map-append g front rest)) (q.found (map g rest) r.1));
      only = λ all r le.
          let i = p.only (map f all) r.0 (omega (arith, le, length-map all f, length-map front f)) in
          let j = q.only (map g all) r.1 (omega (arith, le, length-map all g, length-map front g)) in
          let c = cut all (length front) le in
          let a = same_pieces (map f c.front) (map f front) (map f c.back) i.0 (length-map c.front f ∙ c.counted ∙ sym (length-map front f)) (sym (map-append f c.front c.back) ∙ ap (map f) (sym c.parts) ∙ i.1) in
          let b = same_pieces (map g c.front) (map g front) (map g c.back) j.0 (length-map c.front g ∙ c.counted ∙ sym (length-map front g)) (sym (map-append g c.front c.back) ∙ ap (map g) (sym c.parts) ∙ j.1) in
          (c.back, c.parts ∙ ap (λ t. t ++ c.back) (same_pairs c.front front a.front b.front), (subst first' (sym a.back) i.2, subst second' (sym b.back) j.2));
    }

-- ---- one after the other

-- of cells or pairs, where one more is lacking
pub cells_lacking : {X : Type 0} (before between : List X → Type 0) (cells : List X) (n count : ℕ)
    → length cells ≡ n → n < count → Leaves before between cells → Lacks between 1 → Lacks before count
cells_lacking before between cells n count e lt p q =
    lacks_more before (length cells + 1) count (omega (arith, e, lt)) (lacks_after before between cells 1 p q)
