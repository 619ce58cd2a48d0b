-- What the reader has still to give, by kinds.
use Rattle.std.proofs.Common.{◌≡◌, ℕ, ◌≤◌, ℤ, pos, negsuc, Bool, true, false, List, [], ◌∷◌, map, length, refl, sym, ap, ◌∙◌, subst, arith, append-nil, length-append}
use Rattle.std.specs.List.{AllByRecursion, AllZip}
use Rattle.orc_values.specs.Cells.{Cell, null, leaf, text, is_value}
use Rattle.orc_column_reader.specs.Fronts.{Leaves, Lacks}
use Rattle.orc_column_reader.specs.Spellings.{Nullable, Standing, size, concatenated, Sized}
use Rattle.orc_column_reader.specs.Columns.{IsBool, IsByte, IsInt, IsDate, IsText, IsBinary, IsEntry, IsList, IsMap, IsRecord}
use Rattle.orc_column_reader.proofs.Fronts.{standing_leaves, none_stands, grouped_leaves, nullable_leaves, nullable_lacks_values, nothing}
use Rattle.orc_values.proofs.Lists.{values_one}

-- one value stands for one thing
pub one_stands : {X : Type 0} (stands : X → Cell → Type 0) → ((x : X) (y z : Cell) → stands x y → stands x z → y ≡ z) → (before after : List X → Type 0) (x : X) (y : Cell)
    → stands x y → Leaves before after (x ∷ []) → Leaves (Standing stands before) (Standing stands after) (y ∷ [])
one_stands stands one before after x y h p = standing_leaves stands one before after (x ∷ []) (y ∷ []) (h, tt) p

pub nothing_stands : {X : Type 0} (stands : X → Cell → Type 0) (before after : List X → Type 0) (x : X) → Leaves before after (x ∷ []) → ((y : Cell) → stands x y → ⊥) → Lacks (Standing stands before) 1
nothing_stands {X = X} stands before after x p none = none_stands stands before after (x ∷ []) p (no_value none)
  where
    no_value : ((y : Cell) → stands x y → ⊥) → (ys : List Cell) → AllZip stands (x ∷ []) ys → ⊥
    no_value none [] h = absurd h
    no_value none (y ∷ ys) h = none y h.0

pub one_bool : (b : Bool) (y z : Cell) → IsBool b y → IsBool b z → y ≡ z
one_bool b y z p q = p ∙ sym q

pub one_byte : (b : ℕ) (y z : Cell) → IsByte b y → IsByte b z → y ≡ z
one_byte b y z p q = p.1 ∙ sym q.1

pub one_int : (k : _) (n : ℤ) (y z : Cell) → IsInt k n y → IsInt k n z → y ≡ z
one_int k n y z p q = p.1 ∙ sym q.1

pub one_date : (n : ℤ) (y z : Cell) → IsDate n y → IsDate n z → y ≡ z
one_date n y z p q = p.1 ∙ sym q.1

pub one_text : (bs : List ℕ) (y z : Cell) → IsText bs y → IsText bs z → y ≡ z
one_text bs y z p q = p.1 ∙ sym q.1

pub one_binary : (bs : List ℕ) (y z : Cell) → IsBinary bs y → IsBinary bs z → y ≡ z
one_binary bs y z p q = p.1 ∙ sym q.1

pub one_word : (entries : List (List ℕ)) (n : ℤ) (y z : Cell) → IsEntry entries n y → IsEntry entries n z → y ≡ z
one_word entries (pos i) y z p q =
    let e : p.0 ≡ q.0 = let a = p.1 in let b = q.1 in cc in
    p.2.1 ∙ ap (λ t. leaf (text t)) e ∙ sym q.2.1
one_word entries (negsuc i) y z p q = absurd p

pub one_list : (cs : List Cell) (y z : Cell) → IsList cs y → IsList cs z → y ≡ z
one_list cs y z p q = p ∙ sym q

pub one_map : (ps : List (Cell × Cell)) (y z : Cell) → IsMap ps y → IsMap ps z → y ≡ z
one_map ps y z p q = p ∙ sym q

pub one_record : (cs : List Cell) (y z : Cell) → IsRecord cs y → IsRecord cs z → y ≡ z
one_record cs y z p q = p ∙ sym q

-- ---- a group

pub group_leaves : {X : Type 0} (sizes sizes' : List ℤ → Type 0) (elements elements' : List X → Type 0) (k : ℕ) (xs : List X) → length xs ≡ k
    → Leaves sizes sizes' (pos k ∷ []) → Leaves elements elements' xs → Leaves (Sized sizes elements) (Sized sizes' elements') (xs ∷ [])
group_leaves sizes sizes' elements elements' k xs e p q =
    grouped_leaves sizes sizes' elements elements' (xs ∷ []) (subst (λ n. Leaves sizes sizes' (pos n ∷ [])) (sym e) p) (subst (λ t. Leaves elements elements' t) (sym (append-nil xs)) q)

size_is : {X : Type 0} (xs : List X) (k : ℕ) → size xs ≡ pos k → length xs ≡ k
size_is xs k e = cc

pub group_lacks : {X : Type 0} (sizes sizes' : List ℤ → Type 0) (elements : List X → Type 0) (k : ℕ) → Leaves sizes sizes' (pos k ∷ []) → Lacks elements k → Lacks (Sized sizes elements) 1
group_lacks sizes sizes' elements k p q [] r le = omega (arith, le)
group_lacks sizes sizes' elements k p q (g ∷ gs) r le =
    let i = p.only (size g ∷ map size gs) r.0 (omega arith) in
    let e : size g ≡ pos k = let h = i.1 in cc in
    q (concatenated (g ∷ gs)) r.1 (omega (arith, size_is g k e, length-append g (concatenated gs)))

pub no_size : {X : Type 0} (sizes sizes' : List ℤ → Type 0) (elements : List X → Type 0) (k : ℕ) → Leaves sizes sizes' (negsuc k ∷ []) → Lacks (Sized sizes elements) 1
no_size sizes sizes' elements k p [] r le = omega (arith, le)
no_size sizes sizes' elements k p (g ∷ gs) r le =
    let i = p.only (size g ∷ map size gs) r.0 (omega arith) in
    let h = i.1 in cc

-- ---- a cell

pub null_leaves : (marks marks' : List Bool → Type 0) (found : List Cell → Type 0) → Leaves marks marks' (false ∷ []) → Leaves (Nullable marks found) (Nullable marks' found) (null ∷ [])
null_leaves marks marks' found p = nullable_leaves marks marks' found found (false ∷ []) [] (null ∷ []) refl refl p (nothing found)

pub value_leaves : (marks marks' : List Bool → Type 0) (found found' : List Cell → Type 0) (c : Cell) → is_value c ≡ true → Leaves marks marks' (true ∷ []) → Leaves found found' (c ∷ []) → Leaves (Nullable marks found) (Nullable marks' found') (c ∷ [])
value_leaves marks marks' found found' c h p q = nullable_leaves marks marks' found found' (true ∷ []) (c ∷ []) (c ∷ []) (ap (λ b. b ∷ []) h) (values_one c h) p q

pub value_lacks : (marks marks' : List Bool → Type 0) (found : List Cell → Type 0) → Leaves marks marks' (true ∷ []) → Lacks found 1 → Lacks (Nullable marks found) 1
value_lacks marks marks' found p q = nullable_lacks_values marks marks' found (true ∷ []) p q

-- ---- fields

abbrev pub AllEmpty : List (List Cell) → Type 0
AllEmpty structs = AllByRecursion (λ cells. cells ≡ []) structs

empty_only : (all : List (List Cell)) → AllEmpty all → 1 ≤ length all → (rest : List (List Cell)) × (all ≡ [] ∷ rest) × AllEmpty rest
empty_only [] r le = absurd (omega (arith, le))
empty_only (x ∷ xs) r le = (xs, ap (λ t. t ∷ xs) r.0, r.1)

pub no_field_leaves : Leaves AllEmpty AllEmpty ([] ∷ [])
no_field_leaves = record { found = λ rest r. (refl, r); only = λ all r le. empty_only all r le }
