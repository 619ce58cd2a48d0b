-- A JSON value spells one row, which fits; a fault in it leaves none.
use Rattle.std.proofs.Common.{◌≡◌, ◌≢◌, ℕ, zero, suc, true, List, Option, Some, None, ◌⊎◌, inl, inr, refl, sym, ap, ◌∙◌, subst}
use Rattle.serde_json.specs.Data.{Data, null as nothing, array, Items, no_items, item}
use Rattle.serde_json.specs.Find.{at, get, get_item}
use Rattle.orc_values.specs.declared.kind.Scalar.{Scalar}
use Rattle.orc_json_rows.specs.declared.json_fault.JsonFault.{JsonFault}
use Rattle.orc_json_rows.specs.declared.json_fault.JsonFault.TheVariants as fault
use Rattle.orc_values.specs.Cells.{Cell, null, leaf, list, struct, pairs, Cells, end, more, Pairs, no_pair, pair}
use Rattle.orc_values.specs.Shapes.{Shape, scalar, list_of, map_of, struct_of, Fields, no_field, field, names_of}
use Rattle.orc_values.specs.Fits.{fits, all_fit, each_fits, pairs_fit}
use Rattle.orc_json_rows.specs.FieldNames.{all_known}
use Rattle.orc_json_rows.specs.JsonRows.{JsonSpells, PairSpells, PairsSpell, EachSpells, MemberSpells, FieldsSpell}
use Rattle.orc_json_rows.specs.JsonFaults.{HasUnknownKey, FaultAt, Somewhere, InField}
use Rattle.orc_json_rows.specs.JsonLeaves.{LeafSpells, ScalarSpells, LeafFault}
use Rattle.orc_json_rows.proofs.JsonLeaves.{one_leaf, leaf_fits, leaf_none, null_no_leaf, null_no_fault}

-- ---- one row

abbrev pub One : (Data → Cell → Type 0) → Type 0
One Is = (d : Data) (c b : Cell) → Is d c → Is d b → c ≡ b

one_each : (Is : Data → Cell → Type 0) → One Is → (ds : Items) (cs bs : Cells) → EachSpells Is ds cs → EachSpells Is ds bs → cs ≡ bs
one_each Is u no_items end end h k = refl
one_each Is u no_items end (more b bs) h k = absurd k
one_each Is u no_items (more c cs) bs h k = absurd h
one_each Is u (item d ds) end bs h k = absurd h
one_each Is u (item d ds) (more c cs) end h k = absurd k
one_each Is u (item d ds) (more c cs) (more b bs) h k = rw (u d c b h.0 k.0, one_each Is u ds cs bs h.1 k.1) refl

one_member : (Is : Data → Cell → Type 0) → One Is → (o : Option Data) (c b : Cell) → MemberSpells Is o c → MemberSpells Is o b → c ≡ b
one_member Is u None c b h k = h ∙ sym k
one_member Is u (Some d) c b h k = u d c b h k

one_scalar : (k : Scalar) → One (ScalarSpells k)
one_scalar k d null null h g = refl
one_scalar k d null (leaf b) h g = absurd (null_no_leaf k b (subst (λ x. LeafSpells k x b) h g))
one_scalar k d (leaf a) null h g = absurd (null_no_leaf k a (subst (λ x. LeafSpells k x a) g h))
one_scalar k d (leaf a) (leaf b) h g = ap leaf (one_leaf k d a b h g)
one_scalar k d (list cs) b h g = absurd h
one_scalar k d (struct cs) b h g = absurd h
one_scalar k d (pairs ps) b h g = absurd h
one_scalar k d c (list cs) h g = absurd g
one_scalar k d c (struct cs) h g = absurd g
one_scalar k d c (pairs ps) h g = absurd g

-- an array of two has one first and one second part
first_part : (d x y z w : Data) → d ≡ array (item x (item y no_items)) → d ≡ array (item z (item w no_items)) → z ≡ x
first_part d x y z w h k = let e : array (item z (item w no_items)) ≡ array (item x (item y no_items)) = sym k ∙ h in cc

second_part : (d x y z w : Data) → d ≡ array (item x (item y no_items)) → d ≡ array (item z (item w no_items)) → w ≡ y
second_part d x y z w h k = let e : array (item z (item w no_items)) ≡ array (item x (item y no_items)) = sym k ∙ h in cc

one_pair : (K V : Data → Cell → Type 0) → One K → One V → (d : Data) (k v l w : Cell) → PairSpells K V d k v → PairSpells K V d l w → (k ≡ l) × (v ≡ w)
one_pair K V one_k one_v d k v l w h g = (
  one_k h.0 k l h.3 (subst (λ x. K x l) (first_part d h.0 h.1 g.0 g.1 h.2 g.2) g.3),
  one_v h.1 v w h.4 (subst (λ x. V x w) (second_part d h.0 h.1 g.0 g.1 h.2 g.2) g.4),
)

one_pairs : (K V : Data → Cell → Type 0) → One K → One V → (ds : Items) (ps qs : Pairs) → PairsSpell K V ds ps → PairsSpell K V ds qs → ps ≡ qs
one_pairs K V a b no_items no_pair no_pair h g = refl
one_pairs K V a b no_items no_pair (pair k v qs) h g = absurd g
one_pairs K V a b no_items (pair k v ps) qs h g = absurd h
one_pairs K V a b (item d ds) no_pair qs h g = absurd h
one_pairs K V a b (item d ds) (pair k v ps) no_pair h g = absurd g
one_pairs K V a b (item d ds) (pair k v ps) (pair l w qs) h g =
    let e = one_pair K V a b d k v l w h.0 g.0 in
    rw (e.0, e.1, one_pairs K V a b ds ps qs h.1 g.1) refl

mutual
  pub one_row : (s : Shape) → One (JsonSpells s)
  one_row (scalar k o) d c b h g = one_scalar k d c b h g
  one_row (list_of s o) d c b (inl h) (inl g) = h.1 ∙ sym g.1
  one_row (list_of s o) d c b (inl h) (inr g) = let e = g.2 in cc
  one_row (list_of s o) d c b (inr h) (inl g) = let e = h.2 in cc
  one_row (list_of s o) d c b (inr h) (inr g) =
      let same : g.0 ≡ h.0 = cc in
      h.3 ∙ ap list (one_each (λ e x. JsonSpells s e x) (λ e x y p q. one_row s e x y p q) h.0 h.1 g.1 h.4 (subst (λ ds. EachSpells (λ e x. JsonSpells s e x) ds g.1) same g.4)) ∙ sym g.3
  one_row (map_of s t o) d c b (inl h) (inl g) = h.1 ∙ sym g.1
  one_row (map_of s t o) d c b (inl h) (inr g) = let e = g.2 in cc
  one_row (map_of s t o) d c b (inr h) (inl g) = let e = h.2 in cc
  one_row (map_of s t o) d c b (inr h) (inr g) =
      let same : g.0 ≡ h.0 = cc in
      h.3 ∙ ap pairs (one_pairs (λ e x. JsonSpells s e x) (λ e x. JsonSpells t e x) (λ e x y p q. one_row s e x y p q) (λ e x y p q. one_row t e x y p q) h.0 h.1 g.1 h.4
      (subst (λ ds. PairsSpell (λ e x. JsonSpells s e x) (λ e x. JsonSpells t e x) ds g.1) same g.4)) ∙ sym g.3
  one_row (struct_of fs o) d c b (inl h) (inl g) = h.1 ∙ sym g.1
  one_row (struct_of fs o) d c b (inl h) (inr g) = let e = g.2 in cc
  one_row (struct_of fs o) d c b (inr h) (inl g) = let e = h.2 in cc
  one_row (struct_of fs o) d c b (inr h) (inr g) = h.3 ∙ ap struct (one_fields fs d h.1 g.1 h.5 g.5) ∙ sym g.3

  one_fields : (fs : Fields) (d : Data) (cs bs : Cells) → FieldsSpell fs d cs → FieldsSpell fs d bs → cs ≡ bs
  one_fields no_field d end end h k = refl
  one_fields no_field d end (more b bs) h k = absurd k
  one_fields no_field d (more c cs) bs h k = absurd h
  one_fields (field name s fs) d end bs h k = absurd h
  one_fields (field name s fs) d (more c cs) end h k = absurd k
  one_fields (field name s fs) d (more c cs) (more b bs) h k =
      rw (one_member (λ e x. JsonSpells s e x) (λ e x y p q. one_row s e x y p q) (get name d) c b h.0 k.0, one_fields fs d cs bs h.1 k.1) refl

-- ---- what is spelled fits

abbrev pub Fit : (Data → Cell → Type 0) → Shape → Type 0
Fit Is s = (d : Data) (c : Cell) → Is d c → fits c s ≡ true

each_fit : (Is : Data → Cell → Type 0) (s : Shape) → Fit Is s → (ds : Items) (cs : Cells) → EachSpells Is ds cs → all_fit cs s ≡ true
each_fit Is s u no_items end h = refl
each_fit Is s u no_items (more c cs) h = absurd h
each_fit Is s u (item d ds) end h = absurd h
each_fit Is s u (item d ds) (more c cs) h = rw (u d c h.0, each_fit Is s u ds cs h.1) refl

member_fit : (Is : Data → Cell → Type 0) (s : Shape) → Fit Is s → (o : Option Data) (c : Cell) → MemberSpells Is o c → fits c s ≡ true
member_fit Is s u None c h = rw h refl
member_fit Is s u (Some d) c h = u d c h

pairs_fit_all : (K V : Data → Cell → Type 0) (s t : Shape) → Fit K s → Fit V t → (ds : Items) (ps : Pairs) → PairsSpell K V ds ps → pairs_fit ps s t ≡ true
pairs_fit_all K V s t a b no_items no_pair h = refl
pairs_fit_all K V s t a b no_items (pair k v ps) h = absurd h
pairs_fit_all K V s t a b (item d ds) no_pair h = absurd h
pairs_fit_all K V s t a b (item d ds) (pair k v ps) h = rw (a h.0.0 k h.0.3, b h.0.1 v h.0.4, pairs_fit_all K V s t a b ds ps h.1) refl

mutual
  pub row_fits : (s : Shape) → Fit (JsonSpells s) s
  row_fits (scalar k o) d null h = refl
  row_fits (scalar k o) d (leaf a) h = leaf_fits k d a h
  row_fits (scalar k o) d (list cs) h = absurd h
  row_fits (scalar k o) d (struct cs) h = absurd h
  row_fits (scalar k o) d (pairs ps) h = absurd h
  row_fits (list_of s o) d c (inl h) = rw h.1 refl
  row_fits (list_of s o) d c (inr h) = rw h.3 (each_fit (λ e x. JsonSpells s e x) s (λ e x p. row_fits s e x p) h.0 h.1 h.4)
  row_fits (map_of s t o) d c (inl h) = rw h.1 refl
  row_fits (map_of s t o) d c (inr h) = rw h.3 (pairs_fit_all (λ e x. JsonSpells s e x) (λ e x. JsonSpells t e x) s t (λ e x p. row_fits s e x p) (λ e x p. row_fits t e x p) h.0 h.1 h.4)
  row_fits (struct_of fs o) d c (inl h) = rw h.1 refl
  row_fits (struct_of fs o) d c (inr h) = rw h.3 (fields_fit fs d h.1 h.5)

  fields_fit : (fs : Fields) (d : Data) (cs : Cells) → FieldsSpell fs d cs → each_fits cs fs ≡ true
  fields_fit no_field d end h = refl
  fields_fit no_field d (more c cs) h = absurd h
  fields_fit (field name s fs) d end h = absurd h
  fields_fit (field name s fs) d (more c cs) h =
      rw (member_fit (λ e x. JsonSpells s e x) s (λ e x p. row_fits s e x p) (get name d) c h.0, fields_fit fs d cs h.1) refl

-- ---- a fault leaves no row

abbrev pub Excludes : (Shape → Data → Type 0) → Type 0
Excludes Is = (s : Shape) (d : Data) (c : Cell) → Is s d → JsonSpells s d c → ⊥

scalar_excludes : (e : JsonFault) (k : Scalar) (d : Data) (c : Cell) → e ≢ fault.OutOfMemory → LeafFault k d e → ScalarSpells k d c → ⊥
scalar_excludes e k d null m h g = m (null_no_fault k e (subst (λ x. LeafFault k x e) g h))
scalar_excludes e k d (leaf a) m h g = m (leaf_none k d a e g h)
scalar_excludes e k d (list cs) m h g = g
scalar_excludes e k d (struct cs) m h g = g
scalar_excludes e k d (pairs ps) m h g = g

unknown_key_excludes : (fs : Fields) (o : List ℕ) (d : Data) (c : Cell) → HasUnknownKey (names_of fs) d → JsonSpells (struct_of fs o) d c → ⊥
unknown_key_excludes fs o d c h (inl g) = let e = h.1 in cc
unknown_key_excludes fs o d c h (inr g) =
    let same : g.0 ≡ h.0 = cc in
    let known : all_known (names_of fs) h.0 ≡ true = subst (λ ms. all_known (names_of fs) ms ≡ true) same g.4 in
    let unknown = h.2 in cc

-- each element spells a pair
pair_at : (K V : Data → Cell → Type 0) (ds : Items) (ps : Pairs) (i : ℕ) (e : Data) → PairsSpell K V ds ps → get_item i ds ≡ Some e → (k : Cell) × (v : Cell) × PairSpells K V e k v
pair_at K V no_items ps i e h there = let q : ◌≡◌ {A = Option Data} None (Some e) = there in cc
pair_at K V (item d ds) no_pair i e h there = absurd h
pair_at K V (item d ds) (pair k v ps) zero e h there = let same : d ≡ e = cc in (k, v, subst (λ x. PairSpells K V x k v) same h.0)
pair_at K V (item d ds) (pair k v ps) (suc i) e h there = pair_at K V ds ps i e h.1 there

each_at : (Is : Data → Cell → Type 0) (ds : Items) (cs : Cells) (i : ℕ) (e : Data) → EachSpells Is ds cs → get_item i ds ≡ Some e → (c : Cell) × Is e c
each_at Is no_items cs i e h there = let q : ◌≡◌ {A = Option Data} None (Some e) = there in cc
each_at Is (item d ds) end i e h there = absurd h
each_at Is (item d ds) (more c cs) zero e h there = let same : d ≡ e = cc in (c, subst (λ x. Is x c) same h.0)
each_at Is (item d ds) (more c cs) (suc i) e h there = each_at Is ds cs i e h.1 there

member_at : (Is : Data → Cell → Type 0) (o : Option Data) (c : Cell) (e : Data) → MemberSpells Is o c → o ≡ Some e → Is e c
member_at Is None c e h there = cc
member_at Is (Some d) c e h there = let same : d ≡ e = cc in subst (λ x. Is x c) same h

element_of : (d e : Data) (ds : Items) (i : ℕ) → d ≡ array ds → at i d ≡ Some e → get_item i ds ≡ Some e
element_of d e ds i is there = subst (λ x. at i x ≡ Some e) is there

no_element : (d e : Data) (i : ℕ) → d ≡ nothing → at i d ≡ Some e → ⊥
no_element d e i is there = let q : ◌≡◌ {A = Option Data} None (Some e) = subst (λ x. at i x ≡ Some e) is there in cc

no_member : (d e : Data) (name : List ℕ) → d ≡ nothing → get name d ≡ Some e → ⊥
no_member d e name is there = let q : ◌≡◌ {A = Option Data} None (Some e) = subst (λ x. get name x ≡ Some e) is there in cc

pub fault_excludes : (e : JsonFault) → e ≢ fault.OutOfMemory → Excludes (FaultAt e)
fault_excludes e m (scalar k o) d c h g = scalar_excludes e k d c m h g
fault_excludes e m (list_of s o) d c h (inl g) = h.1.0 g.0
fault_excludes e m (list_of s o) d c h (inr g) = h.1.1 g.0 g.2
fault_excludes e m (map_of s t o) d c (is, inl h) (inl g) = h.0 g.0
fault_excludes e m (map_of s t o) d c (is, inl h) (inr g) = h.1 g.0 g.2
fault_excludes e m (map_of s t o) d c (is, inr h) (inl g) = no_element d h.1 h.0 g.0 h.2
fault_excludes e m (map_of s t o) d c (is, inr h) (inr g) =
    let one = pair_at (λ e z. JsonSpells s e z) (λ e z. JsonSpells t e z) g.0 g.1 h.0 h.1 g.4 (element_of d h.1 g.0 h.0 g.2 h.2) in
    h.3 one.2.0 one.2.1 one.2.2
fault_excludes e m (struct_of fs o) d c (inl h) (inl g) = h.1.0 g.0
fault_excludes e m (struct_of fs o) d c (inl h) (inr g) = h.1.1 g.0 g.2
fault_excludes e m (struct_of fs o) d c (inr h) g = unknown_key_excludes fs o d c h.1 g

mutual
  pub somewhere_excludes : (Is : Shape → Data → Type 0) → Excludes Is → (s : Shape) (d : Data) (c : Cell) → Somewhere Is s d → JsonSpells s d c → ⊥
  somewhere_excludes Is u (scalar k o) d c h g = u (scalar k o) d c h g
  somewhere_excludes Is u (list_of s o) d c (inl h) g = u (list_of s o) d c h g
  somewhere_excludes Is u (list_of s o) d c (inr h) (inl g) = no_element d h.1 h.0 g.0 h.2
  somewhere_excludes Is u (list_of s o) d c (inr h) (inr g) =
      let one = each_at (λ e x. JsonSpells s e x) g.0 g.1 h.0 h.1 g.4 (element_of d h.1 g.0 h.0 g.2 h.2) in
      somewhere_excludes Is u s h.1 one.0 h.3 one.1
  somewhere_excludes Is u (map_of s t o) d c (inl h) g = u (map_of s t o) d c h g
  somewhere_excludes Is u (map_of s t o) d c (inr h) (inl g) = no_element d h.1 h.0 g.0 h.2
  somewhere_excludes Is u (map_of s t o) d c (inr (i, p, there, (x, y, is, inl bad))) (inr g) =
      let one = pair_at (λ e z. JsonSpells s e z) (λ e z. JsonSpells t e z) g.0 g.1 i p g.4 (element_of d p g.0 i g.2 there) in
      somewhere_excludes Is u s x one.0 bad (subst (λ z. JsonSpells s z one.0) (first_part p x y one.2.0 one.2.1 is one.2.2) one.2.3)
  somewhere_excludes Is u (map_of s t o) d c (inr (i, p, there, (x, y, is, inr bad))) (inr g) =
      let one = pair_at (λ e z. JsonSpells s e z) (λ e z. JsonSpells t e z) g.0 g.1 i p g.4 (element_of d p g.0 i g.2 there) in
      somewhere_excludes Is u t y one.1 bad (subst (λ z. JsonSpells t z one.1) (second_part p x y one.2.0 one.2.1 is one.2.2) one.2.4)
  somewhere_excludes Is u (struct_of fs o) d c (inl h) g = u (struct_of fs o) d c h g
  somewhere_excludes Is u (struct_of fs o) d c (inr h) (inl g) = null_in_field Is fs d g.0 h
  somewhere_excludes Is u (struct_of fs o) d c (inr h) (inr g) = in_field_excludes Is u fs d g.1 h g.5

  in_field_excludes : (Is : Shape → Data → Type 0) → Excludes Is → (fs : Fields) (d : Data) (cs : Cells) → InField Is fs d → FieldsSpell fs d cs → ⊥
  in_field_excludes Is u no_field d cs h g = h
  in_field_excludes Is u (field name s fs) d end h g = g
  in_field_excludes Is u (field name s fs) d (more c cs) (inl h) g = somewhere_excludes Is u s h.0 c h.2 (member_at (λ e x. JsonSpells s e x) (get name d) c h.0 g.0 h.1)
  in_field_excludes Is u (field name s fs) d (more c cs) (inr h) g = in_field_excludes Is u fs d cs h g.1

  null_in_field : (Is : Shape → Data → Type 0) (fs : Fields) (d : Data) → d ≡ nothing → InField Is fs d → ⊥
  null_in_field Is no_field d is h = h
  null_in_field Is (field name s fs) d is (inl h) = no_member d h.0 name is h.1
  null_in_field Is (field name s fs) d is (inr h) = null_in_field Is fs d is h

is_memory : (e : JsonFault) → (e ≡ fault.OutOfMemory) ⊎ (e ≢ fault.OutOfMemory)
is_memory fault.OutOfMemory = inl refl
is_memory fault.Syntax = inr (λ q. cc)
is_memory fault.WrongShape = inr (λ q. cc)
is_memory fault.Range = inr (λ q. cc)
is_memory fault.UnknownField = inr (λ q. cc)
is_memory fault.DuplicateField = inr (λ q. cc)
is_memory fault.BadDate = inr (λ q. cc)
is_memory fault.BadHex = inr (λ q. cc)

-- of the faults that stand, none but want of memory goes with a row
pub only_memory : (s : Shape) (d : Data) (c : Cell) (e : JsonFault) → JsonSpells s d c → (e ≢ fault.OutOfMemory → Somewhere (FaultAt e) s d) → e ≡ fault.OutOfMemory
only_memory s d c e h stands =
    elim (is_memory e) [ inl m ↦ m | inr m ↦ absurd (somewhere_excludes (FaultAt e) (fault_excludes e m) s d c (stands m) h) ]

-- ---- a fault that no value has is nowhere

mutual
  pub nowhere : (Is : Shape → Data → Type 0) → ((s : Shape) (d : Data) → Is s d → ⊥) → (s : Shape) (d : Data) → Somewhere Is s d → ⊥
  nowhere Is u (scalar k o) d h = u (scalar k o) d h
  nowhere Is u (list_of s o) d (inl h) = u (list_of s o) d h
  nowhere Is u (list_of s o) d (inr h) = nowhere Is u s h.1 h.3
  nowhere Is u (map_of s t o) d (inl h) = u (map_of s t o) d h
  nowhere Is u (map_of s t o) d (inr (i, p, there, (x, y, is, inl bad))) = nowhere Is u s x bad
  nowhere Is u (map_of s t o) d (inr (i, p, there, (x, y, is, inr bad))) = nowhere Is u t y bad
  nowhere Is u (struct_of fs o) d (inl h) = u (struct_of fs o) d h
  nowhere Is u (struct_of fs o) d (inr h) = in_no_field Is u fs d h

  in_no_field : (Is : Shape → Data → Type 0) → ((s : Shape) (d : Data) → Is s d → ⊥) → (fs : Fields) (d : Data) → InField Is fs d → ⊥
  in_no_field Is u no_field d h = h
  in_no_field Is u (field name s fs) d (inl h) = nowhere Is u s h.0 h.2
  in_no_field Is u (field name s fs) d (inr h) = in_no_field Is u fs d h

pub no_duplicate : (s : Shape) (d : Data) → FaultAt fault.DuplicateField s d → ⊥
no_duplicate (scalar k o) d h = h
no_duplicate (list_of s o) d h = cc (h.0)
no_duplicate (map_of s t o) d h = cc (h.0)
no_duplicate (struct_of fs o) d (inl h) = cc (h.0)
no_duplicate (struct_of fs o) d (inr h) = cc (h.0)
