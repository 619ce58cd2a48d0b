-- A list of types is of one tree at most, and what stands where it is of none.
use Rattle.std.proofs.Common.{◌≡◌, ℕ, zero, suc, ◌+◌, ◌-◌, ◌<◌, ◌≤◌, ◌++◌, List, [], ◌∷◌, length, get_or, drop, take, true, false, cond, eqb, Option, Some, None, refl, sym, ap, ◌∙◌, subst, append_assoc, arith, length-append, add-one, sub-one, append-nil, drop-cons, inl, inr}
use Rattle.std.specs.Prelude.{slice_get, is_some}
use Rattle.std.specs.List.{AllByRecursion}
use Rattle.std.specs.Str.{is_utf8}
use Rattle.std.proofs.lemmas.List.{drop-drop, drop_at, drop_all}
use Rattle.std.proofs.lemmas.Bool.Decides.{eqb_tells}
use Rattle.orc_values.specs.declared.kind.Scalar.{Scalar}
use Rattle.orc_values.specs.declared.kind.Scalar.TheVariants as kind
use Rattle.orc_trees.specs.declared.fault.TypeFault.{TypeFault}
use Rattle.orc_trees.specs.declared.fault.TypeFault.TheVariants as fault
use Rattle.orc_values.specs.Kinds.{number, scalar_of, IsKind}
use Rattle.orc_wire.specs.Types.{types, fields_types}
use Rattle.orc_wire.specs.declared.type_msg.TypeMsg.{TypeMsg}
use Rattle.orc_values.specs.Shapes.{Shape, scalar, list_of, map_of, struct_of, Fields, no_field, field, width, widths, names_of, IsStruct, starts}
use Rattle.orc_types.specs.Schemas.{HasTypes, AllKept}
use Rattle.orc_types.specs.Faults.{IsSubtype, Descends, HasNoRoot, TypesFault}
use Rattle.orc_types.specs.Preorder.{HasKeyAt, Found, FoundFields, NoneAt, NoFieldsAt, PlaceFault, FieldsPlaceFault}
use Rattle.orc_trees.specs.NameFaults.{NameFault}
use Rattle.orc_values.specs.Views.{fields_of}

-- ---- kinds and their numbers

pub scalar_of-number : (k : Scalar) → scalar_of (number k) ≡ Some k
scalar_of-number kind.Boolean = refl
scalar_of-number kind.Byte = refl
scalar_of-number kind.Short = refl
scalar_of-number kind.Int = refl
scalar_of-number kind.Long = refl
scalar_of-number kind.String = refl
scalar_of-number kind.Binary = refl
scalar_of-number kind.Date = refl

by_test : (n m : ℕ) (j k : Scalar) (o : Option Scalar) → number j ≡ m → (o ≡ Some k → number k ≡ n) → cond (eqb n m) (Some j) o ≡ Some k → number k ≡ n
by_test n m j k o e rest h =
    elim (eqb_tells n m) [
      | inl p ↦ (let same : Some j ≡ Some k = rw p.0 at h in let is : j ≡ k = cc in sym (ap number is) ∙ e ∙ sym p.1)
      | inr p ↦ rest (rw p.0 at h)
    ]

pub number-scalar_of : (n : ℕ) (k : Scalar) → scalar_of n ≡ Some k → number k ≡ n
number-scalar_of n k =
    by_test n 0 kind.Boolean k _ refl (by_test n 1 kind.Byte k _ refl (by_test n 2 kind.Short k _ refl (by_test n 3 kind.Int k _ refl
    (by_test n 4 kind.Long k _ refl (by_test n 7 kind.String k _ refl (by_test n 8 kind.Binary k _ refl (by_test n 15 kind.Date k None refl (λ h. absurd (cc)))))))))

pub one_number : (j k : Scalar) → number j ≡ number k → j ≡ k
one_number j k e =
    let h : Some j ≡ Some k = sym (scalar_of-number j) ∙ ap scalar_of e ∙ scalar_of-number k in
    cc

no_number : (k : Scalar) (n : ℕ) → scalar_of n ≡ None → number k ≡ n → ⊥
no_number k n none e =
    let h : Some k ≡ None = sym (scalar_of-number k) ∙ ap scalar_of e ∙ none in
    cc

pub not_list : (k : Scalar) → number k ≡ 10 → ⊥
not_list k e = no_number k 10 refl e

pub not_struct : (k : Scalar) → number k ≡ 12 → ⊥
not_struct k e = no_number k 12 refl e

pub not_map : (k : Scalar) → number k ≡ 11 → ⊥
not_map k e = no_number k 11 refl e

pub foreign : (n : ℕ) → scalar_of n ≡ None → ¬ (n ≡ 10) → ¬ (n ≡ 12) → ¬ (n ≡ 11) → IsKind n → ⊥
foreign n none l s m (inl (k, e)) = no_number k n none e
foreign n none l s m (inr (inl e)) = l e
foreign n none l s m (inr (inr (inl e))) = s e
foreign n none l s m (inr (inr (inr e))) = m e

known_scalar : (n : ℕ) (o : Option Scalar) → scalar_of n ≡ o → is_some o ≡ true → IsKind n
known_scalar n None e h = cc
known_scalar n (Some k) e h = inl (k, number-scalar_of n k e)

pub known : (n : ℕ) → is_some (scalar_of n) ≡ true → IsKind n
known n h = known_scalar n (scalar_of n) refl h

no_scalar : (o : Option Scalar) → is_some o ≡ false → o ≡ None
no_scalar None h = refl
no_scalar (Some k) h = cc

pub unknown : (n : ℕ) → is_some (scalar_of n) ≡ false → ¬ (n ≡ 10) → ¬ (n ≡ 12) → ¬ (n ≡ 11) → IsKind n → ⊥
unknown n h = foreign n (no_scalar (scalar_of n) h)

pub node_at : (ms : List TypeMsg) (i : ℕ) (m : TypeMsg) → i < length ms → m ≡ get_or ms i m → slice_get ms i ≡ Some m
node_at [] i m h is = absurd (omega arith)
node_at (x ∷ ms) zero m h is = ap Some (sym is)
node_at (x ∷ ms) (suc i) m h is = node_at ms i m (omega arith) is

pub kinds_more : (ms : List TypeMsg) (i : ℕ) (m : TypeMsg) → i < length ms → m ≡ get_or ms i m → IsKind m.kind
    → AllByRecursion (λ t. IsKind t.kind) (take i ms) → AllByRecursion (λ t. IsKind t.kind) (take (suc i) ms)
kinds_more [] i m h is k all = absurd (omega arith)
kinds_more (x ∷ ms) zero m h is k all = (rw is at k, tt)
kinds_more (x ∷ ms) (suc i) m h is k all = (all.0, kinds_more ms i m (omega arith) is k all.1)

-- ---- lists of types

mutual
  pub length-types : (s : Shape) (n : ℕ) → length (types s n) ≡ width s
  length-types (scalar k o) n = refl
  length-types (list_of s o) n = omega (arith, length-types s (n + 1))
  length-types (map_of k v o) n =
      omega (arith, length-append (types k (n + 1)) (types v (n + 1 + width k)), length-types k (n + 1), length-types v (n + 1 + width k))
  length-types (struct_of fs o) n = omega (arith, length-fields_types fs (n + 1))

  pub length-fields_types : (fs : Fields) (n : ℕ) → length (fields_types fs n) ≡ widths fs
  length-fields_types no_field n = refl
  length-fields_types (field name s fs) n =
      length-append (types s n) (fields_types fs (n + width s)) ∙ omega (arith, length-types s n, length-fields_types fs (n + width s))

pub length-starts : (fs : Fields) (n : ℕ) → length (starts fs n) ≡ length (names_of fs)
length-starts no_field n = refl
length-starts (field name s fs) n = ap suc (length-starts fs (n + width s))

-- what lies past a tree's types
pub past : (ts : List TypeMsg) (s : Shape) (n : ℕ) (rest : List TypeMsg) → drop n ts ≡ types s n ++ rest → drop (n + width s) ts ≡ rest
past ts s n rest h = sym (drop-drop (width s) n ts) ∙ ap (drop (width s)) h ∙ drop_at (types s n) rest (width s) (length-types s n)

pub slice_get_at : (ts : List TypeMsg) (n : ℕ) (y : TypeMsg) (rest : List TypeMsg) → drop n ts ≡ y ∷ rest → slice_get ts n ≡ Some y
slice_get_at [] zero y rest h = cc
slice_get_at [] (suc n) y rest h = cc
slice_get_at (x ∷ ts) zero y rest h = cc
slice_get_at (x ∷ ts) (suc n) y rest h = slice_get_at ts n y rest h

slice_get_drop : (ts : List TypeMsg) (n : ℕ) (y : TypeMsg) → slice_get ts n ≡ Some y → drop n ts ≡ y ∷ drop (n + 1) ts
slice_get_drop [] n y h = cc
slice_get_drop (x ∷ ts) zero y h = let e : x ≡ y = cc in ap (λ z. z ∷ ts) e
slice_get_drop (x ∷ ts) (suc n) y h = slice_get_drop ts n y h ∙ simp add-one

pub drop_suc : (ts : List TypeMsg) (n : ℕ) (y : TypeMsg) (rest : List TypeMsg) → drop n ts ≡ y ∷ rest → drop (n + 1) ts ≡ rest
drop_suc ts n y rest h = sym (drop-drop 1 n ts) ∙ ap (drop 1) h

record Same (x y : TypeMsg) (xs ys : List TypeMsg) : Type 0 where
  kind : x.kind ≡ y.kind
  subtypes : x.subtypes ≡ y.subtypes
  names : x.field_names ≡ y.field_names
  kept : x.kept ≡ y.kept
  rest : xs ≡ ys

same_head : (x y : TypeMsg) (xs ys : List TypeMsg) → x ∷ xs ≡ y ∷ ys → Same x y xs ys
same_head x y xs ys h =
    let e : x ≡ y = cc in
    record {
      kind = ap (λ (n : TypeMsg). n.kind) e;
      subtypes = ap (λ (n : TypeMsg). n.subtypes) e;
      names = ap (λ (n : TypeMsg). n.field_names) e;
      kept = ap (λ (n : TypeMsg). n.kept) e;
      rest = cc;
    }

-- the type at a place is the first of those that stand there
at_place : (ts : List TypeMsg) (n : ℕ) (y x : TypeMsg) (rest : List TypeMsg) → slice_get ts n ≡ Some y → drop n ts ≡ x ∷ rest → Same y x (drop (n + 1) ts) rest
at_place ts n y x rest at h = same_head y x (drop (n + 1) ts) rest (sym (slice_get_drop ts n y at) ∙ h)

-- ---- one tree

mutual
  pub one_tree : (s t : Shape) (n : ℕ) (xs ys : List TypeMsg) → types s n ++ xs ≡ types t n ++ ys → (s ≡ t) × (xs ≡ ys)
  one_tree (scalar k o) (scalar j p) n xs ys h = let e = same_head _ _ _ _ h in (rw (one_number k j e.kind, e.kept) refl, e.rest)
  one_tree (scalar k o) (list_of t p) n xs ys h = absurd (not_list k (same_head _ _ _ _ h).kind)
  one_tree (scalar k o) (struct_of fs p) n xs ys h = absurd (not_struct k (same_head _ _ _ _ h).kind)
  one_tree (scalar k o) (map_of s t p) n xs ys h = absurd (not_map k (same_head _ _ _ _ h).kind)
  one_tree (map_of s t o) (scalar k p) n xs ys h = absurd (not_map k (sym (same_head _ _ _ _ h).kind))
  one_tree (map_of s t o) (list_of u p) n xs ys h = let e : ◌≡◌ {A = ℕ} 11 10 = (same_head _ _ _ _ h).kind in absurd (omega (arith, e))
  one_tree (map_of s t o) (struct_of fs p) n xs ys h = let e : ◌≡◌ {A = ℕ} 11 12 = (same_head _ _ _ _ h).kind in absurd (omega (arith, e))
  one_tree (map_of s t o) (map_of u v p) n xs ys h =
      let e = same_head _ _ _ _ h in
      let here : types s (n + 1) ++ (types t (n + 1 + width s) ++ xs) ≡ types u (n + 1) ++ (types v (n + 1 + width u) ++ ys) =
      sym (append_assoc (types s (n + 1)) (types t (n + 1 + width s)) xs) ∙ e.rest ∙ append_assoc (types u (n + 1)) (types v (n + 1 + width u)) ys in
      let r = one_tree s u (n + 1) _ _ here in
      let rest : types t (n + 1 + width s) ++ xs ≡ types v (n + 1 + width s) ++ ys = rw (← r.0) at r.1 in
      let q = one_tree t v (n + 1 + width s) xs ys rest in
      (rw (e.kept, r.0, q.0) refl, q.1)
  one_tree (list_of s o) (map_of u v p) n xs ys h = let e : ◌≡◌ {A = ℕ} 10 11 = (same_head _ _ _ _ h).kind in absurd (omega (arith, e))
  one_tree (struct_of fs o) (map_of u v p) n xs ys h = let e : ◌≡◌ {A = ℕ} 12 11 = (same_head _ _ _ _ h).kind in absurd (omega (arith, e))
  one_tree (list_of s o) (scalar k p) n xs ys h = absurd (not_list k (sym (same_head _ _ _ _ h).kind))
  one_tree (list_of s o) (list_of t p) n xs ys h =
      let e = same_head _ _ _ _ h in
      let r = one_tree s t (n + 1) xs ys e.rest in
      (rw (e.kept, r.0) refl, r.1)
  one_tree (list_of s o) (struct_of fs p) n xs ys h = let e : ◌≡◌ {A = ℕ} 10 12 = (same_head _ _ _ _ h).kind in absurd (omega (arith, e))
  one_tree (struct_of fs o) (scalar k p) n xs ys h = absurd (not_struct k (sym (same_head _ _ _ _ h).kind))
  one_tree (struct_of fs o) (list_of t p) n xs ys h = let e : ◌≡◌ {A = ℕ} 12 10 = (same_head _ _ _ _ h).kind in absurd (omega (arith, e))
  one_tree (struct_of fs o) (struct_of gs p) n xs ys h =
      let e = same_head _ _ _ _ h in
      let r = same_fields fs gs (n + 1) xs ys e.names e.rest in
      (rw (e.kept, r.0) refl, r.1)

  same_fields : (fs gs : Fields) (n : ℕ) (xs ys : List TypeMsg) → names_of fs ≡ names_of gs → fields_types fs n ++ xs ≡ fields_types gs n ++ ys → (fs ≡ gs) × (xs ≡ ys)
  same_fields no_field no_field n xs ys m h = (refl, h)
  same_fields no_field (field name t gs) n xs ys m h = cc
  same_fields (field name s fs) no_field n xs ys m h = cc
  same_fields (field name s fs) (field other t gs) n xs ys m h =
      let first : name ≡ other = cc in
      let later : names_of fs ≡ names_of gs = cc in
      let here : types s n ++ (fields_types fs (n + width s) ++ xs) ≡ types t n ++ (fields_types gs (n + width t) ++ ys) =
      sym (append_assoc (types s n) (fields_types fs (n + width s)) xs) ∙ h ∙ append_assoc (types t n) (fields_types gs (n + width t)) ys in
      let r = one_tree s t n _ _ here in
      let rest : fields_types fs (n + width s) ++ xs ≡ fields_types gs (n + width s) ++ ys = rw (← r.0) at r.1 in
      let q = same_fields fs gs (n + width s) xs ys later rest in
      (rw (first, r.0, q.0) refl, q.1)

-- a list of types is of one tree at most
pub one_list : (s t : Shape) (n : ℕ) → types s n ≡ types t n → s ≡ t
one_list s t n h = (one_tree s t n [] [] (append-nil (types s n) ∙ h ∙ sym (append-nil (types t n)))).0

pub one_schema : (ts : List TypeMsg) (s t : Shape) → HasTypes s ts → HasTypes t ts → s ≡ t
one_schema ts s t h k = one_list s t 0 (sym h.listed ∙ k.listed)

-- ---- a tree that is found

node_is : (y : TypeMsg) (k : ℕ) (ss : List ℕ) (names : List (List ℕ)) → y.kind ≡ k → y.subtypes ≡ ss → y.field_names ≡ names → y ≡ record { kind = k; subtypes = ss; field_names = names; kept = y.kept }
node_is y k ss names a b c = rw (← a, ← b, ← c) refl

pub scalar_found : (ts : List TypeMsg) (n d : ℕ) (y : TypeMsg) (k : Scalar) → 0 < d → slice_get ts n ≡ Some y → number k ≡ y.kind → y.subtypes ≡ [] → y.field_names ≡ [] → Found ts n d (scalar k y.kept) (n + 1)
scalar_found ts n d y k p at is ss names =
    record {
      names = tt;
      levels = omega arith;
      stands = slice_get_drop ts n y at ∙ ap (λ z. z ∷ drop (n + 1) ts) (node_is y (number k) [] [] (sym is) ss names);
      ends_at = refl;
    }

pub struct_found : (ts : List TypeMsg) (n d e : ℕ) (y : TypeMsg) (fs : Fields) → 0 < d → slice_get ts n ≡ Some y → y.kind ≡ 12 → FoundFields ts (n + 1) (d - 1) y.subtypes y.field_names fs e → Found ts n d (struct_of fs y.kept) e
struct_found ts n d e y fs p at k found =
    record {
      names = found.texts;
      levels = omega (arith, found.levels);
      stands = slice_get_drop ts n y at ∙ ap (λ z. z ∷ drop (n + 1) ts) (node_is y 12 (starts fs (n + 1)) (names_of fs) k (sym found.begins) (sym found.named)) ∙ ap (λ r. record { kind = 12; subtypes = starts fs (n + 1); field_names = names_of fs; kept = y.kept } ∷ r) found.stands;
      ends_at = omega (arith, found.ends_at);
    }

pub list_found : (ts : List TypeMsg) (n d e : ℕ) (y : TypeMsg) (s : Shape) → 0 < d → slice_get ts n ≡ Some y → y.kind ≡ 10 → y.subtypes ≡ (n + 1) ∷ [] → y.field_names ≡ [] → Found ts (n + 1) (d - 1) s e → Found ts n d (list_of s y.kept) e
list_found ts n d e y s p at k ss names found =
    record {
      names = found.names;
      levels = omega (arith, found.levels);
      stands = slice_get_drop ts n y at ∙ ap (λ z. z ∷ drop (n + 1) ts) (node_is y 10 ((n + 1) ∷ []) [] k ss names) ∙ ap (λ r. record { kind = 10; subtypes = (n + 1) ∷ []; field_names = []; kept = y.kept } ∷ r) found.stands;
      ends_at = omega (arith, found.ends_at);
    }

two_items : (ss : List ℕ) (a b : ℕ) → length ss ≡ 2 → get_or ss 0 0 ≡ a → get_or ss 1 0 ≡ b → ss ≡ a ∷ b ∷ []
two_items [] a b l p q = absurd (omega (arith, l))
two_items (x ∷ []) a b l p q = absurd (omega (arith, l))
two_items (x ∷ y ∷ []) a b l p q = rw (p, q) refl
two_items (x ∷ y ∷ z ∷ ss) a b l p q = absurd (omega (arith, l))

pub map_found : (ts : List TypeMsg) (n d mid e : ℕ) (y : TypeMsg) (s t : Shape) → 0 < d → slice_get ts n ≡ Some y → y.kind ≡ 11 → HasKeyAt y (n + 1) → get_or y.subtypes 1 0 ≡ mid
    → Found ts (n + 1) (d - 1) s mid → Found ts mid (d - 1) t e → Found ts n d (map_of s t y.kept) e
map_found ts n d mid e y s t p at k key value one more =
    let parts : y.subtypes ≡ (n + 1) ∷ mid ∷ [] = two_items y.subtypes (n + 1) mid key.0 key.1 value in
    let both : drop (n + 1) ts ≡ (types s (n + 1) ++ types t mid) ++ drop e ts =
    one.stands ∙ ap (λ r. types s (n + 1) ++ r) more.stands ∙ sym (append_assoc (types s (n + 1)) (types t mid) (drop e ts)) in
    record {
      names = (one.names, more.names);
      levels = omega (arith, one.levels, more.levels);
      stands = rw (← one.ends_at) (slice_get_drop ts n y at ∙ ap (λ z. z ∷ drop (n + 1) ts) (node_is y 11 ((n + 1) ∷ mid ∷ []) [] k parts key.2) ∙ ap (λ r. record { kind = 11; subtypes = (n + 1) ∷ mid ∷ []; field_names = []; kept = y.kept } ∷ r) both);
      ends_at = omega (arith, one.ends_at, more.ends_at);
    }

pub one_more : (ts : List TypeMsg) (n mid e d : ℕ) (name : List ℕ) (s : Shape) (fs : Fields) (ss : List ℕ) (names : List (List ℕ)) → is_utf8 name ≡ true → Found ts n d s mid → FoundFields ts mid d ss names fs e → FoundFields ts n d (n ∷ ss) (name ∷ names) (field name s fs) e
one_more ts n mid e d name s fs ss names u one more =
    record {
      texts = (u, one.names, more.texts);
      levels = omega (arith, one.levels, more.levels);
      begins = rw (← one.ends_at) (ap (λ xs. n ∷ xs) more.begins);
      named = ap (λ ns. name ∷ ns) more.named;
      stands = rw (← one.ends_at) (one.stands ∙ ap (λ r. types s n ++ r) more.stands ∙ sym (append_assoc (types s n) (fields_types fs mid) (drop e ts)));
      ends_at = omega (arith, one.ends_at, more.ends_at);
    }

-- ---- where no tree stands

pub got_below : (ts : List TypeMsg) (n : ℕ) (y : TypeMsg) → slice_get ts n ≡ Some y → n < length ts
got_below [] zero y at = cc
got_below [] (suc n) y at = cc
got_below (t ∷ ts) zero y at = omega arith
got_below (t ∷ ts) (suc n) y at = omega (arith, got_below ts n y at)

pub past_end : (ts : List TypeMsg) (n : ℕ) → slice_get ts n ≡ None → NoneAt ts n
past_end ts n at (scalar k o) rest h = let e = slice_get_at ts n _ rest h in cc
past_end ts n at (list_of s o) rest h = let e = slice_get_at ts n _ (types s (n + 1) ++ rest) h in cc
past_end ts n at (map_of s t o) rest h = let e = slice_get_at ts n _ ((types s (n + 1) ++ types t (n + 1 + width s)) ++ rest) h in cc
past_end ts n at (struct_of fs o) rest h = let e = slice_get_at ts n _ (fields_types fs (n + 1) ++ rest) h in cc

pub list_none : (ts : List TypeMsg) (n : ℕ) (y : TypeMsg) → slice_get ts n ≡ Some y → y.kind ≡ 10 → NoneAt ts (n + 1) → NoneAt ts n
list_none ts n y at k none (scalar j o) rest h = not_list j (sym (at_place ts n y _ rest at h).kind ∙ k)
list_none ts n y at k none (list_of s o) rest h = none s rest (at_place ts n y _ (types s (n + 1) ++ rest) at h).rest
list_none ts n y at k none (map_of s t o) rest h = let e : ◌≡◌ {A = ℕ} 11 10 = sym (at_place ts n y _ ((types s (n + 1) ++ types t (n + 1 + width s)) ++ rest) at h).kind ∙ k in omega (arith, e)
list_none ts n y at k none (struct_of fs o) rest h = let e : ◌≡◌ {A = ℕ} 12 10 = sym (at_place ts n y _ (fields_types fs (n + 1) ++ rest) at h).kind ∙ k in omega (arith, e)

pub list_wrong : (ts : List TypeMsg) (n : ℕ) (y : TypeMsg) → slice_get ts n ≡ Some y → y.kind ≡ 10 → ¬ ((y.subtypes ≡ (n + 1) ∷ []) × (y.field_names ≡ [])) → NoneAt ts n
list_wrong ts n y at k wrong (scalar j o) rest h = not_list j (sym (at_place ts n y _ rest at h).kind ∙ k)
list_wrong ts n y at k wrong (list_of s o) rest h = let e = at_place ts n y _ (types s (n + 1) ++ rest) at h in wrong (e.subtypes, e.names)
list_wrong ts n y at k wrong (map_of s t o) rest h = let e : ◌≡◌ {A = ℕ} 11 10 = sym (at_place ts n y _ ((types s (n + 1) ++ types t (n + 1 + width s)) ++ rest) at h).kind ∙ k in omega (arith, e)
list_wrong ts n y at k wrong (struct_of fs o) rest h = let e : ◌≡◌ {A = ℕ} 12 10 = sym (at_place ts n y _ (fields_types fs (n + 1) ++ rest) at h).kind ∙ k in omega (arith, e)

pub struct_none : (ts : List TypeMsg) (n : ℕ) (y : TypeMsg) → slice_get ts n ≡ Some y → y.kind ≡ 12 → NoFieldsAt ts (n + 1) y.subtypes y.field_names → NoneAt ts n
struct_none ts n y at k none (scalar j o) rest h = not_struct j (sym (at_place ts n y _ rest at h).kind ∙ k)
struct_none ts n y at k none (list_of s o) rest h = let e : ◌≡◌ {A = ℕ} 10 12 = sym (at_place ts n y _ (types s (n + 1) ++ rest) at h).kind ∙ k in omega (arith, e)
struct_none ts n y at k none (map_of s t o) rest h = let e : ◌≡◌ {A = ℕ} 11 12 = sym (at_place ts n y _ ((types s (n + 1) ++ types t (n + 1 + width s)) ++ rest) at h).kind ∙ k in omega (arith, e)
struct_none ts n y at k none (struct_of fs o) rest h =
    let e = at_place ts n y _ (fields_types fs (n + 1) ++ rest) at h in
    none fs rest (sym e.subtypes) (sym e.names) e.rest

-- a map's types, but for those of its two parts
abbrev NoMapAt : List TypeMsg → ℕ → TypeMsg → Type 0
NoMapAt ts n y = (s t : Shape) (rest : List TypeMsg) → y.subtypes ≡ (n + 1) ∷ (n + 1 + width s) ∷ [] → y.field_names ≡ [] → drop (n + 1) ts ≡ types s (n + 1) ++ (types t (n + 1 + width s) ++ rest) → ⊥

map_none : (ts : List TypeMsg) (n : ℕ) (y : TypeMsg) → slice_get ts n ≡ Some y → y.kind ≡ 11 → NoMapAt ts n y → NoneAt ts n
map_none ts n y at k none (scalar j o) rest h = not_map j (sym (at_place ts n y _ rest at h).kind ∙ k)
map_none ts n y at k none (list_of s o) rest h = let e : ◌≡◌ {A = ℕ} 10 11 = sym (at_place ts n y _ (types s (n + 1) ++ rest) at h).kind ∙ k in omega (arith, e)
map_none ts n y at k none (struct_of fs o) rest h = let e : ◌≡◌ {A = ℕ} 12 11 = sym (at_place ts n y _ (fields_types fs (n + 1) ++ rest) at h).kind ∙ k in omega (arith, e)
map_none ts n y at k none (map_of s t o) rest h =
    let e = at_place ts n y _ ((types s (n + 1) ++ types t (n + 1 + width s)) ++ rest) at h in
    none s t rest e.subtypes e.names (e.rest ∙ append_assoc (types s (n + 1)) (types t (n + 1 + width s)) rest)

pub map_wrong : (ts : List TypeMsg) (n : ℕ) (y : TypeMsg) → slice_get ts n ≡ Some y → y.kind ≡ 11 → ¬ (HasKeyAt y (n + 1)) → NoneAt ts n
map_wrong ts n y at k wrong = map_none ts n y at k (λ s t rest ss names h. wrong (ap length ss, ap (λ (xs : List ℕ). get_or xs 0 0) ss, names))

pub key_none : (ts : List TypeMsg) (n : ℕ) (y : TypeMsg) → slice_get ts n ≡ Some y → y.kind ≡ 11 → NoneAt ts (n + 1) → NoneAt ts n
key_none ts n y at k none = map_none ts n y at k (λ s t rest ss names h. none s (types t (n + 1 + width s) ++ rest) h)

-- a key that is found is the map's
key_same : (ts : List TypeMsg) (n d mid : ℕ) (s t u : Shape) (rest : List TypeMsg) → Found ts (n + 1) d s mid → drop (n + 1) ts ≡ types t (n + 1) ++ (types u (n + 1 + width t) ++ rest) → (n + 1 + width t ≡ mid) × (drop mid ts ≡ types u mid ++ rest)
key_same ts n d mid s t u rest found h =
    let r = one_tree s t (n + 1) (drop mid ts) (types u (n + 1 + width t) ++ rest) (sym found.stands ∙ h) in
    let at : n + 1 + width t ≡ mid = ap (λ x. n + 1 + width x) (sym r.0) ∙ sym found.ends_at in
    (at, r.1 ∙ ap (λ m. types u m ++ rest) at)

pub value_wrong : (ts : List TypeMsg) (n d mid : ℕ) (y : TypeMsg) (s : Shape) → slice_get ts n ≡ Some y → y.kind ≡ 11 → Found ts (n + 1) d s mid → ¬ (get_or y.subtypes 1 0 ≡ mid) → NoneAt ts n
value_wrong ts n d mid y s at k found wrong = map_none ts n y at k (λ t u rest ss names h. wrong (ap (λ (xs : List ℕ). get_or xs 1 0) ss ∙ (key_same ts n d mid s t u rest found h).0))

pub value_none : (ts : List TypeMsg) (n d mid : ℕ) (y : TypeMsg) (s : Shape) → slice_get ts n ≡ Some y → y.kind ≡ 11 → Found ts (n + 1) d s mid → NoneAt ts mid → NoneAt ts n
value_none ts n d mid y s at k found none = map_none ts n y at k (λ t u rest ss names h. none u rest (key_same ts n d mid s t u rest found h).1)

pub scalar_wrong : (ts : List TypeMsg) (n : ℕ) (y : TypeMsg) → slice_get ts n ≡ Some y → ¬ (y.kind ≡ 10) → ¬ (y.kind ≡ 12) → ¬ (y.kind ≡ 11) → ¬ ((y.subtypes ≡ []) × (y.field_names ≡ [])) → NoneAt ts n
scalar_wrong ts n y at l k m wrong (scalar j o) rest h = let e = at_place ts n y _ rest at h in wrong (e.subtypes, e.names)
scalar_wrong ts n y at l k m wrong (list_of s o) rest h = l (at_place ts n y _ (types s (n + 1) ++ rest) at h).kind
scalar_wrong ts n y at l k m wrong (map_of s t o) rest h = m (at_place ts n y _ ((types s (n + 1) ++ types t (n + 1 + width s)) ++ rest) at h).kind
scalar_wrong ts n y at l k m wrong (struct_of fs o) rest h = k (at_place ts n y _ (fields_types fs (n + 1) ++ rest) at h).kind

pub lengths_wrong : (ts : List TypeMsg) (n : ℕ) (ss : List ℕ) (names : List (List ℕ)) → ¬ (length ss ≡ length names) → NoFieldsAt ts n ss names
lengths_wrong ts n ss names wrong fs rest begins named h = wrong (sym (ap length begins) ∙ length-starts fs n ∙ ap length named)

pub place_wrong : (ts : List TypeMsg) (n s : ℕ) (ss : List ℕ) (names : List (List ℕ)) → ¬ (s ≡ n) → NoFieldsAt ts n (s ∷ ss) names
place_wrong ts n s ss names wrong no_field rest begins named h = cc
place_wrong ts n s ss names wrong (field name t fs) rest begins named h = let e : s ≡ n = cc in wrong e

pub child_none : (ts : List TypeMsg) (n s : ℕ) (ss : List ℕ) (names : List (List ℕ)) → NoneAt ts n → NoFieldsAt ts n (s ∷ ss) names
child_none ts n s ss names none no_field rest begins named h = cc
child_none ts n s ss names none (field name t fs) rest begins named h =
    none t (fields_types fs (n + width t) ++ rest) (h ∙ append_assoc (types t n) (fields_types fs (n + width t)) rest)

next_none : (ts : List TypeMsg) (n d e : ℕ) (s : Shape) (name : List ℕ) (ss : List ℕ) (names : List (List ℕ)) → Found ts n d s e → NoFieldsAt ts e ss names → NoFieldsAt ts n (n ∷ ss) (name ∷ names)
next_none ts n d e s name ss names found none no_field rest begins named h = cc
next_none ts n d e s name ss names found none (field other t fs) rest begins named h =
    let here : types s n ++ drop e ts ≡ types t n ++ (fields_types fs (n + width t) ++ rest) = sym found.stands ∙ h ∙ append_assoc (types t n) (fields_types fs (n + width t)) rest in
    let r = one_tree s t n _ _ here in
    let at : n + width t ≡ e = ap (λ x. n + width x) (sym r.0) ∙ sym found.ends_at in
    let later : starts fs (n + width t) ≡ ss = cc in
    let names_later : names_of fs ≡ names = cc in
    none fs rest (rw at at later) names_later (r.1 ∙ ap (λ m. fields_types fs m ++ rest) at)

-- ---- fields, one after the other

-- the fields so far, before those that are left
abbrev pub joined : List (List ℕ × Shape) → Fields → Fields
joined [] fs = fs
joined (g ∷ gs) fs = field g.0 g.1 (joined gs fs)

joined_push : (gs : List (List ℕ × Shape)) (g : List ℕ × Shape) (fs : Fields) → joined (gs ++ g ∷ []) fs ≡ joined gs (field g.0 g.1 fs)
joined_push [] g fs = refl
joined_push (h ∷ gs) g fs = ap (field h.0 h.1) (joined_push gs g fs)

pub joined_end : (gs : List (List ℕ × Shape)) → joined gs no_field ≡ fields_of gs
joined_end [] = refl
joined_end (g ∷ gs) = ap (field g.0 g.1) (joined_end gs)

-- whatever the fields that are left are, all are known; and where there are none for what is left,
-- there are none at all
pub record Reached (ts : List TypeMsg) (from d : ℕ) (subtypes : List ℕ) (names : List (List ℕ)) (gs : List (List ℕ × Shape)) (left : List ℕ) (named : List (List ℕ)) (next : ℕ) : Type 0 where
  pub whole : (fs : Fields) (e : ℕ) → FoundFields ts next d left named fs e → FoundFields ts from d subtypes names (joined gs fs) e
  pub none : NoFieldsAt ts next left named → NoFieldsAt ts from subtypes names
  pub later : from ≤ next

pub reached_none : (ts : List TypeMsg) (from d : ℕ) (subtypes : List ℕ) (names : List (List ℕ)) → Reached ts from d subtypes names [] subtypes names from
reached_none ts from d subtypes names = record { whole = λ fs e h. h; none = λ h. h; later = omega arith }

pub reached_more : (ts : List TypeMsg) (from d : ℕ) (subtypes : List ℕ) (names : List (List ℕ)) (gs : List (List ℕ × Shape)) (i next e : ℕ) (name : List ℕ) (s : Shape)
    → i < length subtypes → i < length names → get_or subtypes i 0 ≡ next → get_or names i [] ≡ name → is_utf8 name ≡ true → Found ts next d s e
    → Reached ts from d subtypes names gs (drop i subtypes) (drop i names) next
    → Reached ts from d subtypes names (gs ++ (name, s) ∷ []) (drop (suc i) subtypes) (drop (suc i) names) e
reached_more ts from d subtypes names gs i next e name s h k here called u found r =
    let ss : drop i subtypes ≡ next ∷ drop (suc i) subtypes = drop-cons subtypes i 0 h ∙ ap (λ x. x ∷ drop (suc i) subtypes) here in
    let ns : drop i names ≡ name ∷ drop (suc i) names = drop-cons names i [] k ∙ ap (λ x. x ∷ drop (suc i) names) called in
    record {
      whole = λ fs z more. rw (joined_push gs (name, s) fs) (r.whole (field name s fs) z (rw (ss, ns) (one_more ts next e z d name s fs _ _ u found more)));
      none = λ later. r.none (rw (ss, ns) (next_none ts next d e s name _ _ found later));
      later = omega (arith, r.later, found.ends_at);
    }

pub reached_all : (ts : List TypeMsg) (from d : ℕ) (subtypes : List ℕ) (names : List (List ℕ)) (gs : List (List ℕ × Shape)) (i next : ℕ) → length subtypes ≤ i → length names ≤ i
    → Reached ts from d subtypes names gs (drop i subtypes) (drop i names) next → FoundFields ts from d subtypes names (fields_of gs) next
reached_all ts from d subtypes names gs i next h k r =
    let empty : FoundFields ts next d (drop i subtypes) (drop i names) no_field next = rw (drop_all i subtypes h, drop_all i names k) record { texts = tt; levels = omega arith; begins = refl; named = refl; stands = refl; ends_at = omega arith } in
    rw (joined_end gs) at (r.whole no_field next empty)

-- a subtype that isn't where it should be
pub reached_place : (ts : List TypeMsg) (from d : ℕ) (subtypes : List ℕ) (names : List (List ℕ)) (gs : List (List ℕ × Shape)) (i next : ℕ)
    → i < length subtypes → ¬ (get_or subtypes i 0 ≡ next) → Reached ts from d subtypes names gs (drop i subtypes) (drop i names) next → NoFieldsAt ts from subtypes names
reached_place ts from d subtypes names gs i next h wrong r =
    r.none (rw (drop-cons subtypes i 0 h) (place_wrong ts next (get_or subtypes i 0) (drop (suc i) subtypes) (drop i names) wrong))

slice_get_within : {X : Type 0} (xs : List X) (i : ℕ) (d : X) → i < length xs → slice_get xs i ≡ Some (get_or xs i d)
slice_get_within [] i d h = absurd (omega arith)
slice_get_within (x ∷ xs) zero d h = refl
slice_get_within (x ∷ xs) (suc i) d h = slice_get_within xs i d (omega arith)

-- why a name is refused
pub name_fault : (ts : List TypeMsg) (n d : ℕ) (ss : List ℕ) (names : List (List ℕ)) (i : ℕ) (name : List ℕ) (f : TypeFault) → i < length names → get_or names i [] ≡ name → NameFault name f → FieldsPlaceFault ts n d ss names f
name_fault ts n d ss names i name (fault.UnsupportedKind k) h called bad = absurd bad
name_fault ts n d ss names i name fault.BadTree h called bad = absurd bad
name_fault ts n d ss names i name fault.TooDeep h called bad = absurd bad
name_fault ts n d ss names i name fault.TooMany h called bad = absurd bad
name_fault ts n d ss names i name fault.RootNotStruct h called bad = absurd bad
name_fault ts n d ss names i name (fault.BadText place) h called bad =
    (bad.0, inl record { index = i; name = name; named = slice_get_within names i [] h ∙ ap Some called; bad = bad.1 })
name_fault ts n d ss names i name fault.OutOfMemory h called bad = tt

-- why a field's type is refused
pub field_fault : (ts : List TypeMsg) (from d : ℕ) (ss : List ℕ) (names : List (List ℕ)) (gs : List (List ℕ × Shape)) (i next : ℕ) (f : TypeFault)
    → i < length ss → get_or ss i 0 ≡ next → Reached ts from d ss names gs (drop i ss) (drop i names) next → PlaceFault ts next d f → FieldsPlaceFault ts from d ss names f
field_fault ts from d ss names gs i next (fault.UnsupportedKind k) h here r bad = bad
field_fault ts from d ss names gs i next fault.BadTree h here r bad =
    r.none (rw (drop-cons ss i 0 h) (child_none ts next (get_or ss i 0) (drop (suc i) ss) (drop i names) bad))
field_fault ts from d ss names gs i next fault.TooDeep h here r bad =
    record { below = next; index = i; subtype = slice_get_within ss i 0 h ∙ ap Some here; later = r.later; listed = bad.0; deeper = bad.1 }
field_fault ts from d ss names gs i next fault.TooMany h here r bad = absurd bad
field_fault ts from d ss names gs i next fault.RootNotStruct h here r bad = absurd bad
field_fault ts from d ss names gs i next (fault.BadText place) h here r bad = (bad.0, inr bad.1)
field_fault ts from d ss names gs i next fault.OutOfMemory h here r bad = tt

deeper : (ts : List TypeMsg) (n below d : ℕ) → 0 < d → IsSubtype ts n below → Descends ts below (d - 1) → Descends ts n d
deeper ts n below zero p is way = absurd (omega arith)
deeper ts n below (suc d) p is way = (below, is, rw sub-one at way)

-- why a list is refused for its element
pub list_fault : (ts : List TypeMsg) (n d : ℕ) (y : TypeMsg) (f : TypeFault) → 0 < d → slice_get ts n ≡ Some y → y.kind ≡ 10 → y.subtypes ≡ (n + 1) ∷ [] → PlaceFault ts (n + 1) (d - 1) f → PlaceFault ts n d f
list_fault ts n d y (fault.UnsupportedKind k) p at is ss bad = bad
list_fault ts n d y fault.BadTree p at is ss bad = list_none ts n y at is bad
list_fault ts n d y fault.TooDeep p at is ss bad = (
  omega (arith, bad.0),
  deeper ts n (n + 1) d p record { type = y; index = 0; stands = at; holds = inl is; subtype = ap (λ xs. slice_get xs 0) ss; later = omega arith; listed = bad.0 } bad.1,
)
list_fault ts n d y fault.TooMany p at is ss bad = bad
list_fault ts n d y fault.RootNotStruct p at is ss bad = bad
list_fault ts n d y (fault.BadText place) p at is ss bad = bad
list_fault ts n d y fault.OutOfMemory p at is ss bad = tt

-- why a map is refused for its key, or its value
part_fault : (ts : List TypeMsg) (n d index below : ℕ) (y : TypeMsg) (f : TypeFault) → 0 < d → slice_get ts n ≡ Some y → y.kind ≡ 11 → slice_get y.subtypes index ≡ Some below → n < below
    → (NoneAt ts below → NoneAt ts n) → PlaceFault ts below (d - 1) f → PlaceFault ts n d f
part_fault ts n d index below y (fault.UnsupportedKind k) p at is ss later none bad = bad
part_fault ts n d index below y fault.BadTree p at is ss later none bad = none bad
part_fault ts n d index below y fault.TooDeep p at is ss later none bad = (
  omega (arith, bad.0, later),
  deeper ts n below d p record { type = y; index = index; stands = at; holds = inr (inr is); subtype = ss; later = later; listed = bad.0 } bad.1,
)
part_fault ts n d index below y fault.TooMany p at is ss later none bad = bad
part_fault ts n d index below y fault.RootNotStruct p at is ss later none bad = bad
part_fault ts n d index below y (fault.BadText place) p at is ss later none bad = bad
part_fault ts n d index below y fault.OutOfMemory p at is ss later none bad = tt

pub key_fault : (ts : List TypeMsg) (n d : ℕ) (y : TypeMsg) (f : TypeFault) → 0 < d → slice_get ts n ≡ Some y → y.kind ≡ 11 → HasKeyAt y (n + 1) → PlaceFault ts (n + 1) (d - 1) f → PlaceFault ts n d f
key_fault ts n d y f p at is key =
    part_fault ts n d 0 (n + 1) y f p at is (slice_get_within y.subtypes 0 0 (omega (arith, key.0)) ∙ ap Some key.1) (omega arith) (key_none ts n y at is)

pub value_fault : (ts : List TypeMsg) (n d mid : ℕ) (y : TypeMsg) (s : Shape) (f : TypeFault) → 0 < d → slice_get ts n ≡ Some y → y.kind ≡ 11 → HasKeyAt y (n + 1) → get_or y.subtypes 1 0 ≡ mid → Found ts (n + 1) (d - 1) s mid
    → PlaceFault ts mid (d - 1) f → PlaceFault ts n d f
value_fault ts n d mid y s f p at is key value found =
    part_fault ts n d 1 mid y f p at is (slice_get_within y.subtypes 1 0 (omega (arith, key.0)) ∙ ap Some value) (omega (arith, found.ends_at)) (value_none ts n (d - 1) mid y s at is found)

-- why a struct is refused for its fields
pub struct_fault : (ts : List TypeMsg) (n d : ℕ) (y : TypeMsg) (f : TypeFault) → 0 < d → slice_get ts n ≡ Some y → y.kind ≡ 12 → FieldsPlaceFault ts (n + 1) (d - 1) y.subtypes y.field_names f → PlaceFault ts n d f
struct_fault ts n d y (fault.UnsupportedKind k) p at is bad = bad
struct_fault ts n d y fault.BadTree p at is bad = struct_none ts n y at is bad
struct_fault ts n d y fault.TooDeep p at is bad = (
  omega (arith, bad.later, bad.listed),
  deeper ts n bad.below d p record { type = y; index = bad.index; stands = at; holds = inr (inl is); subtype = bad.subtype; later = omega (arith, bad.later); listed = bad.listed } bad.deeper,
)
struct_fault ts n d y fault.TooMany p at is bad = bad
struct_fault ts n d y fault.RootNotStruct p at is bad = bad
struct_fault ts n d y (fault.BadText place) p at is (zero_place, inl among) =
    (zero_place, record { place = n; type = y; index = among.index; name = among.name; stands = at; named = among.named; is_struct = is; bad = among.bad })
struct_fault ts n d y (fault.BadText place) p at is (zero_place, inr bad) = (zero_place, bad)
struct_fault ts n d y fault.OutOfMemory p at is bad = tt

-- ---- a schema's list

-- the kind of the first type
first_kind : (ts : List TypeMsg) (x y : TypeMsg) (rest : List TypeMsg) → ts ≡ x ∷ rest → slice_get ts 0 ≡ Some y → x.kind ≡ y.kind
first_kind [] x y rest e g = cc
first_kind (z ∷ ts) x y rest e g = let one = same_head z x ts rest e in let two : z ≡ y = cc in sym one.kind ∙ ap (λ (t : TypeMsg). t.kind) two

struct_root : (s : Shape) (ts : List TypeMsg) (y : TypeMsg) (rest : List TypeMsg) → ts ≡ types s 0 ++ rest → slice_get ts 0 ≡ Some y → y.kind ≡ 12 → IsStruct s
struct_root (struct_of fs o) ts y rest e g k = tt
struct_root (list_of t o) ts y rest e g k = let n : ◌≡◌ {A = ℕ} 10 12 = first_kind ts _ y _ e g ∙ k in absurd (omega (arith, n))
struct_root (map_of t u o) ts y rest e g k = let n : ◌≡◌ {A = ℕ} 11 12 = first_kind ts _ y _ e g ∙ k in absurd (omega (arith, n))
struct_root (scalar j o) ts y rest e g k = absurd (not_struct j (first_kind ts _ y _ e g ∙ k))

whole_list : (ts : List TypeMsg) (e : ℕ) (s : Shape) → Found ts 0 32 s e → e ≡ length ts → ts ≡ types s 0
whole_list ts e s found l = found.stands ∙ ap (λ r. types s 0 ++ r) (drop_all e ts (omega arith)) ∙ append-nil (types s 0)

pub schema_from : (ts : List TypeMsg) (e : ℕ) (y : TypeMsg) (s : Shape) → Found ts 0 32 s e → e ≡ length ts → slice_get ts 0 ≡ Some y → y.kind ≡ 12 → length ts ≤ 4096 → AllKept ts → HasTypes s ts
schema_from ts e y s found l g k m kept =
    let all : ts ≡ types s 0 = whole_list ts e s found l in
    record {
      schema = record { root = struct_root s ts y (drop e ts) found.stands g k; names = found.names; levels = found.levels; count = omega (arith, found.ends_at); kept = subst AllKept all kept };
      listed = all;
    }

-- types are left over
pub more_types : (ts : List TypeMsg) (e : ℕ) (s : Shape) → Found ts 0 32 s e → ¬ (e ≡ length ts) → (t : Shape) → ts ≡ types t 0 → ⊥
more_types ts e s found wrong t h =
    let here : types s 0 ++ drop e ts ≡ types t 0 ++ [] = sym found.stands ∙ h ∙ sym (append-nil (types t 0)) in
    let r = one_tree s t 0 _ _ here in
    let n : length ts ≡ width s = ap length h ∙ length-types t 0 ∙ ap width (sym r.0) in
    wrong (found.ends_at ∙ omega (arith, n))

pub root_fault : (ts : List TypeMsg) (f : TypeFault) → AllByRecursion (λ t. IsKind t.kind) ts → PlaceFault ts 0 32 f → TypesFault ts f
root_fault ts (fault.UnsupportedKind k) kinds bad = bad
root_fault ts fault.BadTree kinds bad = record { kinds = kinds; none = λ s h. bad s [] (h ∙ sym (append-nil (types s 0))) }
root_fault ts fault.TooDeep kinds bad = bad.1
root_fault ts fault.TooMany kinds bad = absurd bad
root_fault ts fault.RootNotStruct kinds bad = absurd bad
root_fault ts (fault.BadText place) kinds bad = bad
root_fault ts fault.OutOfMemory kinds bad = tt

pub no_root : (ts : List TypeMsg) (y : TypeMsg) → slice_get ts 0 ≡ Some y → ¬ (y.kind ≡ 12) → HasNoRoot ts
no_root [] y at k = tt
no_root (t ∷ ts) y at k = let e : t ≡ y = cc in λ is. k (sym (ap (λ (n : TypeMsg). n.kind) e) ∙ is)

pub empty_root : (ts : List TypeMsg) → slice_get ts 0 ≡ None → HasNoRoot ts
empty_root [] at = tt
empty_root (t ∷ ts) at = cc
