-- A fault that stands leaves no schema, and schemas compare equal exactly where they are one tree.
use Rattle.std.proofs.Common.{◌≡◌, ℕ, zero, suc, ◌+◌, ◌<◌, ◌++◌, ◌⊎◌, List, [], ◌∷◌, length, drop, Bool, true, false, ◌==◌, Some, refl, sym, ap, ◌∙◌, subst, append_assoc, arith, append-nil, inl, inr}
use Rattle.std.proofs.lemmas.Bool.{and_parts}
use Rattle.std.specs.Prelude.{slice_get, ◌↔◌}
use Rattle.std.specs.List.{AllByRecursion}
use Rattle.std.specs.Str.{is_utf8}
use Rattle.std.specs.Cmp.Lexicographic.{pointwise}
use Rattle.std.proofs.lemmas.Bool.{eqb-true, eq-eqb}
use Rattle.orc_wire.specs.declared.type_msg.TypeMsg.{TypeMsg}
use Rattle.orc_trees.specs.declared.fault.TypeFault.{TypeFault}
use Rattle.orc_trees.specs.declared.fault.TypeFault.TheVariants as fault
use Rattle.orc_values.specs.Kinds.{IsKind}
use Rattle.orc_wire.specs.Types.{types, fields_types}
use Rattle.orc_values.specs.Shapes.{Shape, scalar, list_of, map_of, struct_of, Fields, no_field, field, width, depth, depths, HasTextNames, HaveTextNames, names_of, IsStruct, starts}
use Rattle.orc_types.specs.Schemas.{HasTypes, same_node, same_types}
use Rattle.orc_types.specs.Faults.{HasNoRoot, IsSubtype, Descends, TypesFault}
use Rattle.orc_types.proofs.Trees.{past, slice_get_at, drop_suc, length-types, one_list}
use Rattle.orc_trees.proofs.Depths.{depth_pos}
use Rattle.orc_values.proofs.Lists.{all_append}

-- ---- facts of all elements

all_at : {X : Type 0} (P : X → Type 0) (xs : List X) (i : ℕ) (x : X) → AllByRecursion P xs → slice_get xs i ≡ Some x → P x
all_at P [] zero x all at = cc
all_at P [] (suc i) x all at = cc
all_at P (y ∷ ys) zero x all at = let e : y ≡ x = cc in subst P e all.0
all_at P (y ∷ ys) (suc i) x all at = all_at P ys i x all.1 at

abbrev HasKind : TypeMsg → Type 0
HasKind t = IsKind t.kind

mutual
  kinds_of : (s : Shape) (n : ℕ) → AllByRecursion HasKind (types s n)
  kinds_of (scalar k o) n = (inl (k, refl), tt)
  kinds_of (list_of s o) n = (inr (inl refl), kinds_of s (n + 1))
  kinds_of (map_of s t o) n = (inr (inr (inr refl)), all_append HasKind (types s (n + 1)) (types t (n + 1 + width s)) (kinds_of s (n + 1)) (kinds_of t (n + 1 + width s)))
  kinds_of (struct_of fs o) n = (inr (inr (inl refl)), kinds_of_fields fs (n + 1))

  kinds_of_fields : (fs : Fields) (n : ℕ) → AllByRecursion HasKind (fields_types fs n)
  kinds_of_fields no_field n = tt
  kinds_of_fields (field name s fs) n = all_append HasKind (types s n) (fields_types fs (n + width s)) (kinds_of s n) (kinds_of_fields fs (n + width s))

abbrev IsText : List ℕ → Type 0
IsText name = is_utf8 name ≡ true

abbrev HasTexts : TypeMsg → Type 0
HasTexts t = AllByRecursion IsText t.field_names

names_texts : (fs : Fields) → HaveTextNames fs → AllByRecursion IsText (names_of fs)
names_texts no_field h = tt
names_texts (field name s fs) h = (h.0, names_texts fs h.2)

mutual
  texts_of : (s : Shape) (n : ℕ) → HasTextNames s → AllByRecursion HasTexts (types s n)
  texts_of (scalar k o) n h = (tt, tt)
  texts_of (list_of s o) n h = (tt, texts_of s (n + 1) h)
  texts_of (map_of s t o) n h = (tt, all_append HasTexts (types s (n + 1)) (types t (n + 1 + width s)) (texts_of s (n + 1) h.0) (texts_of t (n + 1 + width s) h.1))
  texts_of (struct_of fs o) n h = (names_texts fs h, texts_of_fields fs (n + 1) h)

  texts_of_fields : (fs : Fields) (n : ℕ) → HaveTextNames fs → AllByRecursion HasTexts (fields_types fs n)
  texts_of_fields no_field n h = tt
  texts_of_fields (field name s fs) n h = all_append HasTexts (types s n) (fields_types fs (n + width s)) (texts_of s n h.1) (texts_of_fields fs (n + width s) h.2)

-- ---- ways down

none_got : (i x : ℕ) → slice_get (let e : List ℕ = [] in e) i ≡ Some x → ⊥
none_got zero x h = cc
none_got (suc i) x h = cc

one_got : (a i x : ℕ) → slice_get (a ∷ []) i ≡ Some x → a ≡ x
one_got a zero x h = cc
one_got a (suc i) x h = absurd (none_got i x h)

two_got : (a b i x : ℕ) → slice_get (a ∷ b ∷ []) i ≡ Some x → (a ≡ x) ⊎ (b ≡ x)
two_got a b zero x h = inl cc
two_got a b (suc i) x h = inr (one_got b i x h)

below_of : (ts : List TypeMsg) (n : ℕ) (y : TypeMsg) (rest : List TypeMsg) (below : ℕ) → drop n ts ≡ y ∷ rest → IsSubtype ts n below → (index : ℕ) × (slice_get y.subtypes index ≡ Some below)
below_of ts n y rest below h b =
    let at : Some b.type ≡ Some y = sym b.stands ∙ slice_get_at ts n y rest h in
    let e : b.type ≡ y = cc in
    (b.index, subst (λ (t : TypeMsg). slice_get t.subtypes b.index ≡ Some below) e b.subtype)

-- a way down is shorter than the tree is deep
mutual
  descends_tree : (s : Shape) (ts : List TypeMsg) (n : ℕ) (rest : List TypeMsg) (steps : ℕ) → drop n ts ≡ types s n ++ rest → Descends ts n steps → steps < depth s
  descends_tree s ts n rest zero h way = depth_pos s
  descends_tree (scalar k o) ts n rest (suc steps) h way =
      let b = below_of ts n _ rest way.0 h way.1 in
      absurd (none_got b.0 way.0 b.1)
  descends_tree (list_of s o) ts n rest (suc steps) h way =
      let b = below_of ts n _ (types s (n + 1) ++ rest) way.0 h way.1 in
      let at : n + 1 ≡ way.0 = one_got (n + 1) b.0 way.0 b.1 in
      let more : steps < depth s = descends_tree s ts (n + 1) rest steps (drop_suc ts n _ (types s (n + 1) ++ rest) h) (subst (λ (m : ℕ). Descends ts m steps) (sym at) way.2) in
      omega arith
  descends_tree (map_of s t o) ts n rest (suc steps) h way =
      let b = below_of ts n _ ((types s (n + 1) ++ types t (n + 1 + width s)) ++ rest) way.0 h way.1 in
      let r : drop (n + 1) ts ≡ types s (n + 1) ++ (types t (n + 1 + width s) ++ rest) =
      drop_suc ts n _ ((types s (n + 1) ++ types t (n + 1 + width s)) ++ rest) h ∙ append_assoc (types s (n + 1)) (types t (n + 1 + width s)) rest in
      elim (two_got (n + 1) (n + 1 + width s) b.0 way.0 b.1) [
        | inl e ↦ (let more : steps < depth s = descends_tree s ts (n + 1) (types t (n + 1 + width s) ++ rest) steps r (subst (λ (m : ℕ). Descends ts m steps) (sym e) way.2) in omega arith)
        | inr e ↦ (let more : steps < depth t = descends_tree t ts (n + 1 + width s) rest steps (past ts s (n + 1) (types t (n + 1 + width s) ++ rest) r) (subst (λ (m : ℕ). Descends ts m steps) (sym e) way.2) in omega arith)
      ]
  descends_tree (struct_of fs o) ts n rest (suc steps) h way =
      let b = below_of ts n _ (fields_types fs (n + 1) ++ rest) way.0 h way.1 in
      let more : steps < depths fs = descends_fields fs ts (n + 1) rest b.0 way.0 steps (drop_suc ts n _ (fields_types fs (n + 1) ++ rest) h) b.1 way.2 in
      omega arith

  descends_fields : (fs : Fields) (ts : List TypeMsg) (n : ℕ) (rest : List TypeMsg) (index below steps : ℕ) → drop n ts ≡ fields_types fs n ++ rest → slice_get (starts fs n) index ≡ Some below → Descends ts below steps → steps < depths fs
  descends_fields no_field ts n rest index below steps h at way = absurd (none_got index below at)
  descends_fields (field name s fs) ts n rest zero below steps h at way =
      let e : n ≡ below = cc in
      let more : steps < depth s = descends_tree s ts n (fields_types fs (n + width s) ++ rest) steps (h ∙ append_assoc (types s n) (fields_types fs (n + width s)) rest) (subst (λ (m : ℕ). Descends ts m steps) (sym e) way) in
      omega arith
  descends_fields (field name s fs) ts n rest (suc index) below steps h at way =
      let more : steps < depths fs = descends_fields fs ts (n + width s) rest index below steps (past ts s n (fields_types fs (n + width s) ++ rest) (h ∙ append_assoc (types s n) (fields_types fs (n + width s)) rest)) at way in
      omega arith

no_struct : (s : Shape) (ts : List TypeMsg) → IsStruct s → ts ≡ types s 0 → HasNoRoot ts → ⊥
no_struct (scalar k o) ts is e bad = is
no_struct (list_of s o) ts is e bad = is
no_struct (map_of s t o) ts is e bad = is
no_struct (struct_of fs o) ts is e bad = subst HasNoRoot e bad refl

-- a fault that stands leaves no schema
pub no_schema : (ts : List TypeMsg) (s : Shape) (f : TypeFault) → HasTypes s ts → TypesFault ts f → f ≡ fault.OutOfMemory
no_schema ts s (fault.UnsupportedKind k) h bad =
    absurd (bad.foreign (subst IsKind bad.kind (all_at HasKind ts bad.place bad.type (subst (AllByRecursion HasKind) (sym h.listed) (kinds_of s 0)) bad.stands)))
no_schema ts s fault.BadTree h bad = absurd (bad.none s h.listed)
no_schema ts s fault.TooDeep h bad =
    let deep : 32 < depth s = descends_tree s ts 0 [] 32 (h.listed ∙ sym (append-nil (types s 0))) bad in
    absurd (omega (arith, h.schema.levels))
no_schema ts s fault.TooMany h bad =
    let n : length ts ≡ width s = ap length h.listed ∙ length-types s 0 in
    absurd (omega (arith, h.schema.count))
no_schema ts s fault.RootNotStruct h bad = absurd (no_struct s ts h.schema.root h.listed bad)
no_schema ts s (fault.BadText place) h bad =
    let texts = all_at HasTexts ts bad.1.place bad.1.type (subst (AllByRecursion HasTexts) (sym h.listed) (texts_of s 0 h.schema.names)) bad.1.stands in
    let good : is_utf8 bad.1.name ≡ true = all_at IsText bad.1.type.field_names bad.1.index bad.1.name texts bad.1.named in
    let wrong : is_utf8 bad.1.name ≡ false = bad.1.bad in
    cc
no_schema ts s fault.OutOfMemory h bad = refl

-- ---- equality

pointwise_same : {X : Type 0} (E : X → X → Bool) → ((x y : X) → E x y ≡ true → x ≡ y) → (xs ys : List X) → pointwise E xs ys ≡ true → xs ≡ ys
pointwise_same E same [] [] h = refl
pointwise_same E same [] (y ∷ ys) h = cc
pointwise_same E same (x ∷ xs) [] h = cc
pointwise_same E same (x ∷ xs) (y ∷ ys) h =
    let p = and_parts (E x y) (pointwise E xs ys) h in
    rw (same x y p.0, pointwise_same E same xs ys p.1) refl

pointwise_self : {X : Type 0} (E : X → X → Bool) → ((x : X) → E x x ≡ true) → (xs : List X) → pointwise E xs xs ≡ true
pointwise_self E self [] = refl
pointwise_self E self (x ∷ xs) = rw (self x, pointwise_self E self xs) refl

numbers_same : (xs ys : List ℕ) → pointwise ◌==◌ xs ys ≡ true → xs ≡ ys
numbers_same = pointwise_same ◌==◌ eqb-true

numbers_self : (xs : List ℕ) → pointwise ◌==◌ xs xs ≡ true
numbers_self = pointwise_self ◌==◌ (λ n. eq-eqb n n refl)

node_same : (x y : TypeMsg) → same_node x y ≡ true → x ≡ y
node_same x y h =
    let a = and_parts (x.kind == y.kind) _ h in
    let b = and_parts (pointwise ◌==◌ x.subtypes y.subtypes) _ a.1 in
    let d = and_parts (pointwise (pointwise ◌==◌) x.field_names y.field_names) _ b.1 in
    rw (eqb-true x.kind y.kind a.0, numbers_same x.subtypes y.subtypes b.0, pointwise_same (pointwise ◌==◌) numbers_same x.field_names y.field_names d.0, numbers_same x.kept y.kept d.1) refl

node_self : (x : TypeMsg) → same_node x x ≡ true
node_self x = rw (eq-eqb x.kind x.kind refl, numbers_self x.subtypes, pointwise_self (pointwise ◌==◌) numbers_self x.field_names, numbers_self x.kept) refl

pub equal_schemas : (s t : Shape) → (same_types s t ≡ true) ↔ (s ≡ t)
equal_schemas s t = (
  λ h. one_list s t 0 (pointwise_same same_node node_same (types s 0) (types t 0) h),
  λ e. subst (λ (x : Shape). same_types s x ≡ true) e (pointwise_self same_node node_self (types s 0)),
)
