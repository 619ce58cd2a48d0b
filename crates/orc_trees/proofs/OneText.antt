-- A text is of one plain type at most, whatever stands behind it.
use Rattle.std.proofs.Common.{◌≡◌, ℕ, List, [], ◌++◌, Bool, true, false, cond, ◌==◌, Option, Some, None, codes, refl, sym, ap, ◌∙◌, subst, append_assoc, arith, get_or, append-nil}
use Rattle.std.proofs.lemmas.List.{append_cancel_left}
use Rattle.orc_values.specs.declared.kind.Scalar.{Scalar}
use Rattle.orc_values.specs.declared.kind.Scalar.TheVariants as kind
use Rattle.orc_values.specs.Shapes.{Shape, scalar, list_of, map_of, struct_of, Fields, no_field, field}
use Rattle.orc_trees.specs.SchemaText.{kind_name, comma, colon, text, fields_text, name_text, IsName, IsPlain, ArePlain}
use Rattle.orc_trees.proofs.NameTexts.{bracket_ends, one_name, no_name}

-- ---- the first bytes tell the kind

-- the kind that begins here, if one of those that contain no other does
abbrev kind_begun : List ℕ → Option Scalar
kind_begun bytes =
    cond (get_or bytes 0 0 == 105) (Some kind.Int)
    (cond (get_or bytes 0 0 == 116) (Some kind.Byte)
    (cond (get_or bytes 0 0 == 100) (Some kind.Date)
    (cond (get_or bytes 0 0 == 98) (cond (get_or bytes 2 0 == 111) (Some kind.Boolean) (cond (get_or bytes 2 0 == 103) (Some kind.Long) (Some kind.Binary)))
    (cond (get_or bytes 0 0 == 115) (cond (get_or bytes 3 0 == 108) (Some kind.Short) (cond (get_or bytes 3 0 == 105) (Some kind.String) None)) None))))

kind_is_begun : (k : Scalar) (x : List ℕ) → kind_begun (kind_name k ++ x) ≡ Some k
kind_is_begun kind.Boolean x = refl
kind_is_begun kind.Byte x = refl
kind_is_begun kind.Short x = refl
kind_is_begun kind.Int x = refl
kind_is_begun kind.Long x = refl
kind_is_begun kind.String x = refl
kind_is_begun kind.Binary x = refl
kind_is_begun kind.Date x = refl

pub one_kind : (j k : Scalar) (x y : List ℕ) → kind_name j ++ x ≡ kind_name k ++ y → (j ≡ k) × (x ≡ y)
one_kind j k x y h =
    let same : Some j ≡ Some k = sym (kind_is_begun j x) ∙ ap kind_begun h ∙ kind_is_begun k y in
    let e : j ≡ k = cc in
    (e, append_cancel_left (kind_name k) x y (subst (λ (i : Scalar). kind_name i ++ x ≡ kind_name k ++ y) e h))

pub kind_or_array : (k : Scalar) (x y : List ℕ) → kind_name k ++ x ≡ codes "array<" ++ y → ⊥
kind_or_array k x y h = let e : Some k ≡ None = sym (kind_is_begun k x) ∙ ap kind_begun h in cc

pub kind_or_struct : (k : Scalar) (x y : List ℕ) → kind_name k ++ x ≡ codes "struct<" ++ y → ⊥
kind_or_struct k x y h = let e : Some k ≡ None = sym (kind_is_begun k x) ∙ ap kind_begun h in cc

pub kind_or_map : (k : Scalar) (x y : List ℕ) → kind_name k ++ x ≡ codes "map<" ++ y → ⊥
kind_or_map k x y h = let e : Some k ≡ None = sym (kind_is_begun k x) ∙ ap kind_begun h in cc

pub array_or_map : (x y : List ℕ) → codes "array<" ++ x ≡ codes "map<" ++ y → ⊥
array_or_map x y h = let e : ◌≡◌ {A = ℕ} 97 109 = ap (λ (b : List ℕ). get_or b 0 0) h in omega (arith, e)

pub map_or_struct : (x y : List ℕ) → codes "map<" ++ x ≡ codes "struct<" ++ y → ⊥
map_or_struct x y h = let e : ◌≡◌ {A = ℕ} 109 115 = ap (λ (b : List ℕ). get_or b 0 0) h in omega (arith, e)

pub array_or_struct : (x y : List ℕ) → codes "array<" ++ x ≡ codes "struct<" ++ y → ⊥
array_or_struct x y h = let e : ◌≡◌ {A = ℕ} 97 115 = ap (λ (b : List ℕ). get_or b 0 0) h in omega (arith, e)

-- ---- texts, with what stands behind them

pub array_text : (s : Shape) (o x : List ℕ) → text (list_of s o) ++ x ≡ codes "array<" ++ (text s ++ (codes ">" ++ x))
array_text s o x = ap (λ (r : List ℕ). codes "array<" ++ r) (append_assoc (text s) (codes ">") x)

pub struct_text : (fs : Fields) (o x : List ℕ) → text (struct_of fs o) ++ x ≡ codes "struct<" ++ (fields_text true fs ++ (codes ">" ++ x))
struct_text fs o x = ap (λ (r : List ℕ). codes "struct<" ++ r) (append_assoc (fields_text true fs) (codes ">") x)

five : (a b c d e x : List ℕ) → ((((a ++ b) ++ c) ++ d) ++ e) ++ x ≡ a ++ (b ++ (c ++ (d ++ (e ++ x))))
five a b c d e x = simp append_assoc

pub map_text : (k v : Shape) (o x : List ℕ) → text (map_of k v o) ++ x ≡ codes "map<" ++ (text k ++ (codes "," ++ (text v ++ (codes ">" ++ x))))
map_text k v o x = five (codes "map<") (text k) (codes ",") (text v) (codes ">") x

pub field_text : (first : Bool) (name : List ℕ) (s : Shape) (fs : Fields) (x : List ℕ)
    → fields_text first (field name s fs) ++ x ≡ comma first ++ (name_text name ++ (colon ++ (text s ++ (fields_text false fs ++ x))))
field_text first name s fs x = five (comma first) (name_text name) colon (text s) (fields_text false fs) x

-- ---- fields

pub no_field_closes : (first : Bool) (name x y : List ℕ) → codes ">" ++ x ≡ comma first ++ (name_text name ++ y) → ⊥
no_field_closes true name x y h = no_name name 62 x y bracket_ends (λ e. omega (arith, e)) h
no_field_closes false name x y h = let e : ◌≡◌ {A = ℕ} 62 44 = ap (λ (b : List ℕ). get_or b 0 0) h in omega (arith, e)

pub one_field : (first : Bool) (v w x y : List ℕ) → IsName v → IsName w → comma first ++ (name_text v ++ (colon ++ x)) ≡ comma first ++ (name_text w ++ (colon ++ y)) → (v ≡ w) × (x ≡ y)
one_field first v w x y vs ws h = one_name v w x y vs ws (append_cancel_left (comma first) (name_text v ++ (colon ++ x)) (name_text w ++ (colon ++ y)) h)

-- ---- one text

mutual
  pub one_text : (s t : Shape) (x y : List ℕ) → IsPlain s → IsPlain t → text s ++ x ≡ text t ++ y → (s ≡ t) × (x ≡ y)
  one_text (scalar j o) (scalar k p) x y a b h = let e = one_kind j k x y h in (rw (e.0, a, b) refl, e.1)
  one_text (scalar k o) (list_of t p) x y a b h = absurd (kind_or_array k x _ (h ∙ array_text t p y))
  one_text (scalar k o) (struct_of gs p) x y a b h = absurd (kind_or_struct k x _ (h ∙ struct_text gs p y))
  one_text (list_of s o) (scalar k p) x y a b h = absurd (kind_or_array k y _ (sym h ∙ array_text s o x))
  one_text (list_of s o) (list_of t p) x y a b h =
      let r = one_text s t (codes ">" ++ x) (codes ">" ++ y) a.1 b.1 (append_cancel_left (codes "array<") _ _ (sym (array_text s o x) ∙ h ∙ array_text t p y)) in
      (rw (r.0, a.0, b.0) refl, append_cancel_left (codes ">") x y r.1)
  one_text (list_of s o) (struct_of gs p) x y a b h = absurd (array_or_struct _ _ (sym (array_text s o x) ∙ h ∙ struct_text gs p y))
  one_text (scalar k o) (map_of s t p) x y a b h = absurd (kind_or_map k x _ (h ∙ map_text s t p y))
  one_text (list_of s o) (map_of t u p) x y a b h = absurd (array_or_map _ _ (sym (array_text s o x) ∙ h ∙ map_text t u p y))
  one_text (map_of s t o) (scalar k p) x y a b h = absurd (kind_or_map k y _ (sym h ∙ map_text s t o x))
  one_text (map_of s t o) (list_of u p) x y a b h = absurd (array_or_map _ _ (sym (array_text u p y) ∙ sym h ∙ map_text s t o x))
  one_text (map_of s t o) (struct_of gs p) x y a b h = absurd (map_or_struct _ _ (sym (map_text s t o x) ∙ h ∙ struct_text gs p y))
  one_text (map_of s t o) (map_of u v p) x y a b h =
      let r = one_text s u (codes "," ++ (text t ++ (codes ">" ++ x))) (codes "," ++ (text v ++ (codes ">" ++ y))) a.1 b.1 (append_cancel_left (codes "map<") _ _ (sym (map_text s t o x) ∙ h ∙ map_text u v p y)) in
      let q = one_text t v (codes ">" ++ x) (codes ">" ++ y) a.2 b.2 (append_cancel_left (codes ",") _ _ r.1) in
      (rw (r.0, q.0, a.0, b.0) refl, append_cancel_left (codes ">") x y q.1)
  one_text (struct_of fs o) (map_of u v p) x y a b h = absurd (map_or_struct _ _ (sym (map_text u v p y) ∙ sym h ∙ struct_text fs o x))
  one_text (struct_of fs o) (scalar k p) x y a b h = absurd (kind_or_struct k y _ (sym h ∙ struct_text fs o x))
  one_text (struct_of fs o) (list_of t p) x y a b h = absurd (array_or_struct _ _ (sym (array_text t p y) ∙ sym h ∙ struct_text fs o x))
  one_text (struct_of fs o) (struct_of gs p) x y a b h =
      let r = one_fields true fs gs x y a.1 b.1 (append_cancel_left (codes "struct<") _ _ (sym (struct_text fs o x) ∙ h ∙ struct_text gs p y)) in
      (rw (r.0, a.0, b.0) refl, r.1)

  pub one_fields : (first : Bool) (fs gs : Fields) (x y : List ℕ) → ArePlain fs → ArePlain gs → fields_text first fs ++ (codes ">" ++ x) ≡ fields_text first gs ++ (codes ">" ++ y) → (fs ≡ gs) × (x ≡ y)
  one_fields first no_field no_field x y a b h = (refl, append_cancel_left (codes ">") x y h)
  one_fields first no_field (field name t gs) x y a b h = absurd (no_field_closes first name x _ (h ∙ field_text first name t gs (codes ">" ++ y)))
  one_fields first (field name s fs) no_field x y a b h = absurd (no_field_closes first name y _ (sym h ∙ field_text first name s fs (codes ">" ++ x)))
  one_fields first (field name s fs) (field other t gs) x y a b h =
      let n = one_field first name other _ _ a.0 b.0 (sym (field_text first name s fs (codes ">" ++ x)) ∙ h ∙ field_text first other t gs (codes ">" ++ y)) in
      let r = one_text s t (fields_text false fs ++ (codes ">" ++ x)) (fields_text false gs ++ (codes ">" ++ y)) a.1 b.1 n.1 in
      let q = one_fields false fs gs x y a.2 b.2 r.1 in
      (rw (n.0, r.0, q.0) refl, q.1)

-- a text is of one plain type at most
pub one_whole : (s t : Shape) → IsPlain s → IsPlain t → text s ≡ text t → s ≡ t
one_whole s t a b h = (one_text s t [] [] a b (append-nil (text s) ∙ h ∙ sym (append-nil (text t)))).0
