-- What stands at the front of a text, and what stands there not.
use Rattle.std.proofs.Common.{◌≡◌, ◌≢◌, ℕ, zero, suc, ◌-◌, ◌<◌, ◌≤◌, List, [], ◌∷◌, ◌++◌, length, get_or, drop, Bool, true, false, ◌==◌, codes, refl, sym, ap, ◌∙◌, subst, arith, length-append, sub-one, drop-cons}
use Rattle.std.specs.List.{AllByRecursion}
use Rattle.std.proofs.lemmas.List.{append_cancel_left, drop_all}
use Rattle.orc_values.specs.declared.kind.Scalar.{Scalar}
use Rattle.orc_values.specs.declared.kind.Scalar.TheVariants as kind
use Rattle.orc_trees.specs.declared.fault.TypeFault.{TypeFault}
use Rattle.orc_trees.specs.declared.fault.TypeFault.TheVariants as fault
use Rattle.orc_values.specs.Shapes.{Shape, scalar, list_of, map_of, struct_of, Fields, no_field, field, depth, depths}
use Rattle.orc_trees.specs.SchemaText.{kind_name, comma, colon, text, fields_text, name_text, IsName, IsPlain, ArePlain}
use Rattle.orc_trees.specs.TextFaults.{is_empty, EntersField, EntersType, element, key, value, member, Opens}
use Rattle.orc_trees.specs.TextFronts.{IsTypeFront, IsFieldFront, IsFieldsFront, NoFront, NoFieldFront, NoFieldsFront, FrontFaultBy, FrontFault, NoSigned, SignedFault, NoNameFront, NameFrontFault, FieldOpens, FieldFault, FieldsFault}
use Rattle.orc_values.specs.Views.{fields_of, fields}
use Rattle.orc_values.specs.declared.tree.Field.{Field}
use Rattle.std.proofs.Math.Dec.{eqb-suc-zero}
use Rattle.orc_trees.proofs.OneText.{kind_or_map, array_or_map, map_or_struct, map_text, kind_or_array, kind_or_struct, array_or_struct, array_text, struct_text, field_text, no_field_closes, one_field, one_text}
use Rattle.orc_trees.proofs.TextExclusion.{begins, begins_later, begins_first}

-- ---- kinds

abbrev NoKind : List ℕ → Scalar → Type 0
NoKind bytes k = (rest : List ℕ) → bytes ≢ kind_name k ++ rest

-- where the kinds that are left don't begin here, none does
abbrev pub KindsLeft : List ℕ → List Scalar → Type 0
KindsLeft bytes left = AllByRecursion (NoKind bytes) left → (k : Scalar) (rest : List ℕ) → bytes ≢ kind_name k ++ rest

pub all_kinds : (bytes : List ℕ) → KindsLeft bytes (kind.Boolean ∷ kind.Byte ∷ kind.Short ∷ kind.Int ∷ kind.Long ∷ kind.String ∷ kind.Binary ∷ kind.Date ∷ [])
all_kinds bytes none kind.Boolean = none.0
all_kinds bytes none kind.Byte = none.1.0
all_kinds bytes none kind.Short = none.1.1.0
all_kinds bytes none kind.Int = none.1.1.1.0
all_kinds bytes none kind.Long = none.1.1.1.1.0
all_kinds bytes none kind.String = none.1.1.1.1.1.0
all_kinds bytes none kind.Binary = none.1.1.1.1.1.1.0
all_kinds bytes none kind.Date = none.1.1.1.1.1.1.1.0

pub kinds_more : (bytes : List ℕ) (ks : List Scalar) (i : ℕ) (d : Scalar) → i < length ks → NoKind bytes (get_or ks i d) → KindsLeft bytes (drop i ks) → KindsLeft bytes (drop (suc i) ks)
kinds_more bytes ks i d h none left later = left (subst (AllByRecursion (NoKind bytes)) (sym (drop-cons ks i d h)) (none, later))

pub kinds_all : (bytes : List ℕ) (ks : List Scalar) (i : ℕ) → length ks ≤ i → KindsLeft bytes (drop i ks) → (k : Scalar) (rest : List ℕ) → bytes ≢ kind_name k ++ rest
kinds_all bytes ks i h left = left (subst (AllByRecursion (NoKind bytes)) (sym (drop_all i ks h)) tt)

-- ---- types

-- what stands behind a front is no longer
behind : (bytes front rest : List ℕ) → bytes ≡ front ++ rest → length rest ≤ length bytes
behind bytes front rest h = omega (arith, ap length h ∙ length-append front rest)

pub array_front : (bytes inner : List ℕ) (d : ℕ) (s : Shape) (rest : List ℕ) → 0 < d → bytes ≡ codes "array<" ++ inner → IsTypeFront inner (d - 1) s (codes ">" ++ rest) → IsTypeFront bytes d (list_of s []) rest
array_front bytes inner d s rest p h found =
    record {
      plain = (refl, found.plain);
      depth = omega (arith, found.depth);
      spelled = h ∙ ap (λ (r : List ℕ). codes "array<" ++ r) found.spelled ∙ sym (array_text s [] rest);
    }

pub map_front : (bytes inner : List ℕ) (d : ℕ) (s : Shape) (second : List ℕ) (t : Shape) (rest : List ℕ) → 0 < d → bytes ≡ codes "map<" ++ inner → IsTypeFront inner (d - 1) s (codes "," ++ second)
    → IsTypeFront second (d - 1) t (codes ">" ++ rest) → IsTypeFront bytes d (map_of s t []) rest
map_front bytes inner d s second t rest p h found more =
    record {
      plain = (refl, found.plain, more.plain);
      depth = omega (arith, found.depth, more.depth);
      spelled = h ∙ ap (λ (r : List ℕ). codes "map<" ++ r) (found.spelled ∙ ap (λ (r : List ℕ). text s ++ (codes "," ++ r)) more.spelled) ∙ sym (map_text s t [] rest);
    }

pub struct_front : (bytes inner : List ℕ) (d : ℕ) (fs : Fields) (rest : List ℕ) → 0 < d → bytes ≡ codes "struct<" ++ inner → IsFieldsFront inner (d - 1) fs rest → IsTypeFront bytes d (struct_of fs []) rest
struct_front bytes inner d fs rest p h found =
    record {
      plain = (refl, found.plain);
      depth = omega (arith, found.depths);
      spelled = h ∙ ap (λ (r : List ℕ). codes "struct<" ++ r) found.spelled ∙ sym (struct_text fs [] rest);
    }

-- none of the four begins
pub no_front : (bytes : List ℕ) → ((rest : List ℕ) → bytes ≢ codes "array<" ++ rest) → ((rest : List ℕ) → bytes ≢ codes "map<" ++ rest) → ((rest : List ℕ) → bytes ≢ codes "struct<" ++ rest) → ((k : Scalar) (rest : List ℕ) → bytes ≢ kind_name k ++ rest) → NoFront bytes
no_front bytes array mapped struct kinds (scalar k o) rest plain h = kinds k rest h
no_front bytes array mapped struct kinds (list_of s o) rest plain h = array _ (h ∙ array_text s o rest)
no_front bytes array mapped struct kinds (map_of s t o) rest plain h = mapped _ (h ∙ map_text s t o rest)
no_front bytes array mapped struct kinds (struct_of fs o) rest plain h = struct _ (h ∙ struct_text fs o rest)

-- an array whose inner text begins with no element and its bracket
no_array : (bytes inner : List ℕ) → bytes ≡ codes "array<" ++ inner → ((s : Shape) (rest : List ℕ) → IsPlain s → inner ≢ text s ++ (codes ">" ++ rest)) → NoFront bytes
no_array bytes inner e none (scalar k o) rest plain h = kind_or_array k rest inner (sym h ∙ e)
no_array bytes inner e none (list_of s o) rest plain h = none s rest plain.1 (append_cancel_left (codes "array<") _ _ (sym e ∙ h ∙ array_text s o rest))
no_array bytes inner e none (map_of s t o) rest plain h = array_or_map inner _ (sym e ∙ h ∙ map_text s t o rest)
no_array bytes inner e none (struct_of fs o) rest plain h = array_or_struct inner _ (sym e ∙ h ∙ struct_text fs o rest)

-- a map whose inner text begins with no key, comma, value and bracket
abbrev NoPairFront : List ℕ → Type 0
NoPairFront inner = (s t : Shape) (rest : List ℕ) → IsPlain s → IsPlain t → inner ≢ text s ++ (codes "," ++ (text t ++ (codes ">" ++ rest)))

no_map : (bytes inner : List ℕ) → bytes ≡ codes "map<" ++ inner → NoPairFront inner → NoFront bytes
no_map bytes inner e none (scalar k o) rest plain h = kind_or_map k rest inner (sym h ∙ e)
no_map bytes inner e none (list_of s o) rest plain h = array_or_map _ inner (sym (array_text s o rest) ∙ sym h ∙ e)
no_map bytes inner e none (map_of s t o) rest plain h = none s t rest plain.1 plain.2 (append_cancel_left (codes "map<") _ _ (sym e ∙ h ∙ map_text s t o rest))
no_map bytes inner e none (struct_of fs o) rest plain h = map_or_struct inner _ (sym e ∙ h ∙ struct_text fs o rest)

no_struct : (bytes inner : List ℕ) → bytes ≡ codes "struct<" ++ inner → NoFieldsFront inner true → NoFront bytes
no_struct bytes inner e none (scalar k o) rest plain h = kind_or_struct k rest inner (sym h ∙ e)
no_struct bytes inner e none (list_of s o) rest plain h = array_or_struct _ inner (sym (array_text s o rest) ∙ sym h ∙ e)
no_struct bytes inner e none (map_of s t o) rest plain h = map_or_struct _ inner (sym (map_text s t o rest) ∙ sym h ∙ e)
no_struct bytes inner e none (struct_of fs o) rest plain h = none fs rest plain.1 (append_cancel_left (codes "struct<") _ _ (sym e ∙ h ∙ struct_text fs o rest))

enters : (bytes inner : List ℕ) (d : ℕ) → 0 < d → EntersType bytes inner → Opens inner (d - 1) → Opens bytes d
enters bytes inner zero p is deeper = absurd (omega arith)
enters bytes inner (suc d) p is deeper = (inner, is, rw sub-one at deeper)

-- a fault further on is one of the whole
fault_turned : (a b : List ℕ) (D E N M : Type 0) (f : TypeFault) → length a ≤ length b → (D → E) → (N → M) → FrontFaultBy a D N f → FrontFaultBy b E M f
fault_turned a b D E N M (fault.UnsupportedKind k) h deep wrong bad = bad
fault_turned a b D E N M fault.BadTree h deep wrong bad = bad
fault_turned a b D E N M fault.TooDeep h deep wrong bad = deep bad
fault_turned a b D E N M fault.TooMany h deep wrong bad = bad
fault_turned a b D E N M fault.RootNotStruct h deep wrong bad = bad
fault_turned a b D E N M (fault.BadText left) h deep wrong bad = (omega (arith, bad.0), wrong bad.1)
fault_turned a b D E N M fault.OutOfMemory h deep wrong bad = tt

-- without a type at the front, there is no type with a sign after it
pub sign_fault : (bytes sign : List ℕ) (d : ℕ) (f : TypeFault) → FrontFault bytes d f → SignedFault bytes sign d f
sign_fault bytes sign d f =
    fault_turned bytes bytes (Opens bytes d) (Opens bytes d) (NoFront bytes) (NoSigned bytes sign) f (omega arith) (λ deep. deep)
    (λ none s rest plain e. none s (sign ++ rest) plain e)

-- the bytes after the type at the front don't begin with the sign
pub no_sign : (bytes sign : List ℕ) (levels : ℕ) (s : Shape) (left : List ℕ) → IsTypeFront bytes levels s left → ((rest : List ℕ) → left ≢ sign ++ rest) → (length left ≤ length bytes) × NoSigned bytes sign
no_sign bytes sign levels s left found goes_on = (
  behind bytes (text s) left found.spelled,
  λ t rest plain e. goes_on rest (one_text s t left (sign ++ rest) found.plain plain (sym found.spelled ∙ e)).1,
)

-- why an array is refused for its element
pub array_fault : (bytes inner : List ℕ) (d : ℕ) (f : TypeFault) → 0 < d → bytes ≡ codes "array<" ++ inner → SignedFault inner (codes ">") (d - 1) f → FrontFault bytes d f
array_fault bytes inner d f p h =
    fault_turned inner bytes (Opens inner (d - 1)) (Opens bytes d) (NoSigned inner (codes ">")) (NoFront bytes) f (behind bytes (codes "array<") inner h) (enters bytes inner d p (element h))
    (no_array bytes inner h)

-- why a map is refused for its key
pub key_fault : (bytes inner : List ℕ) (d : ℕ) (f : TypeFault) → 0 < d → bytes ≡ codes "map<" ++ inner → SignedFault inner (codes ",") (d - 1) f → FrontFault bytes d f
key_fault bytes inner d f p h =
    fault_turned inner bytes (Opens inner (d - 1)) (Opens bytes d) (NoSigned inner (codes ",")) (NoFront bytes) f (behind bytes (codes "map<") inner h) (enters bytes inner d p (key h))
    (λ none. no_map bytes inner h (λ s t rest is_s is_t e. none s (text t ++ (codes ">" ++ rest)) is_s e))

-- what stands behind the comma is a map's, as the key is the map's
second_same : (inner second : List ℕ) (levels : ℕ) (s t u : Shape) (rest : List ℕ) → IsTypeFront inner levels s (codes "," ++ second) → IsPlain t → inner ≡ text t ++ (codes "," ++ (text u ++ (codes ">" ++ rest)))
    → second ≡ text u ++ (codes ">" ++ rest)
second_same inner second levels s t u rest found is_t h =
    append_cancel_left (codes ",") second (text u ++ (codes ">" ++ rest)) (one_text s t (codes "," ++ second) (codes "," ++ (text u ++ (codes ">" ++ rest))) found.plain is_t (sym found.spelled ∙ h)).1

-- why a map is refused for its value
pub value_fault : (bytes inner second : List ℕ) (d : ℕ) (s : Shape) (f : TypeFault) → 0 < d → bytes ≡ codes "map<" ++ inner → IsTypeFront inner (d - 1) s (codes "," ++ second) → SignedFault second (codes ">") (d - 1) f → FrontFault bytes d f
value_fault bytes inner second d s f p h found =
    fault_turned second bytes (Opens second (d - 1)) (Opens bytes d) (NoSigned second (codes ">")) (NoFront bytes) f
    (omega (arith, behind bytes (codes "map<") inner h, behind inner (text s) (codes "," ++ second) found.spelled, behind (codes "," ++ second) (codes ",") second refl))
    (enters bytes second d p (value s found.plain (h ∙ ap (λ (r : List ℕ). codes "map<" ++ r) found.spelled)))
    (λ none. no_map bytes inner h (λ t u rest is_t is_u g. none u rest is_u (second_same inner second (d - 1) s t u rest found is_t g)))

-- why a struct is refused for its fields
pub struct_fault : (bytes inner : List ℕ) (d : ℕ) (f : TypeFault) → 0 < d → bytes ≡ codes "struct<" ++ inner → FieldsFault inner (d - 1) f → FrontFault bytes d f
struct_fault bytes inner d f p h =
    fault_turned inner bytes ((deep : List ℕ) × EntersField inner deep × Opens deep (d - 1)) (Opens bytes d) (NoFieldsFront inner true) (NoFront bytes) f (behind bytes (codes "struct<") inner h)
    (λ way. enters bytes way.0 d p (member inner h way.1) way.2) (no_struct bytes inner h)

-- ---- a field

-- why a field is refused for its name
pub name_fault : (bytes named : List ℕ) (first : Bool) (d : ℕ) (f : TypeFault) → bytes ≡ comma first ++ named → NameFrontFault named f → FieldFault bytes first d f
name_fault bytes named first d f h =
    fault_turned named bytes ⊥ (FieldOpens bytes first d) (NoNameFront named) (NoFieldFront bytes first) f (behind bytes (comma first) named h) (λ none. absurd none)
    (λ none name s rest is plain e. none name (text s ++ rest) is (append_cancel_left (comma first) named (name_text name ++ (colon ++ (text s ++ rest))) (sym h ∙ e)))

-- why a field is refused for its type
pub type_fault : (bytes named inner : List ℕ) (first : Bool) (d : ℕ) (name : List ℕ) (f : TypeFault) → bytes ≡ comma first ++ named → named ≡ name_text name ++ (colon ++ inner) → IsName name → FrontFault inner d f → FieldFault bytes first d f
type_fault bytes named inner first d name f h e is =
    let whole : bytes ≡ comma first ++ (name_text name ++ (colon ++ inner)) = h ∙ ap (λ (r : List ℕ). comma first ++ r) e in
    let most : length inner ≤ length bytes = omega (arith, behind bytes (comma first) named h, behind named (name_text name) (colon ++ inner) e, behind (colon ++ inner) colon inner refl) in
    fault_turned inner bytes (Opens inner d) (FieldOpens bytes first d) (NoFront inner) (NoFieldFront bytes first) f most
    (λ deep. record { name = name; inner = inner; named = is; spelled = whole; deeper = deep })
    (λ none other s rest other_is plain g. none s rest plain (one_field first name other inner (text s ++ rest) is other_is (sym whole ∙ g)).1)

-- ---- fields, one after the other

fields_push : (first : Bool) (gs : List (List ℕ × Shape)) (name : List ℕ) (s : Shape) (x : List ℕ)
    → fields_text first (fields_of (gs ++ (name, s) ∷ [])) ++ x ≡ fields_text first (fields_of gs) ++ (comma (begins first (fields_of gs)) ++ (name_text name ++ (colon ++ (text s ++ x))))
fields_push first [] name s x = field_text first name s no_field x
fields_push first (g ∷ gs) name s x =
    let later : fields_text false (fields_of (gs ++ (name, s) ∷ [])) ++ x ≡ fields_text false (fields_of gs) ++ (comma false ++ (name_text name ++ (colon ++ (text s ++ x)))) =
    fields_push false gs name s x ∙ ap (λ (b : Bool). fields_text false (fields_of gs) ++ (comma b ++ (name_text name ++ (colon ++ (text s ++ x))))) (begins_later (fields_of gs)) in
    field_text first g.0 g.1 (fields_of (gs ++ (name, s) ∷ [])) x ∙ ap (λ (r : List ℕ). comma first ++ (name_text g.0 ++ (colon ++ (text g.1 ++ r)))) later
    ∙ sym (field_text first g.0 g.1 (fields_of gs) (comma false ++ (name_text name ++ (colon ++ (text s ++ x)))))

plain_push : (gs : List (List ℕ × Shape)) (name : List ℕ) (s : Shape) → ArePlain (fields_of gs) → IsName name → IsPlain s → ArePlain (fields_of (gs ++ (name, s) ∷ []))
plain_push [] name s all is plain = (is, plain, tt)
plain_push (g ∷ gs) name s all is plain = (all.0, all.1, plain_push gs name s all.2 is plain)

depths_push : (gs : List (List ℕ × Shape)) (name : List ℕ) (s : Shape) (d : ℕ) → depths (fields_of gs) ≤ d → depth s ≤ d → depths (fields_of (gs ++ (name, s) ∷ [])) ≤ d
depths_push [] name s d all h = omega arith
depths_push (g ∷ gs) name s d all h = omega (arith, depths_push gs name s d (omega arith) h)

not_empty : (gs : List (List ℕ × Shape)) (g : List ℕ × Shape) → is_empty (fields_of (gs ++ g ∷ [])) ≡ false
not_empty [] g = refl
not_empty (h ∷ gs) g = refl

pub none_yet : (fs : List Field) (n : ℕ) → n ≡ length fs → (n == 0) ≡ is_empty (fields fs)
none_yet [] n h = rw h refl
none_yet (f ∷ fs) n h = rw h (eqb-suc-zero (length fs))

-- Some fields stand in front of what is left, and where no fields stand there, none stand at all.
pub record Reached (bytes : List ℕ) (d : ℕ) (gs : List (List ℕ × Shape)) (left : List ℕ) : Type 0 where
  pub plain : ArePlain (fields_of gs)
  pub depth : depths (fields_of gs) ≤ d
  pub spelled : bytes ≡ fields_text true (fields_of gs) ++ left
  pub none : NoFieldsFront left (is_empty (fields_of gs)) → NoFieldsFront bytes true

pub reached_none : (bytes : List ℕ) (d : ℕ) → Reached bytes d [] bytes
reached_none bytes d = record { plain = tt; depth = omega arith; spelled = refl; none = λ h. h }

next_none : (left : List ℕ) (first : Bool) (d : ℕ) (name : List ℕ) (s : Shape) (rest : List ℕ) → IsFieldFront left first d name s rest → NoFieldsFront rest false → NoFieldsFront left first
next_none left first d name s rest found none no_field x plain h = no_field_closes first name x _ (sym h ∙ found.spelled)
next_none left first d name s rest found none (field other t fs) x plain h =
    let n = one_field first name other (text s ++ rest) _ found.named plain.0 (sym found.spelled ∙ h ∙ field_text first other t fs (codes ">" ++ x)) in
    let r = one_text s t rest (fields_text false fs ++ (codes ">" ++ x)) found.plain plain.1 n.1 in
    none fs x plain.2 r.1

pub reached_more : (bytes : List ℕ) (d : ℕ) (gs : List (List ℕ × Shape)) (left : List ℕ) (first : Bool) (name : List ℕ) (s : Shape) (rest : List ℕ)
    → first ≡ is_empty (fields_of gs) → IsFieldFront left first d name s rest → Reached bytes d gs left → Reached bytes d (gs ++ (name, s) ∷ []) rest
reached_more bytes d gs left first name s rest e found r =
    let here : comma first ≡ comma (begins true (fields_of gs)) = ap comma (e ∙ sym (begins_first (fields_of gs))) in
    record {
      plain = plain_push gs name s r.plain found.named found.plain;
      depth = depths_push gs name s d r.depth found.depth;
      spelled = r.spelled ∙ ap (λ (x : List ℕ). fields_text true (fields_of gs) ++ x) (found.spelled ∙ ap (λ (c : List ℕ). c ++ (name_text name ++ (colon ++ (text s ++ rest)))) here) ∙ sym (fields_push true gs name s rest);
      none = λ later. r.none (subst (NoFieldsFront left) e (next_none left first d name s rest found (subst (NoFieldsFront rest) (not_empty gs (name, s)) later)));
    }

pub reached_all : (bytes : List ℕ) (d : ℕ) (gs : List (List ℕ × Shape)) (left rest : List ℕ) → left ≡ codes ">" ++ rest → Reached bytes d gs left → IsFieldsFront bytes d (fields_of gs) rest
reached_all bytes d gs left rest closes r =
    record { plain = r.plain; depths = r.depth; spelled = r.spelled ∙ ap (λ (x : List ℕ). fields_text true (fields_of gs) ++ x) closes }

-- no field stands here, and no bracket
no_fields : (left : List ℕ) (first : Bool) → ((rest : List ℕ) → left ≢ codes ">" ++ rest) → NoFieldFront left first → NoFieldsFront left first
no_fields left first goes_on none no_field rest plain h = goes_on rest h
no_fields left first goes_on none (field name s fs) rest plain h = none name s (fields_text false fs ++ (codes ">" ++ rest)) plain.0 plain.1 (h ∙ field_text first name s fs (codes ">" ++ rest))

-- why fields are refused for one of them
pub field_fault : (bytes : List ℕ) (d : ℕ) (gs : List (List ℕ × Shape)) (left : List ℕ) (first : Bool) (f : TypeFault)
    → first ≡ is_empty (fields_of gs) → ((rest : List ℕ) → left ≢ codes ">" ++ rest) → Reached bytes d gs left → FieldFault left first d f → FieldsFault bytes d f
field_fault bytes d gs left first f e goes_on r =
    fault_turned left bytes (FieldOpens left first d) ((inner : List ℕ) × EntersField bytes inner × Opens inner d) (NoFieldFront left first) (NoFieldsFront bytes true) f (behind bytes (fields_text true (fields_of gs)) left r.spelled)
    (λ deep. (
      deep.inner,
      record {
        before = fields_of gs;
        name = deep.name;
        plain = r.plain;
        named = deep.named;
        spelled = r.spelled ∙ ap (λ (x : List ℕ). fields_text true (fields_of gs) ++ x) (deep.spelled ∙ ap (λ (b : Bool). comma b ++ (name_text deep.name ++ (colon ++ deep.inner))) e);
      },
      deep.deeper,
    ))
    (λ none. r.none (subst (NoFieldsFront left) e (no_fields left first goes_on none)))
