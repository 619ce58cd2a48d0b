-- Pairs of user metadata are found by a map of their names.
use Rattle.std.proofs.Common.{◌≡◌, ◌≢◌, ℕ, zero, suc, ◌+◌, ◌<◌, inl, inr, Bool, true, false, cond, List, [], ◌∷◌, ◌++◌, length, Option, Some, None, refl, sym, ap, ◌∙◌, subst, arith}
use Rattle.std.specs.Prelude.{Contains, IsSome, IfSome, IfNone, All, slice_index_or}
use Rattle.std.specs.Borrow.{Bor}
use Rattle.std.specs.Slice.{IsItemAt}
use Rattle.std.specs.Map.{lookup}
use Rattle.std.specs.BTreeMap.{BTreeMap, insert_entry, is_at, IsEmpty}
use Rattle.std.specs.Ordering.{is_eq, nat_cmp, match_ordering}
use Rattle.std.specs.Cmp.Lexicographic.{slice_cmp}
use Rattle.std.specs.Str.{bytes_eq}
use Rattle.std.specs.declared.cmp.Ordering.{Ordering}
use Rattle.std.specs.declared.cmp.Ordering.TheVariants.{Less, Equal, Greater}
use Rattle.std.specs.declared.vec.Vec.{Vec}
use Rattle.std.proofs.lemmas.List.{length_push, get_or_append_left, get_or_default}
use Rattle.std.proofs.lemmas.List.Elements.{Contains-append_cases}
use Rattle.std.proofs.lemmas.Map.Lookups.{exact_bytes}
use Rattle.std.proofs.lemmas.Map.Text.{is_eq-slice_cmp}
use Rattle.std.proofs.lemmas.Slice.Eq.{bytes_eq-Decides}
use Rattle.orc_wire.specs.declared.footer.UserMetadataItem.{UserMetadataItem}
use Rattle.orc_merger.specs.PairPlaces.{place_of, IsNamedAt, ArePairPlaces}
use Rattle.orc_merger.proofs.Names.{in_cons}

-- ---- a map with one name more

-- whether a key has these bytes
abbrev is_name : {Y : Type 0} → List ℕ → Vec ℕ Y → Bool
is_name {Y} name = is_at (λ (k : Vec ℕ Y). slice_cmp nat_cmp name k.items)

abbrev by_bytes : {Y : Type 0} → Vec ℕ Y → Vec ℕ Y → Ordering
by_bytes x y = slice_cmp nat_cmp x.items y.items

one_key : (a b : Bool) (v w o : Option ℕ) → a ≡ b → cond a v o ≡ cond b v (cond a w o)
one_key true true v w o e = refl
one_key false false v w o e = refl
one_key true false v w o e = cc
one_key false true v w o e = cc

two_keys : (a b : Bool) (v w o : Option ℕ) → (a ≡ true → b ≡ true → ⊥) → cond a w (cond b v o) ≡ cond b v (cond a w o)
two_keys true true v w o ne = absurd (ne refl refl)
two_keys true false v w o ne = refl
two_keys false true v w o ne = refl
two_keys false false v w o ne = refl

same_name : (name key : List ℕ) → is_eq (slice_cmp nat_cmp name key) ≡ true → name ≡ key
same_name name key e = (bytes_eq-Decides name key).0 (sym (is_eq-slice_cmp name key) ∙ e)

-- a key behind others keeps them
apart : (name key other : List ℕ) → slice_cmp nat_cmp key other ≡ Greater → is_eq (slice_cmp nat_cmp name other) ≡ true → bytes_eq name key ≡ true → ⊥
apart name key other greater at_other at_key =
    let same : key ≡ other = sym ((bytes_eq-Decides name key).0 at_key) ∙ same_name name other at_other in
    let equal : is_eq (slice_cmp nat_cmp key other) ≡ true = is_eq-slice_cmp key other ∙ (bytes_eq-Decides key other).1 same in
    let wrong : false ≡ true = sym (ap is_eq greater) ∙ equal in
    cc

put_step : {Y : Type 0} (e : Vec ℕ Y × ℕ) (es more : List (Vec ℕ Y × ℕ)) (k : Vec ℕ Y) (v : ℕ) (name : List ℕ) (r : Ordering) → by_bytes k e.0 ≡ r
    → lookup (is_name name) more ≡ cond (bytes_eq name k.items) (Some v) (lookup (is_name name) es)
    → lookup (is_name name) (match_ordering r ((k, v) ∷ e ∷ es) ((e.0, v) ∷ es) (e ∷ more)) ≡ cond (bytes_eq name k.items) (Some v) (lookup (is_name name) (e ∷ es))
put_step e es more k v name Less is rest = ap (λ (b : Bool). cond b (Some v) (lookup (is_name name) (e ∷ es))) (is_eq-slice_cmp name k.items)
put_step e es more k v name Equal is rest =
    let same : k.items ≡ e.0.items = exact_bytes k.items e.0.items is in
    one_key (is_name name e.0) (bytes_eq name k.items) (Some v) (Some e.1) (lookup (is_name name) es) (is_eq-slice_cmp name e.0.items ∙ ap (bytes_eq name) (sym same))
put_step e es more k v name Greater is rest =
    ap (λ (o : Option ℕ). cond (is_name name e.0) (Some e.1) o) rest
    ∙ two_keys (is_name name e.0) (bytes_eq name k.items) (Some v) (Some e.1) (lookup (is_name name) es) (apart name k.items e.0.items is)

lookup-insert_name : {Y : Type 0} (es : List (Vec ℕ Y × ℕ)) (k : Vec ℕ Y) (v : ℕ) (name : List ℕ)
    → lookup (is_name name) (insert_entry by_bytes es k v) ≡ cond (bytes_eq name k.items) (Some v) (lookup (is_name name) es)
lookup-insert_name [] k v name = ap (λ (b : Bool). cond b (Some v) None) (is_eq-slice_cmp name k.items)
lookup-insert_name (e ∷ es) k v name = put_step e es (insert_entry by_bytes es k v) k v name (by_bytes k e.0) refl (lookup-insert_name es k v name)

place-insert : {Y : Type 0} (old new : BTreeMap (Vec ℕ Y) ℕ) (k : Vec ℕ Y) (v : ℕ) → new.entries ≡ insert_entry by_bytes old.entries k v
    → (name : List ℕ) → place_of new name ≡ cond (bytes_eq name k.items) (Some v) (place_of old name)
place-insert old new k v e name = ap (λ es. lookup (is_name name) es) e ∙ lookup-insert_name old.entries k v name

-- ---- a pair behind the others

last_is : (xs : List UserMetadataItem) (p d : UserMetadataItem) (i : ℕ) → length xs ≡ i → slice_index_or (xs ++ p ∷ []) i d ≡ p
last_is [] p d zero e = refl
last_is [] p d (suc i) e = absurd (omega (arith, e))
last_is (x ∷ xs) p d zero e = absurd (omega (arith, e))
last_is (x ∷ xs) p d (suc i) e = last_is xs p d i (omega (arith, e))

named_push : (b : Bool) (pairs : List UserMetadataItem) (p : UserMetadataItem) (name : List ℕ) (i : ℕ) (o : Option ℕ) → (b ≡ true → p.name ≡ name)
    → (o ≡ Some i → IsNamedAt pairs name i) → cond b (Some (length pairs)) o ≡ Some i → IsNamedAt (pairs ++ p ∷ []) name i
named_push true pairs p name i o same old is =
    let here : length pairs ≡ i = cc in
    let more : length (pairs ++ p ∷ []) ≡ length pairs + 1 = length_push pairs p in
    (omega (arith, here, more), λ d. ap (λ (q : UserMetadataItem). q.name) (last_is pairs p d i here) ∙ same refl)
named_push false pairs p name i o same old is =
    let at = old is in
    let more : length (pairs ++ p ∷ []) ≡ length pairs + 1 = length_push pairs p in
    (omega (arith, at.0, more), λ d. ap (λ (q : UserMetadataItem). q.name) (get_or_append_left pairs (p ∷ []) d i at.0) ∙ at.1 d)

some_either : (b : Bool) (v : ℕ) (o : Option ℕ) → IsSome o → IsSome (cond b (Some v) o)
some_either true v o is = refl
some_either false v o is = is

some_here : (b : Bool) (v : ℕ) (o : Option ℕ) → b ≡ true → IsSome (cond b (Some v) o)
some_here true v o e = refl
some_here false v o e = cc

pub places_push : {Y : Type 0} (pairs : List UserMetadataItem) (p : UserMetadataItem) (old new : BTreeMap (Vec ℕ Y) ℕ) (k : Vec ℕ Y) (v : ℕ) → k.items ≡ p.name → v ≡ length pairs
    → new.entries ≡ insert_entry by_bytes old.entries k v → ArePairPlaces pairs old → ArePairPlaces (pairs ++ p ∷ []) new
places_push pairs p old new k v named last e are =
    let now : (name : List ℕ) → place_of new name ≡ cond (bytes_eq name p.name) (Some (length pairs)) (place_of old name)
    = λ name. place-insert old new k v e name ∙ ap (λ (x : List ℕ). cond (bytes_eq name x) (Some v) (place_of old name)) named
    ∙ ap (λ (n : ℕ). cond (bytes_eq name p.name) (Some n) (place_of old name)) last in
    record {
      each = λ q c. subst (λ (o : Option ℕ). IsSome o) (sym (now q.name)) (elim (Contains-append_cases pairs (p ∷ []) q c) [
        | inl there ↦ some_either (bytes_eq q.name p.name) (length pairs) (place_of old q.name) (are.each q there)
        | inr here ↦ elim (in_cons p [] q here) [
          | inl is ↦ some_here (bytes_eq q.name p.name) (length pairs) (place_of old q.name) ((bytes_eq-Decides q.name p.name).1 (ap (λ (x : UserMetadataItem). x.name) (sym is)))
          | inr none ↦ absurd (omega (arith, none.1))
        ]
      ]);
      found = λ name i is. named_push (bytes_eq name p.name) pairs p name i (place_of old name) (λ t. sym ((bytes_eq-Decides name p.name).0 t)) (are.found name i) (sym (now name) ∙ is);
    }

-- ---- what is found

pub no_places : {Y : Type 0} (places : BTreeMap (Vec ℕ Y) ℕ) → IsEmpty places → ArePairPlaces [] places
no_places places empty = record {
  each = λ p c. absurd (omega (arith, c.1));
  found = λ name i is.
      let none : place_of places name ≡ None = ap (λ es. lookup (is_name name) es) empty in
      let wrong : None ≡ Some i = sym none ∙ is in cc;
}

-- at the place of a name
pub named_there : (pairs : List UserMetadataItem) (name : List ℕ) (i : ℕ) (r : Option (Bor UserMetadataItem)) → IsItemAt pairs i r → IsNamedAt pairs name i
    → IfSome r (λ x. Contains pairs x.now × (x.now.name ≡ name))
named_there pairs name i None at named = tt
named_there pairs name i (Some x) at named = ((i, named.0, sym at.1), ap (λ (q : UserMetadataItem). q.name) at.1 ∙ named.1 x.now)

-- something stands at a place among them
pub some_there : (pairs : List UserMetadataItem) (i : ℕ) (P : Type 0) (r : Option (Bor UserMetadataItem)) → IsItemAt pairs i r → i < length pairs → IfNone r P
some_there pairs i P None at lt = absurd (omega (arith, at.3, lt))
some_there pairs i P (Some x) at lt = tt

-- no pair has a name that the map doesn't have
pub none_named : {Y : Type 0} (pairs : List UserMetadataItem) (places : BTreeMap (Vec ℕ Y) ℕ) (name : List ℕ) → ArePairPlaces pairs places → None ≡ place_of places name
    → All (λ (q : UserMetadataItem). q.name ≢ name) pairs
none_named pairs places name are none = λ i d lt e.
    let q : UserMetadataItem = slice_index_or pairs i d in
    let has : IsSome (place_of places q.name) = are.each q (i, lt, get_or_default pairs i q d lt) in
    let wrong : IsSome {T = ℕ} None = subst (λ (o : Option ℕ). IsSome o) (ap (place_of places) e ∙ sym none) has in cc
