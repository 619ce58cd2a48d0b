-- A list of types is a tree's, or has a fault.
use Rattle.std.proofs.Common.{◌≡◌, ℕ, zero, suc, ◌+◌, ◌≤◌, List, [], ◌∷◌, length, get_or, refl, sym, subst, arith, sub-one, inl, inr}
use Rattle.std.proofs.Common.{Bool, true, false, Option, Some, None}
use Rattle.std.specs.Prelude.{◌⊎◌, ◌≢◌, slice_get}
use Rattle.std.specs.List.{AllByRecursion}
use Rattle.std.specs.Str.{is_utf8}
use Rattle.orc_values.specs.declared.kind.Scalar.{Scalar}
use Rattle.orc_trees.specs.declared.fault.TypeFault.{TypeFault}
use Rattle.orc_trees.specs.declared.fault.TypeFault.TheVariants as fault
use Rattle.orc_values.specs.Kinds.{scalar_of, IsKind}
use Rattle.orc_wire.specs.declared.type_msg.TypeMsg.{TypeMsg}
use Rattle.orc_values.specs.Shapes.{Shape, scalar, list_of, map_of, struct_of, Fields, no_field, field}
use Rattle.orc_types.specs.Schemas.{HasTypes, AllKept}
use Rattle.orc_types.specs.Faults.{HasForeignKind, TypesFault}
use Rattle.orc_types.specs.Preorder.{HasKeyAt, Found, FoundFields, NoFieldsAt, PlaceFault, FieldsPlaceFault}
use Rattle.orc_types.proofs.Trees.{number-scalar_of, foreign, got_below, past_end, list_wrong, list_fault, list_found, struct_fault, struct_found, map_wrong, key_fault, value_wrong, value_fault, map_found}
use Rattle.orc_types.proofs.Trees.{scalar_wrong, scalar_found, lengths_wrong, place_wrong, one_more, field_fault, Reached, reached_none, reached_more}
use Rattle.orc_types.proofs.Trees.{schema_from, more_types, root_fault, no_root, empty_root}
use Rattle.orc_types.proofs.Decisions.{Decided, both, same_number, at_most, same_list, same_numbers}

-- a fault other than want of memory
abbrev pub HasFault : (TypeFault → Type 0) → Type 0
HasFault Stands = (why : TypeFault) × (why ≢ fault.OutOfMemory) × Stands why

-- these subtypes, and no name
abbrev HasSubtypes : TypeMsg → List ℕ → Type 0
HasSubtypes y ss = (y.subtypes ≡ ss) × (y.field_names ≡ [])

has_subtypes : (y : TypeMsg) (ss : List ℕ) → Decided (HasSubtypes y ss)
has_subtypes y ss = both (same_numbers y.subtypes ss) (same_list same_numbers y.field_names [])

-- two subtypes, the first of which begins at the place
has_key_at : (y : TypeMsg) (n : ℕ) → Decided (HasKeyAt y n)
has_key_at y n = by (same_number (length y.subtypes) 2) (same_number (get_or y.subtypes 0 0) n) (same_list same_numbers y.field_names []) where
  by : Decided (length y.subtypes ≡ 2) → Decided (get_or y.subtypes 0 0 ≡ n) → Decided (y.field_names ≡ []) → Decided (HasKeyAt y n)
  by (inl p) (inl q) (inl r) = inl (p, q, r)
  by (inr p) q r = inr (λ h. p h.0)
  by (inl p) (inr q) r = inr (λ h. q h.1)
  by (inl p) (inl q) (inr r) = inr (λ h. r h.2)

-- ---- kinds

kind_decided : (n : ℕ) → Decided (IsKind n)
kind_decided n = by (same_number n 10) (same_number n 12) (same_number n 11) (scalar_of n) refl where
  by : Decided (n ≡ 10) → Decided (n ≡ 12) → Decided (n ≡ 11) → (o : Option Scalar) → scalar_of n ≡ o → Decided (IsKind n)
  by (inl p) q m o e = inl (inr (inl p))
  by (inr p) (inl q) m o e = inl (inr (inr (inl q)))
  by (inr p) (inr q) (inl m) o e = inl (inr (inr (inr m)))
  by (inr p) (inr q) (inr m) None e = inr (foreign n e p q m)
  by (inr p) (inr q) (inr m) (Some k) e = inl (inl (k, number-scalar_of n k e))

later_foreign : (t : TypeMsg) (ts : List TypeMsg) (k : ℕ) → HasForeignKind ts k → HasForeignKind (t ∷ ts) k
later_foreign t ts k h = record { place = suc h.place; type = h.type; stands = h.stands; kind = h.kind; foreign = h.foreign }

abbrev HaveKinds : List TypeMsg → Type 0
HaveKinds ts = AllByRecursion (λ t. IsKind t.kind) ts

kinds_cover : (ts : List TypeMsg) → HaveKinds ts ⊎ ((k : ℕ) × HasForeignKind ts k)
kinds_cover [] = inl tt
kinds_cover (t ∷ ts) = by (kind_decided t.kind) (kinds_cover ts) where
  by : Decided (IsKind t.kind) → HaveKinds ts ⊎ ((k : ℕ) × HasForeignKind ts k) → HaveKinds (t ∷ ts) ⊎ ((k : ℕ) × HasForeignKind (t ∷ ts) k)
  by (inr alien) rest = inr (t.kind, record { place = 0; type = t; stands = refl; kind = refl; foreign = alien })
  by (inl is) (inr h) = inr (h.0, later_foreign t ts h.0 h.1)
  by (inl is) (inl all) = inl (is, all)

-- ---- fields

-- a tree stands at the place, or there is a reason why none does
abbrev PlaceCovered : List TypeMsg → ℕ → ℕ → Type 0
PlaceCovered ts n d = ((s : Shape) × (e : ℕ) × Found ts n d s e) ⊎ HasFault (PlaceFault ts n d)

abbrev FieldsCovered : List TypeMsg → ℕ → ℕ → List ℕ → List (List ℕ) → Type 0
FieldsCovered ts n d ss names = ((fs : Fields) × (e : ℕ) × FoundFields ts n d ss names fs e) ⊎ HasFault (FieldsPlaceFault ts n d ss names)

module _ (ts : List TypeMsg) (n d : ℕ) (ss : List ℕ) (name : List ℕ) (names : List (List ℕ)) where
  first : Reached ts n d (n ∷ ss) (name ∷ names) [] (n ∷ ss) (name ∷ names) n
  first = reached_none ts n d (n ∷ ss) (name ∷ names)

  first_fault : (f : TypeFault) → PlaceFault ts n d f → FieldsPlaceFault ts n d (n ∷ ss) (name ∷ names) f
  first_fault f bad = field_fault ts n d (n ∷ ss) (name ∷ names) [] 0 n f (omega arith) refl first bad

  module _ (text : is_utf8 name ≡ true) (t : Shape) (e : ℕ) (found : Found ts n d t e) where
    none_later : NoFieldsAt ts e ss names → NoFieldsAt ts n (n ∷ ss) (name ∷ names)
    none_later none =
        let second = reached_more ts n d (n ∷ ss) (name ∷ names) [] 0 n e name t (omega arith) (omega arith) refl refl text found first in
        second.none none

    -- the fault of a later field is one of the fields
    later_fault : (f : TypeFault) → FieldsPlaceFault ts e d ss names f → FieldsPlaceFault ts n d (n ∷ ss) (name ∷ names) f
    later_fault (fault.UnsupportedKind k) bad = bad
    later_fault fault.BadTree bad = none_later bad
    later_fault fault.TooDeep bad = record {
      below = bad.below;
      index = suc bad.index;
      subtype = bad.subtype;
      later = omega (arith, bad.later, found.ends_at);
      listed = bad.listed;
      deeper = bad.deeper;
    }
    later_fault fault.TooMany bad = absurd bad
    later_fault fault.RootNotStruct bad = absurd bad
    later_fault (fault.BadText place) (at, inl among) = (at, inl record { index = suc among.index; name = among.name; named = among.named; bad = among.bad })
    later_fault (fault.BadText place) (at, inr bad) = (at, inr bad)
    later_fault fault.OutOfMemory bad = tt

    -- a field's type, and the fields behind it
    joined_cover : FieldsCovered ts e d ss names → FieldsCovered ts n d (n ∷ ss) (name ∷ names)
    joined_cover (inl more) = inl (field name t more.0, more.1, one_more ts n e more.1 d name t more.0 ss names text found more.2)
    joined_cover (inr bad) = inr (bad.0, bad.1, later_fault bad.0 bad.2)

  module _ (here : PlaceCovered ts n d) (later : (e : ℕ) → FieldsCovered ts e d ss names) where
    here_cover : is_utf8 name ≡ true → PlaceCovered ts n d → FieldsCovered ts n d (n ∷ ss) (name ∷ names)
    here_cover text (inl found) = joined_cover text found.0 found.1 found.2 (later found.1)
    here_cover text (inr bad) = inr (bad.0, bad.1, first_fault bad.0 bad.2)

    field_cover : (s : ℕ) (b : Bool) → is_utf8 name ≡ b → Decided (s ≡ n) → FieldsCovered ts n d (s ∷ ss) (name ∷ names)
    field_cover s false text begins = inr (fault.BadText 0, λ e. cc, (refl, inl record { index = 0; name = name; named = refl; bad = text }))
    field_cover s true text (inr wrong) = inr (fault.BadTree, λ e. cc, place_wrong ts n s ss (name ∷ names) wrong)
    field_cover s true text (inl is) = subst (λ (m : ℕ). FieldsCovered ts n d (m ∷ ss) (name ∷ names)) (sym is) (here_cover text here)

fields_cover : (ts : List TypeMsg) (d : ℕ) → ((n : ℕ) → PlaceCovered ts n d) → (n : ℕ) (ss : List ℕ) (names : List (List ℕ)) → FieldsCovered ts n d ss names
fields_cover ts d place n [] [] =
    inl (no_field, n, record { texts = tt; levels = omega arith; begins = refl; named = refl; stands = refl; ends_at = omega arith })
fields_cover ts d place n [] (name ∷ names) = inr (fault.BadTree, λ e. cc, lengths_wrong ts n [] (name ∷ names) (λ e. omega (arith, e)))
fields_cover ts d place n (s ∷ ss) [] = inr (fault.BadTree, λ e. cc, lengths_wrong ts n (s ∷ ss) [] (λ e. omega (arith, e)))
fields_cover ts d place n (s ∷ ss) (name ∷ names) =
    field_cover ts n d ss name names (place n) (λ e. fields_cover ts d place e ss names) s (is_utf8 name) refl (same_number s n)

-- ---- a tree

-- a type stands at the place
module _ (ts : List TypeMsg) (n d : ℕ) (y : TypeMsg) (at : slice_get ts n ≡ Some y) where
  list_cover : y.kind ≡ 10 → Decided (HasSubtypes y ((n + 1) ∷ [])) → PlaceCovered ts (n + 1) d → PlaceCovered ts n (suc d)
  list_cover is (inr wrong) child = inr (fault.BadTree, λ e. cc, list_wrong ts n y at is wrong)
  list_cover is (inl p) (inl here) =
      inl (list_of here.0 y.kept, here.1, list_found ts n (suc d) here.1 y here.0 (omega arith) at is p.0 p.1 (rw sub-one here.2))
  list_cover is (inl p) (inr bad) = inr (bad.0, bad.1, list_fault ts n (suc d) y bad.0 (omega arith) at is p.0 (rw sub-one bad.2))

  value_cover : y.kind ≡ 11 → HasKeyAt y (n + 1) → (s : Shape) (mid : ℕ) → Found ts (n + 1) d s mid → Decided (get_or y.subtypes 1 0 ≡ mid) → PlaceCovered ts mid d → PlaceCovered ts n (suc d)
  value_cover is key s mid found (inr wrong) child = inr (fault.BadTree, λ e. cc, value_wrong ts n d mid y s at is found wrong)
  value_cover is key s mid found (inl p) (inl here) =
      inl (map_of s here.0 y.kept, here.1, map_found ts n (suc d) mid here.1 y s here.0 (omega arith) at is key p (rw sub-one found) (rw sub-one here.2))
  value_cover is key s mid found (inl p) (inr bad) = inr (bad.0, bad.1, value_fault ts n (suc d) mid y s bad.0 (omega arith) at is key p (rw sub-one found) (rw sub-one bad.2))

  map_cover : y.kind ≡ 11 → Decided (HasKeyAt y (n + 1)) → ((m : ℕ) → PlaceCovered ts m d) → PlaceCovered ts (n + 1) d → PlaceCovered ts n (suc d)
  map_cover is (inr wrong) place child = inr (fault.BadTree, λ e. cc, map_wrong ts n y at is wrong)
  map_cover is (inl key) place (inl here) = value_cover is key here.0 here.1 here.2 (same_number (get_or y.subtypes 1 0) here.1) (place here.1)
  map_cover is (inl key) place (inr bad) = inr (bad.0, bad.1, key_fault ts n (suc d) y bad.0 (omega arith) at is key (rw sub-one bad.2))

  struct_cover : y.kind ≡ 12 → FieldsCovered ts (n + 1) d y.subtypes y.field_names → PlaceCovered ts n (suc d)
  struct_cover is (inl fields) =
      inl (struct_of fields.0 y.kept, fields.1, struct_found ts n (suc d) fields.1 y fields.0 (omega arith) at is (rw sub-one fields.2))
  struct_cover is (inr bad) = inr (bad.0, bad.1, struct_fault ts n (suc d) y bad.0 (omega arith) at is (rw sub-one bad.2))

  scalar_cover : (o : Option Scalar) → scalar_of y.kind ≡ o → y.kind ≢ 10 → y.kind ≢ 12 → y.kind ≢ 11 → Decided (HasSubtypes y []) → PlaceCovered ts n (suc d)
  scalar_cover None e l s m parts =
      inr (fault.UnsupportedKind y.kind, λ e. cc, record { place = n; type = y; stands = at; kind = refl; foreign = foreign y.kind e l s m })
  scalar_cover (Some k) e l s m (inr wrong) = inr (fault.BadTree, λ e. cc, scalar_wrong ts n y at l s m wrong)
  scalar_cover (Some k) e l s m (inl p) = inl (scalar k y.kept, n + 1, scalar_found ts n (suc d) y k (omega arith) at (number-scalar_of y.kind k e) p.0 p.1)

  -- by the type's kind
  type_cover : ((m : ℕ) → PlaceCovered ts m d) → Decided (y.kind ≡ 10) → Decided (y.kind ≡ 12) → Decided (y.kind ≡ 11) → PlaceCovered ts n (suc d)
  type_cover place (inl l) s m = list_cover l (has_subtypes y ((n + 1) ∷ [])) (place (n + 1))
  type_cover place (inr l) (inl s) m = struct_cover s (fields_cover ts d place (n + 1) y.subtypes y.field_names)
  type_cover place (inr l) (inr s) (inl m) = map_cover m (has_key_at y (n + 1)) place (place (n + 1))
  type_cover place (inr l) (inr s) (inr m) = scalar_cover (scalar_of y.kind) refl l s m (has_subtypes y [])

at_cover : (ts : List TypeMsg) (n d : ℕ) → ((y : TypeMsg) → slice_get ts n ≡ Some y → PlaceCovered ts n d)
    → (o : Option TypeMsg) → slice_get ts n ≡ o → PlaceCovered ts n d
at_cover ts n d here None at = inr (fault.BadTree, λ e. cc, past_end ts n at)
at_cover ts n d here (Some y) at = here y at

place_cover : (ts : List TypeMsg) (d n : ℕ) → PlaceCovered ts n d
place_cover ts zero n = at_cover ts n 0 (λ y at. inr (fault.TooDeep, λ e. cc, (got_below ts n y at, tt))) (slice_get ts n) refl
place_cover ts (suc d) n =
    at_cover ts n (suc d) (λ y at. type_cover ts n d y at (place_cover ts d) (same_number y.kind 10) (same_number y.kind 12) (same_number y.kind 11)) (slice_get ts n) refl

-- ---- a schema's list

abbrev pub SchemaCovered : List TypeMsg → Type 0
SchemaCovered ts = ((s : Shape) × HasTypes s ts) ⊎ HasFault (TypesFault ts)

module _ (ts : List TypeMsg) (kept : AllKept ts) (y : TypeMsg) (at : slice_get ts 0 ≡ Some y) where
  tree_cover : HaveKinds ts → y.kind ≡ 12 → length ts ≤ 4096 → PlaceCovered ts 0 32 → SchemaCovered ts
  tree_cover kinds is few (inr bad) = inr (bad.0, bad.1, root_fault ts bad.0 kinds bad.2)
  tree_cover kinds is few (inl here) = by (same_number here.1 (length ts)) where
    by : Decided (here.1 ≡ length ts) → SchemaCovered ts
    by (inl p) = inl (here.0, schema_from ts here.1 y here.0 here.2 p at is few kept)
    by (inr p) = inr (fault.BadTree, λ e. cc, record { kinds = kinds; none = more_types ts here.1 here.0 here.2 p })

  root_cover : Decided (y.kind ≡ 12) → Decided (length ts ≤ 4096) → HaveKinds ts ⊎ ((k : ℕ) × HasForeignKind ts k) → SchemaCovered ts
  root_cover (inr p) few kinds = inr (fault.RootNotStruct, λ e. cc, no_root ts y at p)
  root_cover (inl p) (inr many) kinds = inr (fault.TooMany, λ e. cc, omega (arith, many))
  root_cover (inl p) (inl few) (inr bad) = inr (fault.UnsupportedKind bad.0, λ e. cc, bad.1)
  root_cover (inl p) (inl few) (inl kinds) = tree_cover kinds p few (place_cover ts 32 0)

-- types are a tree's, or have a fault
pub schema_cover : (ts : List TypeMsg) → AllKept ts → SchemaCovered ts
schema_cover ts kept = by (slice_get ts 0) refl where
  by : (o : Option TypeMsg) → slice_get ts 0 ≡ o → SchemaCovered ts
  by None at = inr (fault.RootNotStruct, λ e. cc, empty_root ts at)
  by (Some y) at = root_cover ts kept y at (same_number y.kind 12) (at_most (length ts) 4096) (kinds_cover ts)
