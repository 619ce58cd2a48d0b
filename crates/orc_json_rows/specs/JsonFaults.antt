-- What stands where a JSON value spells no row of a schema
-- (values by RFC 8259, types by the ORC specification, "Types").
use Rattle.std.specs.Prelude.{ℕ, List, ◌≡◌, ◌≢◌, ◌⊎◌, false, Some}
use Rattle.serde_json.specs.Data.{Data, null as nothing, array, object, Items, no_items, item, Members}
use Rattle.serde_json.specs.Find.{at, get}
use Rattle.orc_json_rows.specs.declared.json_fault.JsonFault.{JsonFault}
use Rattle.orc_json_rows.specs.declared.json_fault.JsonFault.TheVariants as fault
use Rattle.orc_values.specs.Shapes.{Shape, scalar, list_of, map_of, struct_of, Fields, no_field, field, names_of}
use Rattle.orc_json_rows.specs.FieldNames.{all_known}
use Rattle.orc_json_rows.specs.JsonLeaves.{LeafFault}

-- neither null nor an array
abbrev pub IsNoArray : Data → Type 0
IsNoArray d = (d ≢ nothing) × ((ds : Items) → d ≢ array ds)

-- neither null nor an object
abbrev pub IsNoObject : Data → Type 0
IsNoObject d = (d ≢ nothing) × ((ms : Members) → d ≢ object ms)

-- some key of the object is none of the names
abbrev pub HasUnknownKey : List (List ℕ) → Data → Type 0
HasUnknownKey names d = (ms : Members) × (d ≡ object ms) × (all_known names ms ≡ false)

-- of some element of an array
abbrev pub InElement : (Data → Type 0) → Data → Type 0
InElement Is d = (i : ℕ) × (e : Data) × (at i d ≡ Some e) × Is e

-- no array of two
abbrev pub IsNoPair : Data → Type 0
IsNoPair d = (x y : Data) → d ≢ array (item x (item y no_items))

-- the fault is of this value itself, and not of one inside it
abbrev pub FaultAt : JsonFault → Shape → Data → Type 0
FaultAt e (scalar k o) d = LeafFault k d e
FaultAt e (list_of s o) d = (e ≡ fault.WrongShape) × IsNoArray d
FaultAt e (map_of k v o) d = (e ≡ fault.WrongShape) × (IsNoArray d ⊎ InElement IsNoPair d)
FaultAt e (struct_of fs o) d =
    ((e ≡ fault.WrongShape) × IsNoObject d) ⊎ ((e ≡ fault.UnknownField) × HasUnknownKey (names_of fs) d)

-- in the key or in the value of an array of two
abbrev pub InPair : (Data → Type 0) → (Data → Type 0) → Data → Type 0
InPair Key Value d = (x : Data) × (y : Data) × (d ≡ array (item x (item y no_items))) × (Key x ⊎ Value y)

-- in the JSON value, or in one inside it that the schema has a type for
abbrev mutual
  pub Somewhere : (Shape → Data → Type 0) → Shape → Data → Type 0
  Somewhere Is (scalar k o) d = Is (scalar k o) d
  Somewhere Is (list_of s o) d = Is (list_of s o) d ⊎ InElement (λ e. Somewhere Is s e) d
  Somewhere Is (map_of k v o) d =
      Is (map_of k v o) d ⊎ InElement (λ p. InPair (λ e. Somewhere Is k e) (λ e. Somewhere Is v e) p) d
  Somewhere Is (struct_of fs o) d = Is (struct_of fs o) d ⊎ InField Is fs d

  pub InField : (Shape → Data → Type 0) → Fields → Data → Type 0
  InField Is no_field d = ⊥
  InField Is (field name s fs) d = ((e : Data) × (get name d ≡ Some e) × Somewhere Is s e) ⊎ InField Is fs d

-- of a pair: it is none, or its key or its value has the fault
abbrev pub PairFault : JsonFault → Shape → Shape → Data → Type 0
PairFault e k v d =
    ((e ≡ fault.WrongShape) × IsNoPair d)
    ⊎ InPair (λ x. Somewhere (FaultAt e) k x) (λ x. Somewhere (FaultAt e) v x) d
