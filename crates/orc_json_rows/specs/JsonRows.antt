-- The row that a JSON value spells under a schema (values by RFC 8259, types by the ORC specification, "Types").
use Rattle.std.specs.Prelude.{ℕ, ◌≡◌, ◌⊎◌, List, true, Option, Some, None}
use Rattle.serde_json.specs.Data.{Data, null as nothing, array, object, Items, no_items, item, Members}
use Rattle.serde_json.specs.Find.{get}
use Rattle.orc_values.specs.Shapes.{Shape, scalar, list_of, map_of, struct_of, Fields, no_field, field, names_of}
use Rattle.orc_values.specs.Cells.{Cell, null, list, struct, pairs, Cells, end, more, Pairs, no_pair, pair}
use Rattle.orc_json_rows.specs.FieldNames.{all_known}
use Rattle.orc_json_rows.specs.JsonLeaves.{ScalarSpells}

-- whatever the type, null spells null
abbrev pub OrNull : Data → Cell → Type 0 → Type 0
OrNull d c IsValue = ((d ≡ nothing) × (c ≡ null)) ⊎ IsValue

-- each element spells an element
abbrev pub EachSpells : (Data → Cell → Type 0) → Items → Cells → Type 0
EachSpells Is no_items end = Unit {0}
EachSpells Is no_items (more c cs) = ⊥
EachSpells Is (item d ds) end = ⊥
EachSpells Is (item d ds) (more c cs) = Is d c × EachSpells Is ds cs

-- a missing key is null
abbrev pub MemberSpells : (Data → Cell → Type 0) → Option Data → Cell → Type 0
MemberSpells Is None c = c ≡ null
MemberSpells Is (Some d) c = Is d c

-- an array spells a list, element by element
abbrev pub ArraySpells : (Data → Cell → Type 0) → Data → Cell → Type 0
ArraySpells Is d c = (ds : Items) × (cs : Cells) × (d ≡ array ds) × (c ≡ list cs) × EachSpells Is ds cs

-- an array of two spells a key and its value
abbrev pub PairSpells : (Data → Cell → Type 0) → (Data → Cell → Type 0) → Data → Cell → Cell → Type 0
PairSpells IsKey IsValue d k v =
    (x : Data) × (y : Data) × (d ≡ array (item x (item y no_items))) × IsKey x k × IsValue y v

-- elements of an array spell pairs, one by one
abbrev pub PairsSpell : (Data → Cell → Type 0) → (Data → Cell → Type 0) → Items → Pairs → Type 0
PairsSpell IsKey IsValue no_items no_pair = Unit {0}
PairsSpell IsKey IsValue no_items (pair k v ps) = ⊥
PairsSpell IsKey IsValue (item d ds) no_pair = ⊥
PairsSpell IsKey IsValue (item d ds) (pair k v ps) = PairSpells IsKey IsValue d k v × PairsSpell IsKey IsValue ds ps

-- an array of pairs spells a map
abbrev pub MapSpells : (Data → Cell → Type 0) → (Data → Cell → Type 0) → Data → Cell → Type 0
MapSpells IsKey IsValue d c =
    (ds : Items) × (ps : Pairs) × (d ≡ array ds) × (c ≡ pairs ps) × PairsSpell IsKey IsValue ds ps

-- no key but the fields' names
abbrev pub ObjectSpells : List (List ℕ) → (Cells → Type 0) → Data → Cell → Type 0
ObjectSpells names Are d c =
    (ms : Members) × (cs : Cells) × (d ≡ object ms) × (c ≡ struct cs) × (all_known names ms ≡ true) × Are cs

abbrev mutual
  pub JsonSpells : Shape → Data → Cell → Type 0
  JsonSpells (scalar k o) d c = ScalarSpells k d c
  JsonSpells (list_of s o) d c = OrNull d c (ArraySpells (λ e x. JsonSpells s e x) d c)
  JsonSpells (map_of k v o) d c = OrNull d c (MapSpells (λ e x. JsonSpells k e x) (λ e x. JsonSpells v e x) d c)
  JsonSpells (struct_of fs o) d c = OrNull d c (ObjectSpells (names_of fs) (λ cs. FieldsSpell fs d cs) d c)

  -- each field, by its name
  pub FieldsSpell : Fields → Data → Cells → Type 0
  FieldsSpell no_field d end = Unit {0}
  FieldsSpell no_field d (more c cs) = ⊥
  FieldsSpell (field name s fs) d end = ⊥
  FieldsSpell (field name s fs) d (more c cs) = MemberSpells (λ e x. JsonSpells s e x) (get name d) c × FieldsSpell fs d cs
