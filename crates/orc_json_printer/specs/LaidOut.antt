-- Layouts of a type: each part of a layout is a layout of the type's part, and a struct's layout has a member for each field
-- (own). The columns of a struct's fields come one field after the other (ORC specification, "Types").
use Rattle.std.specs.Prelude.{◌≡◌, ◌<◌, ◌==◌, ℕ, suc, ◌+◌, cond, true, List, [], ◌∷◌, length, map, Some, slice_get, Vec, Box}
use Rattle.std.specs.Global.{Global}
use Rattle.std.specs.List.{AllByRecursion}
use Rattle.orc_values.specs.Shapes.{Shape, scalar, list_of, map_of, struct_of, Fields, no_field, field, names_of, width}
use Rattle.orc_json_rows.specs.FieldNames.{is_distinct, all_differ}
use Rattle.orc_json_printer.specs.Layouts.{LaidMember, member_parts}
use Rattle.orc_json_printer.specs.Texts.{shape_in}
use Rattle.orc_json_printer.specs.declared.layout.Layout.{Layout, Leaf, List as ListOf, Map as MapOf, Struct as StructOf}
use Rattle.orc_json_printer.specs.declared.layout.Member.{Member}
use Rattle.orc_json_printer.specs.declared.layout.FieldColumns.{FieldColumns}
use Rattle.orc_json_printer.specs.declared.layout.PairLayout.{PairLayout}

-- how many fields these are
abbrev pub count_of : Fields → ℕ
count_of no_field = 0
count_of (field name s fs) = suc (count_of fs)

-- `before` columns come before these fields, and each field has its first column and its number of columns
abbrev pub AreColumnsOf : Fields → ℕ → List FieldColumns → Type 0
AreColumnsOf no_field before [] = Unit {0}
AreColumnsOf no_field before (x ∷ xs) = ⊥
AreColumnsOf (field name s fs) before [] = ⊥
AreColumnsOf (field name s fs) before (x ∷ xs) =
    (x.first ≡ before) × (x.count ≡ width s) × AreColumnsOf fs (before + width s) xs

-- which of the members a field is
abbrev pub member_of : FieldColumns → ℕ
member_of x = x.member

-- the field at each member's place names this member, whose index counts from the given one
abbrev pub AreMembersOf : List FieldColumns → ℕ → List LaidMember → Type 0
AreMembersOf xs index [] = Unit {0}
AreMembersOf xs index (p ∷ ps) = (slice_get (map member_of xs) p.place ≡ Some index) × AreMembersOf xs (suc index) ps

-- a struct has as many members as fields, each at its own field, and the columns are those of the fields
pub record HasMembers (fs : Fields) (members : List Member) (columns : List FieldColumns) : Type 0 where
  pub as_many : length members ≡ count_of fs
  pub columns_are : AreColumnsOf fs 0 columns
  pub members_are : AreMembersOf columns 0 (member_parts members)

abbrev mutual
  -- the layout is one of this type
  pub IsLaidOut : Shape → Layout → Type 0
  IsLaidOut (scalar k o) layout = layout ≡ Leaf
  IsLaidOut (list_of s o) layout = (inner : Box Layout Global) × (layout ≡ ListOf inner) × IsLaidOut s inner.value
  IsLaidOut (map_of k v o) layout =
      (inner : Box PairLayout Global)
      × (layout ≡ MapOf inner)
      × IsLaidOut k inner.value.key
      × IsLaidOut v inner.value.value
  IsLaidOut (struct_of fs o) layout =
      (members : Vec Member Global) × (columns : Vec FieldColumns Global)
      × (layout ≡ StructOf members columns)
      × HasMembers fs members.items columns.items
      × AreFieldsLaidOut fs columns.items members.items

  -- the member that each field names is laid out as the field's type
  pub AreFieldsLaidOut : Fields → List FieldColumns → List Member → Type 0
  AreFieldsLaidOut no_field columns members = Unit {0}
  AreFieldsLaidOut (field name s fs) [] members = ⊥
  AreFieldsLaidOut (field name s fs) (own ∷ others) members =
      ((m : Member) × (slice_get members own.member ≡ Some m) × IsLaidOut s m.layout)
      × AreFieldsLaidOut fs others members

-- how often a place is among these
abbrev pub times : ℕ → List ℕ → ℕ
times p [] = 0
times p (q ∷ qs) = cond (q == p) (suc (times p qs)) (times p qs)

-- each of the first `n` places is among these once, and no other is
pub record AreAllPlaces (n : ℕ) (ps : List ℕ) : Type 0 where
  pub many : length ps ≡ n
  pub within : AllByRecursion (λ p. p < n) ps
  pub once : (p : ℕ) → p < n → times p ps ≡ 1

-- the places of fields are, if no two fields have one name
abbrev pub AreFieldPlaces : Fields → List ℕ → Type 0
AreFieldPlaces fs ps = all_differ (names_of fs) ≡ true → AreAllPlaces (count_of fs) ps

-- the places of members
abbrev pub member_places : List Member → List ℕ
member_places ms = map (λ (m : Member). m.place) ms

-- each member is laid out as the type of the field at its place, if that one has distinct names
abbrev pub AreMembersLaidOut : List (List ℕ × Shape) → List Member → Type 0
AreMembersLaidOut fs ms = AllByRecursion (λ (m : Member). is_distinct (shape_in fs m.place) ≡ true → IsLaidOut (shape_in fs m.place) m.layout) ms
