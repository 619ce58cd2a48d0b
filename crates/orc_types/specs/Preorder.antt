-- The tree whose types begin at a place of a list (ORC specification, "Types").
use Rattle.std.specs.Str.{is_utf8}
use Rattle.std.specs.Prelude.{◌⊎◌, false, ℕ, ◌+◌, ◌<◌, ◌≤◌, ◌≡◌, length, ◌++◌, drop, List, [], slice_get, get_or, Some}
use Rattle.orc_wire.specs.declared.type_msg.TypeMsg.{TypeMsg}
use Rattle.orc_wire.specs.Types.{types, fields_types}
use Rattle.orc_values.specs.Shapes.{Shape, Fields, width, widths, depth, depths, HasTextNames, HaveTextNames, names_of, starts}
use Rattle.orc_types.specs.Faults.{HasForeignKind, HasBadName, Descends}
use Rattle.orc_trees.specs.declared.fault.TypeFault.{TypeFault}
use Rattle.orc_trees.specs.declared.fault.TypeFault.TheVariants as fault

-- the tree whose types stand from one place to another
pub record Found (ts : List TypeMsg) (n d : ℕ) (s : Shape) (e : ℕ) : Type 0 where
  pub names : HasTextNames s
  pub levels : depth s ≤ d
  pub stands : drop n ts ≡ types s n ++ drop e ts
  pub ends_at : e ≡ n + width s

-- the fields whose types stand one after the other from one place to another
pub record FoundFields (ts : List TypeMsg) (n d : ℕ) (subtypes : List ℕ) (names : List (List ℕ)) (fs : Fields)
    (e : ℕ) : Type 0 where
  pub texts : HaveTextNames fs
  pub levels : depths fs ≤ d
  pub begins : starts fs n ≡ subtypes
  pub named : names_of fs ≡ names
  pub stands : drop n ts ≡ fields_types fs n ++ drop e ts
  pub ends_at : e ≡ n + widths fs

-- two subtypes, the first of which begins at the place, and no name
abbrev pub HasKeyAt : TypeMsg → ℕ → Type 0
HasKeyAt t n = (length t.subtypes ≡ 2) × (get_or t.subtypes 0 0 ≡ n) × (t.field_names ≡ [])

-- no tree's types stand at the place
abbrev pub NoneAt : List TypeMsg → ℕ → Type 0
NoneAt ts n = (s : Shape) (rest : List TypeMsg) → drop n ts ≡ types s n ++ rest → ⊥

-- no fields' types stand at the place
abbrev pub NoFieldsAt : List TypeMsg → ℕ → List ℕ → List (List ℕ) → Type 0
NoFieldsAt ts n subtypes names =
    (fs : Fields) (rest : List TypeMsg)
    → starts fs n ≡ subtypes
    → names_of fs ≡ names
    → drop n ts ≡ fields_types fs n ++ rest
    → ⊥

-- some name isn't text
pub record HasBadAmong (names : List (List ℕ)) : Type 0 where
  pub index : ℕ
  pub name : List ℕ
  pub named : slice_get names index ≡ Some name
  pub bad : is_utf8 name ≡ false

-- why there is no tree of at most d levels
abbrev pub PlaceFault : List TypeMsg → ℕ → ℕ → TypeFault → Type 0
PlaceFault ts n d (fault.UnsupportedKind k) = HasForeignKind ts k
PlaceFault ts n d fault.BadTree = NoneAt ts n
PlaceFault ts n d fault.TooDeep = (n < length ts) × Descends ts n d
PlaceFault ts n d fault.TooMany = ⊥
PlaceFault ts n d fault.RootNotStruct = ⊥
PlaceFault ts n d (fault.BadText place) = (place ≡ 0) × HasBadName ts
PlaceFault ts n d fault.OutOfMemory = Unit {0}

-- a way down from one of the subtypes, none of which begins before a place
pub record FieldDescends (ts : List TypeMsg) (n : ℕ) (subtypes : List ℕ) (d : ℕ) : Type 0 where
  pub below : ℕ
  pub index : ℕ
  pub subtype : slice_get subtypes index ≡ Some below
  pub later : n ≤ below
  pub listed : below < length ts
  pub deeper : Descends ts below d

-- why there are no such fields
abbrev pub FieldsPlaceFault : List TypeMsg → ℕ → ℕ → List ℕ → List (List ℕ) → TypeFault → Type 0
FieldsPlaceFault ts n d subtypes names (fault.UnsupportedKind k) = HasForeignKind ts k
FieldsPlaceFault ts n d subtypes names fault.BadTree = NoFieldsAt ts n subtypes names
FieldsPlaceFault ts n d subtypes names fault.TooDeep = FieldDescends ts n subtypes d
FieldsPlaceFault ts n d subtypes names fault.TooMany = ⊥
FieldsPlaceFault ts n d subtypes names fault.RootNotStruct = ⊥
FieldsPlaceFault ts n d subtypes names (fault.BadText place) = (place ≡ 0) × (HasBadAmong names ⊎ HasBadName ts)
FieldsPlaceFault ts n d subtypes names fault.OutOfMemory = Unit {0}
