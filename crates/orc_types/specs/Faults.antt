-- Why a list of types is no schema's (ORC specification, "Types", and this project's limits).
use Rattle.std.specs.Prelude.{◌≡◌, ◌<◌, ◌⊎◌, ℕ, zero, suc, List, [], ◌∷◌, length, slice_get, Some, false}
use Rattle.std.specs.List.{AllByRecursion}
use Rattle.std.specs.Str.{is_utf8}
use Rattle.orc_wire.specs.declared.type_msg.TypeMsg.{TypeMsg}
use Rattle.orc_values.specs.Kinds.{IsKind, list_number, map_number, struct_number}
use Rattle.orc_values.specs.Shapes.{Shape}
use Rattle.orc_wire.specs.Types.{types}
use Rattle.orc_trees.specs.declared.fault.TypeFault.{TypeFault}
use Rattle.orc_trees.specs.declared.fault.TypeFault.TheVariants as fault

-- some type has a kind that no column can have
pub record HasForeignKind (ts : List TypeMsg) (n : ℕ) : Type 0 where
  pub place : ℕ
  pub type : TypeMsg
  pub stands : slice_get ts place ≡ Some type
  pub kind : type.kind ≡ n
  pub foreign : IsKind n → ⊥

-- all kinds are known, and yet the types are no tree's
pub record IsNoTree (ts : List TypeMsg) : Type 0 where
  pub kinds : AllByRecursion (λ t. IsKind t.kind) ts
  pub none : (s : Shape) → ts ≡ types s 0 → ⊥

-- one type is a subtype of another, which is a LIST, a STRUCT or a MAP, and listed behind it
pub record IsSubtype (ts : List TypeMsg) (above below : ℕ) : Type 0 where
  pub type : TypeMsg
  pub index : ℕ
  pub stands : slice_get ts above ≡ Some type
  pub holds : (type.kind ≡ list_number) ⊎ ((type.kind ≡ struct_number) ⊎ (type.kind ≡ map_number))
  pub subtype : slice_get type.subtypes index ≡ Some below
  pub later : above < below
  pub listed : below < length ts

-- a way down from a type, of so many steps
abbrev pub Descends : List TypeMsg → ℕ → ℕ → Type 0
Descends ts at zero = Unit {0}
Descends ts at (suc steps) = (below : ℕ) × IsSubtype ts at below × Descends ts below steps

-- some STRUCT's field has a name that isn't text in UTF-8
pub record HasBadName (ts : List TypeMsg) : Type 0 where
  pub place : ℕ
  pub type : TypeMsg
  pub index : ℕ
  pub name : List ℕ
  pub stands : slice_get ts place ≡ Some type
  pub named : slice_get type.field_names index ≡ Some name
  pub is_struct : type.kind ≡ struct_number
  pub bad : is_utf8 name ≡ false

-- there is a first type only if it is no STRUCT
abbrev pub HasNoRoot : List TypeMsg → Type 0
HasNoRoot [] = Unit {0}
HasNoRoot (t ∷ ts) = t.kind ≡ struct_number → ⊥

-- Memory may run out with any types.
abbrev pub TypesFault : List TypeMsg → TypeFault → Type 0
TypesFault ts (fault.UnsupportedKind n) = HasForeignKind ts n
TypesFault ts fault.BadTree = IsNoTree ts
TypesFault ts fault.TooDeep = Descends ts 0 32
TypesFault ts fault.TooMany = 4096 < length ts
TypesFault ts fault.RootNotStruct = HasNoRoot ts
TypesFault ts (fault.BadText place) = (place ≡ 0) × HasBadName ts
TypesFault ts fault.OutOfMemory = Unit {0}
