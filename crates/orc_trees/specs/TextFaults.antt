-- Why a text is no schema's (ORC specification, "Types", and this project's limits).
use Rattle.std.specs.Prelude.{◌≡◌, ◌<◌, ◌≤◌, ℕ, zero, suc, List, ◌++◌, length, Bool, true, false, codes}
use Rattle.orc_values.specs.Shapes.{Shape, Fields, no_field, field, width, IsStruct}
use Rattle.orc_trees.specs.SchemaText.{text, fields_text, comma, colon, name_text, IsName, IsPlain, ArePlain}
use Rattle.orc_trees.specs.declared.fault.TypeFault.{TypeFault}
use Rattle.orc_trees.specs.declared.fault.TypeFault.TheVariants as fault

-- whether there are no fields
abbrev pub is_empty : Fields → Bool
is_empty no_field = true
is_empty (field name s fs) = false

-- the text up to a field's type, and then the inner text
pub record EntersField (bytes inner : List ℕ) : Type 0 where
  pub before : Fields
  pub name : List ℕ
  pub plain : ArePlain before
  pub named : IsName name
  pub spelled : bytes ≡ fields_text true before ++ (comma (is_empty before) ++ (name_text name ++ (colon ++ inner)))

-- the text up to an array's element, a map's key or value, or a struct's field's type, and then the inner text
pub data EntersType (bytes inner : List ℕ) : Type 0 where
  element : bytes ≡ codes "array<" ++ inner → EntersType bytes inner
  key : bytes ≡ codes "map<" ++ inner → EntersType bytes inner
  value : (k : Shape) → IsPlain k → bytes ≡ codes "map<" ++ (text k ++ (codes "," ++ inner)) → EntersType bytes inner
  member : (fields : List ℕ) → bytes ≡ codes "struct<" ++ fields → EntersField fields inner → EntersType bytes inner

-- so many types are open, whatever follows
abbrev pub Opens : List ℕ → ℕ → Type 0
Opens bytes zero = Unit {0}
Opens bytes (suc levels) = (inner : List ℕ) × EntersType bytes inner × Opens inner levels

-- the text of a type that isn't a schema's
pub record IsTextOf (P : Shape → Type 0) (bytes : List ℕ) : Type 0 where
  pub shape : Shape
  pub plain : IsPlain shape
  pub spelled : bytes ≡ text shape
  pub wrong : P shape

-- Memory may run out with any text.
abbrev pub TextFault : List ℕ → TypeFault → Type 0
TextFault bytes (fault.UnsupportedKind k) = ⊥
TextFault bytes fault.BadTree = ⊥
TextFault bytes fault.TooDeep = Opens bytes 32
TextFault bytes fault.TooMany = IsTextOf (λ s. 4096 < width s) bytes
TextFault bytes fault.RootNotStruct = IsTextOf (λ s. IsStruct s → ⊥) bytes
TextFault bytes (fault.BadText place) = (place ≤ length bytes) × ((s : Shape) → IsPlain s → bytes ≡ text s → ⊥)
TextFault bytes fault.OutOfMemory = Unit {0}
