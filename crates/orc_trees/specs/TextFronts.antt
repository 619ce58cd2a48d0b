-- The type whose text stands at the front of some bytes (ORC specification, "Types").
use Rattle.std.specs.Prelude.{◌≡◌, ◌≤◌, ℕ, List, ◌++◌, length, Bool, true, codes}
use Rattle.orc_values.specs.Shapes.{Shape, Fields, depth, depths}
use Rattle.orc_trees.specs.SchemaText.{text, fields_text, comma, colon, name_text, IsName, IsPlain, ArePlain}
use Rattle.orc_trees.specs.TextFaults.{Opens, EntersField}
use Rattle.orc_trees.specs.declared.fault.TypeFault.{TypeFault}
use Rattle.orc_trees.specs.declared.fault.TypeFault.TheVariants as fault

-- a type's text, and then the rest
pub record IsTypeFront (bytes : List ℕ) (levels : ℕ) (s : Shape) (rest : List ℕ) : Type 0 where
  pub plain : IsPlain s
  pub depth : depth s ≤ levels
  pub spelled : bytes ≡ text s ++ rest

-- a field's text, and then the rest
pub record IsFieldFront (bytes : List ℕ) (first : Bool) (levels : ℕ) (name : List ℕ) (s : Shape)
    (rest : List ℕ) : Type 0 where
  pub named : IsName name
  pub plain : IsPlain s
  pub depth : depth s ≤ levels
  pub spelled : bytes ≡ comma first ++ (name_text name ++ (colon ++ (text s ++ rest)))

-- the fields' text up to the bracket that closes it, and then the rest
pub record IsFieldsFront (bytes : List ℕ) (levels : ℕ) (fs : Fields) (rest : List ℕ) : Type 0 where
  pub plain : ArePlain fs
  pub depths : depths fs ≤ levels
  pub spelled : bytes ≡ fields_text true fs ++ (codes ">" ++ rest)

-- no type's text stands in front
abbrev pub NoFront : List ℕ → Type 0
NoFront bytes = (s : Shape) (rest : List ℕ) → IsPlain s → bytes ≡ text s ++ rest → ⊥

-- no field's text stands in front of these bytes
abbrev pub NoFieldFront : List ℕ → Bool → Type 0
NoFieldFront bytes first =
    (name : List ℕ) (s : Shape) (rest : List ℕ)
    → IsName name
    → IsPlain s
    → bytes ≡ comma first ++ (name_text name ++ (colon ++ (text s ++ rest)))
    → ⊥

-- no list of fields, to its closing bracket, stands in front of these bytes
abbrev pub NoFieldsFront : List ℕ → Bool → Type 0
NoFieldsFront bytes first =
    (fs : Fields) (rest : List ℕ) → ArePlain fs → bytes ≡ fields_text first fs ++ (codes ">" ++ rest) → ⊥

-- Why what is read isn't in front: it goes too deep, or it is wrong where so many bytes are left.
abbrev pub FrontFaultBy : List ℕ → Type 0 → Type 0 → TypeFault → Type 0
FrontFaultBy bytes deep wrong fault.TooDeep = deep
FrontFaultBy bytes deep wrong (fault.BadText left) = (left ≤ length bytes) × wrong
FrontFaultBy bytes deep wrong fault.OutOfMemory = Unit {0}
FrontFaultBy bytes deep wrong _ = ⊥

-- no name's text and colon stand in front
abbrev pub NoNameFront : List ℕ → Type 0
NoNameFront bytes = (name rest : List ℕ) → IsName name → bytes ≡ name_text name ++ (colon ++ rest) → ⊥

-- no name
abbrev pub NameFrontFault : List ℕ → TypeFault → Type 0
NameFrontFault bytes f = FrontFaultBy bytes ⊥ (NoNameFront bytes) f

-- no type of so many levels
abbrev pub FrontFault : List ℕ → ℕ → TypeFault → Type 0
FrontFault bytes levels f = FrontFaultBy bytes (Opens bytes levels) (NoFront bytes) f

-- the bytes don't begin with a type's text and this sign after it
abbrev pub NoSigned : List ℕ → List ℕ → Type 0
NoSigned bytes sign = (s : Shape) (rest : List ℕ) → IsPlain s → bytes ≡ text s ++ (sign ++ rest) → ⊥

-- why the bytes don't begin with a type of at most this many levels and the sign after it
abbrev pub SignedFault : List ℕ → List ℕ → ℕ → TypeFault → Type 0
SignedFault bytes sign levels f = FrontFaultBy bytes (Opens bytes levels) (NoSigned bytes sign) f

-- the name and the colon of a field, whose type goes deeper
pub record FieldOpens (bytes : List ℕ) (first : Bool) (levels : ℕ) : Type 0 where
  pub name : List ℕ
  pub inner : List ℕ
  pub named : IsName name
  pub spelled : bytes ≡ comma first ++ (name_text name ++ (colon ++ inner))
  pub deeper : Opens inner levels

-- no field
abbrev pub FieldFault : List ℕ → Bool → ℕ → TypeFault → Type 0
FieldFault bytes first levels f = FrontFaultBy bytes (FieldOpens bytes first levels) (NoFieldFront bytes first) f

-- no fields
abbrev pub FieldsFault : List ℕ → ℕ → TypeFault → Type 0
FieldsFault bytes levels f =
    FrontFaultBy bytes ((inner : List ℕ) × EntersField bytes inner × Opens inner levels) (NoFieldsFront bytes true) f
