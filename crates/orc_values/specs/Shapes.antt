-- A schema as a tree of types (ORC specification, "Types").
use Rattle.std.specs.Prelude.{ℕ, zero, suc, max, ◌+◌, ◌-◌, ◌≡◌, List, [], ◌∷◌, nat_lt, if◌then◌else◌, true}
use Rattle.std.specs.Str.{is_utf8}
use Rattle.orc_values.specs.declared.kind.Scalar.{Scalar}
use Rattle.orc_values.specs.declared.kind.Scalar.TheVariants as kind

-- Each type keeps the bytes of its message's other fields.
mutual
  pub data Shape : Type 0 where
    scalar : Scalar → List ℕ → Shape
    list_of : Shape → List ℕ → Shape
    -- the type of the keys, then the type of the values
    map_of : Shape → Shape → List ℕ → Shape
    struct_of : Fields → List ℕ → Shape

  -- each field has a name and a type
  pub data Fields : Type 0 where
    no_field : Fields
    field : List ℕ → Shape → Fields → Fields

-- the number of columns: each type is one
abbrev mutual
  pub width : Shape → ℕ
  width (scalar k o) = 1
  width (list_of s o) = 1 + width s
  width (map_of k v o) = 1 + (width k + width v)
  width (struct_of fs o) = 1 + widths fs

  pub widths : Fields → ℕ
  widths no_field = 0
  widths (field name s fs) = width s + widths fs

-- the number of levels
abbrev mutual
  pub depth : Shape → ℕ
  depth (scalar k o) = 1
  depth (list_of s o) = 1 + depth s
  depth (map_of k v o) = 1 + max (depth k) (depth v)
  depth (struct_of fs o) = 1 + depths fs

  pub depths : Fields → ℕ
  depths no_field = 0
  depths (field name s fs) = max (depth s) (depths fs)

-- each field's name is text in UTF-8
abbrev mutual
  pub HasTextNames : Shape → Type 0
  HasTextNames (scalar k o) = Unit {0}
  HasTextNames (list_of s o) = HasTextNames s
  HasTextNames (map_of k v o) = HasTextNames k × HasTextNames v
  HasTextNames (struct_of fs o) = HaveTextNames fs

  pub HaveTextNames : Fields → Type 0
  HaveTextNames no_field = Unit {0}
  HaveTextNames (field name s fs) = (is_utf8 name ≡ true) × HasTextNames s × HaveTextNames fs

-- a shape that is a struct
abbrev pub IsStruct : Shape → Type 0
IsStruct (struct_of fs o) = Unit {0}
IsStruct _ = ⊥

-- the names of fields, in order
abbrev pub names_of : Fields → List (List ℕ)
names_of no_field = []
names_of (field name s fs) = name ∷ names_of fs

-- the column numbers at which the fields' types begin in pre-order, if the first begins at n
abbrev pub starts : Fields → ℕ → List ℕ
starts no_field n = []
starts (field name s fs) n = n ∷ starts fs (n + width s)

-- the type of a column, by the column's number in pre-order
abbrev mutual
  pub shape_at : Shape → ℕ → Shape
  shape_at (scalar k o) c = scalar k o
  shape_at (list_of s o) zero = list_of s o
  shape_at (list_of s o) (suc c) = shape_at s c
  shape_at (map_of k v o) zero = map_of k v o
  shape_at (map_of k v o) (suc c) = if nat_lt c (width k) then shape_at k c else shape_at v (c - width k)
  shape_at (struct_of fs o) zero = struct_of fs o
  shape_at (struct_of fs o) (suc c) = shape_within fs c

  pub shape_within : Fields → ℕ → Shape
  shape_within no_field c = scalar kind.Boolean []
  shape_within (field name s fs) c = if nat_lt c (width s) then shape_at s c else shape_within fs (c - width s)
