-- The kinds of types and their numbers (ORC specification, "Types"; orc_proto.proto, Type.Kind).
use Rattle.std.specs.Prelude.{◌≡◌, ℕ, Bool, ◌==◌, if◌then◌else◌, Option, Some, None, ◌⊎◌}
use Rattle.orc_values.specs.declared.kind.Scalar.{Scalar}
use Rattle.orc_values.specs.declared.kind.Scalar.TheVariants as kind

-- the number of a kind that contains no other type
abbrev pub number : Scalar → ℕ
number kind.Boolean = 0
number kind.Byte = 1
number kind.Short = 2
number kind.Int = 3
number kind.Long = 4
number kind.String = 7
number kind.Binary = 8
number kind.Date = 15

-- whether two kinds are the same
abbrev pub is_kind : Scalar → Scalar → Bool
is_kind j k = number j == number k

-- the number of LIST among the kinds of types
abbrev pub list_number : ℕ
list_number = 10

-- the number of MAP among the kinds of types
abbrev pub map_number : ℕ
map_number = 11

-- the number of STRUCT among the kinds of types
abbrev pub struct_number : ℕ
struct_number = 12

-- the kind with a number, among those that contain no other type
abbrev pub scalar_of : ℕ → Option Scalar
scalar_of n =
    if n == 0 then Some kind.Boolean else
    (if n == 1 then Some kind.Byte else
    (if n == 2 then Some kind.Short else
    (if n == 3 then Some kind.Int else
    (if n == 4 then Some kind.Long else
    (if n == 7 then Some kind.String else
    (if n == 8 then Some kind.Binary else
    (if n == 15 then Some kind.Date else None)))))))

-- the number is that of one of the kinds that a column can have
abbrev pub IsKind : ℕ → Type 0
IsKind n = ((k : Scalar) × (number k ≡ n)) ⊎ ((n ≡ list_number) ⊎ ((n ≡ struct_number) ⊎ (n ≡ map_number)))
