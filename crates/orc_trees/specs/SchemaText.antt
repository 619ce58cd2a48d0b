-- The text of a schema: the names that the types have in Hive,
-- as the examples of the ORC specification, "Types", write them.
use Rattle.std.specs.Prelude.{◌≡◌, ◌/◌, ◌%◌, ◌==◌, ℕ, List, [], ◌∷◌, ◌++◌, Bool, true, false, ◌||◌, if◌then◌else◌, codes}
use Rattle.std.specs.List.{list_all}
use Rattle.std.specs.Char.{is_ascii_alphanumeric, is_control, digit_char, encode_utf8}
use Rattle.std.specs.Str.{chars, is_utf8}
use Rattle.orc_values.specs.declared.kind.Scalar.{Scalar}
use Rattle.orc_values.specs.declared.kind.Scalar.TheVariants as kind
use Rattle.orc_values.specs.Shapes.{Shape, scalar, list_of, map_of, struct_of, Fields, no_field, field}

-- the name of a kind in a schema's text
abbrev pub kind_name : Scalar → List ℕ
kind_name kind.Boolean = codes "boolean"
kind_name kind.Byte = codes "tinyint"
kind_name kind.Short = codes "smallint"
kind_name kind.Int = codes "int"
kind_name kind.Long = codes "bigint"
kind_name kind.String = codes "string"
kind_name kind.Binary = codes "binary"
kind_name kind.Date = codes "date"

-- the first field has no comma in front
abbrev pub comma : Bool → List ℕ
comma true = []
comma false = codes ","

-- what stands between a field's name and its type
abbrev pub colon : List ℕ
colon = codes ":"

-- an ASCII letter or digit, or an underscore
unfoldable pub is_word : ℕ → Bool
is_word b = is_ascii_alphanumeric b || b == 95

-- a name of one or more of these, which stands as it is
unfoldable pub is_plain_name : List ℕ → Bool
is_plain_name [] = false
is_plain_name (b ∷ name) = list_all is_word (b ∷ name)

-- the two digits of a number below 256 in base 16, with letters in lower case
abbrev pub two_digits : ℕ → List ℕ
two_digits n = digit_char (n / 16) ∷ digit_char (n % 16) ∷ []

-- a character of any other name: a backtick and a backslash are doubled,
-- and the number of a control character (U+0000 to U+001F, U+007F to U+009F) is written out
unfoldable pub char_text : ℕ → List ℕ
char_text c =
    if c == 96 then codes "``" else
    (if c == 92 then codes "\\\\" else
    (if is_control c then codes "\\u00" ++ two_digits c else encode_utf8 c))

abbrev pub chars_text : List ℕ → List ℕ
chars_text [] = []
chars_text (c ∷ cs) = char_text c ++ chars_text cs

-- Any name that isn't plain stands in backticks.
unfoldable pub name_text : List ℕ → List ℕ
name_text name = if is_plain_name name then name else (codes "`" ++ (chars_text (chars name) ++ codes "`"))

abbrev mutual
  pub text : Shape → List ℕ
  text (scalar k o) = kind_name k
  text (list_of s o) = codes "array<" ++ text s ++ codes ">"
  text (map_of k v o) = codes "map<" ++ text k ++ codes "," ++ text v ++ codes ">"
  text (struct_of fs o) = codes "struct<" ++ fields_text true fs ++ codes ">"

  -- a comma before each field but the first
  pub fields_text : Bool → Fields → List ℕ
  fields_text first no_field = []
  fields_text first (field name s fs) = comma first ++ name_text name ++ colon ++ text s ++ fields_text false fs

-- a field's name: text in UTF-8
abbrev pub IsName : List ℕ → Type 0
IsName name = is_utf8 name ≡ true

-- The names are text, and the types keep nothing else: all that a schema's text shows.
abbrev mutual
  pub IsPlain : Shape → Type 0
  IsPlain (scalar k o) = o ≡ []
  IsPlain (list_of s o) = (o ≡ []) × IsPlain s
  IsPlain (map_of k v o) = (o ≡ []) × IsPlain k × IsPlain v
  IsPlain (struct_of fs o) = (o ≡ []) × ArePlain fs

  pub ArePlain : Fields → Type 0
  ArePlain no_field = Unit {0}
  ArePlain (field name s fs) = IsName name × IsPlain s × ArePlain fs

-- the kinds and the names alone
abbrev mutual
  pub bare : Shape → Shape
  bare (scalar k o) = scalar k []
  bare (list_of s o) = list_of (bare s) []
  bare (map_of k v o) = map_of (bare k) (bare v) []
  bare (struct_of fs o) = struct_of (bare_fields fs) []

  pub bare_fields : Fields → Fields
  bare_fields no_field = no_field
  bare_fields (field name s fs) = field name (bare s) (bare_fields fs)
