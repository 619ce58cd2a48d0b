-- Rows of a schema (ORC specification, "Types": the values of each kind).
use Rattle.std.specs.List.{AllByRecursion}
use Rattle.std.specs.Prelude.{◌≡◌, List, [], ◌∷◌, ℕ, ◌^◌, ℤ, pos, negsuc, Bool, true, false, ◌&&◌, nat_lt}
use Rattle.orc_values.specs.declared.kind.Scalar.{Scalar}
use Rattle.orc_values.specs.declared.kind.Scalar.TheVariants as kind
use Rattle.std.specs.Str.{is_utf8}
use Rattle.orc_values.specs.Kinds.{is_kind}
use Rattle.orc_values.specs.Shapes.{Shape, scalar, list_of, map_of, struct_of, Fields, no_field, field}
use Rattle.orc_values.specs.Cells.{Atom, bool, int, date, text, bytes, Cell, null, leaf, list, struct, pairs, Cells, end, more, Pairs, no_pair, pair}

-- whether a number fits a sign and that many bits
abbrev pub signed_fits : ℕ → ℤ → Bool
signed_fits bits (pos n) = nat_lt n (2 ^ bits)
signed_fits bits (negsuc n) = nat_lt n (2 ^ bits)

-- whether a number is in the range of a column of that kind
abbrev pub int_fits : Scalar → ℤ → Bool
int_fits kind.Byte z = signed_fits 7 z
int_fits kind.Short z = signed_fits 15 z
int_fits kind.Int z = signed_fits 31 z
int_fits kind.Long z = signed_fits 63 z
int_fits _ z = false

-- whether each number is a byte
abbrev pub are_bytes : List ℕ → Bool
are_bytes [] = true
are_bytes (b ∷ bs) = nat_lt b 256 && are_bytes bs

-- whether a value is one of a column of that kind; a date is a number of days and has 32 bits, and a text is UTF-8
abbrev pub atom_fits : Scalar → Atom → Bool
atom_fits k (bool b) = is_kind kind.Boolean k
atom_fits k (int z) = int_fits k z
atom_fits k (date z) = is_kind kind.Date k && signed_fits 31 z
atom_fits k (text s) = is_kind kind.String k && is_utf8 s
atom_fits k (bytes s) = is_kind kind.Binary k && are_bytes s

-- whether a row is of its schema: it has the schema's shape, any part may be null, numbers are in the ranges of their
-- kinds, and texts are UTF-8
abbrev mutual
  pub fits : Cell → Shape → Bool
  fits null s = true
  fits (leaf a) (scalar k o) = atom_fits k a
  fits (leaf a) (list_of s o) = false
  fits (leaf a) (map_of k v o) = false
  fits (leaf a) (struct_of fs o) = false
  fits (list cs) (scalar k o) = false
  fits (list cs) (list_of s o) = all_fit cs s
  fits (list cs) (map_of k v o) = false
  fits (list cs) (struct_of fs o) = false
  fits (struct cs) (scalar k o) = false
  fits (struct cs) (list_of s o) = false
  fits (struct cs) (map_of k v o) = false
  fits (struct cs) (struct_of fs o) = each_fits cs fs
  fits (pairs ps) (scalar k o) = false
  fits (pairs ps) (list_of s o) = false
  fits (pairs ps) (map_of k v o) = pairs_fit ps k v
  fits (pairs ps) (struct_of fs o) = false

  pub all_fit : Cells → Shape → Bool
  all_fit end s = true
  all_fit (more c cs) s = fits c s && all_fit cs s

  -- one cell for each field
  pub each_fits : Cells → Fields → Bool
  each_fits end no_field = true
  each_fits end (field name s fs) = false
  each_fits (more c cs) no_field = false
  each_fits (more c cs) (field name s fs) = fits c s && each_fits cs fs

  -- the keys are of one type, the values of another
  pub pairs_fit : Pairs → Shape → Shape → Bool
  pairs_fit no_pair s t = true
  pairs_fit (pair k v ps) s t = fits k s && (fits v t && pairs_fit ps s t)

-- all rows are of the type
abbrev pub RowsFit : Shape → List Cell → Type 0
RowsFit s rows = AllByRecursion (λ c. fits c s ≡ true) rows

-- whether a cell is null or a value of this kind
abbrev pub scalar_fits : Scalar → Cell → Bool
scalar_fits k null = true
scalar_fits k (leaf a) = atom_fits k a
scalar_fits k _ = false
