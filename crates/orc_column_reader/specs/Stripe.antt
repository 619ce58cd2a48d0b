-- Bytes that are a stripe of rows (ORC specification, "Stripes", "Column Encodings").
use Rattle.std.specs.Prelude.{◌≡◌, ℕ, zero, suc, ◌+◌, ◌<◌, nat_lt, if◌then◌else◌, Bool, true, false, None, List, [], ◌∷◌, length, replicate, map, drop, ℤ}
use Rattle.std.specs.List.{AllByRecursion}
use Rattle.orc_values.specs.Cells.{Cell, is_value, parts, pairs_in, values}
use Rattle.orc_values.specs.Shapes.{Shape, scalar, list_of, map_of, struct_of, Fields, no_field, field, width, shape_at}
use Rattle.orc_wire.specs.Types.{types}
use Rattle.orc_values.specs.Fits.{RowsFit}
use Rattle.orc_values.specs.Columns.{cells}
use Rattle.orc_values.specs.declared.kind.Scalar.{Scalar}
use Rattle.orc_values.specs.declared.kind.Scalar.TheVariants as kind
use Rattle.orc_rle.specs.declared.sign.Sign.TheVariants.{Signed, Unsigned}
use Rattle.orc_wire.specs.declared.encoding.Encoding.{Encoding}
use Rattle.orc_wire.specs.declared.stripe_info.StripeInfo.{StripeInfo}
use Rattle.orc_wire.specs.declared.stripe_footer.StripeFooter.{StripeFooter}
use Rattle.orc_wire.specs.Messages.{stripe_footer}
use Rattle.orc_wire.specs.Spells.{Spells}
use Rattle.orc_wire.specs.StreamKinds.{PRESENT, DATA, LENGTH, DICTIONARY_DATA}
use Rattle.orc_wire.specs.EncodingKinds.{DIRECT, DIRECT_V2, is_dictionary}
use Rattle.orc_rle.specs.declared.sign.Rle.{Rle}
use Rattle.orc_rle.specs.declared.sign.Rle.TheVariants.{One, Two}
use Rattle.orc_column_reader.specs.Spellings.{Nullable, Standing, size, Sized, Within, Paired, Fielded}
use Rattle.orc_column_reader.specs.Numbers.{AreNumbers}
use Rattle.orc_column_reader.specs.Bytes.{AreBytes}
use Rattle.orc_rle.specs.BitStream.{IsBitStream}
use Rattle.orc_column_reader.specs.Columns.{IsBool, IsByte, IsInt, IsDate, IsText, IsBinary, IsEntry, IsList, IsMap, IsRecord}
use Rattle.orc_directory.specs.Directory.{slice, is_directory, first_wrong}
use Rattle.orc_values.specs.Limits.{cell_limit, most_cells}

-- what the cells of a column are read from: its encoding, and the bytes of its streams by kind
pub record Streams : Type 0 where
  pub encoding : Encoding
  pub stream : ℕ → List ℕ

-- the bytes of a column's PRESENT
abbrev pub in_present : Streams → List ℕ
in_present x = x.stream PRESENT

-- the bytes of a column's DATA
abbrev pub in_data : Streams → List ℕ
in_data x = x.stream DATA

-- the bytes of a column's LENGTH
abbrev pub in_length : Streams → List ℕ
in_length x = x.stream LENGTH

-- the bytes of a column's DICTIONARY_DATA
abbrev pub in_dictionary : Streams → List ℕ
in_dictionary x = x.stream DICTIONARY_DATA

-- DIRECT and DICTIONARY have integers of version 1, all other encodings of version 2
abbrev pub version_at : ℕ → Rle
version_at encoding = if nat_lt encoding DIRECT_V2 then One else Two

-- the version of integers in a column's streams
abbrev pub version : Streams → Rle
version s = version_at s.encoding.kind

-- whether a column's texts are in a dictionary
abbrev pub has_dictionary : Streams → Bool
has_dictionary s = is_dictionary s.encoding.kind

-- the marks in PRESENT; if it is empty, nothing is null
abbrev pub Marks : List ℕ → List Bool → Type 0
Marks [] marks = marks ≡ replicate (length marks) true
Marks (b ∷ bs) marks = IsBitStream (b ∷ bs) marks

-- the list is these bytes
abbrev pub Is : List ℕ → List ℕ → Type 0
Is bytes all = all ≡ bytes

-- the numbers in LENGTH
abbrev pub AreLengths : Streams → List ℤ → Type 0
AreLengths s = AreNumbers (version s) Unsigned (in_length s)

-- the integers in DATA
abbrev pub AreIntegers : Streams → List ℤ → Type 0
AreIntegers s = AreNumbers (version s) Signed (in_data s)

-- DATA has the byte strings one after the other, and LENGTH the length of each
abbrev pub AreStrings : Streams → List (List ℕ) → Type 0
AreStrings s = Sized (AreLengths s) (Is (in_data s))

-- DATA has the index of an entry for each text
abbrev pub AreIndexes : Streams → List ℤ → Type 0
AreIndexes s = AreNumbers (version s) Unsigned (in_data s)

-- LENGTH has a length for each entry, and DICTIONARY_DATA has the bytes of the entries
pub record IsDictionary (s : Streams) (entries : List (List ℕ)) : Type 0 where
  pub counted : length entries ≡ s.encoding.dictionary_size
  pub spelled : Sized (AreLengths s) (Is (in_dictionary s)) entries

-- texts that DATA names in a dictionary, or that are in DATA with their lengths in LENGTH
abbrev pub SpellsTexts : Streams → Bool → List Cell → Type 0
SpellsTexts s true vs =
    (entries : List (List ℕ))
    × IsDictionary s entries
    × Standing (IsEntry entries) (AreIndexes s) vs
SpellsTexts s false vs = Standing IsText (AreStrings s) vs

-- integers in DATA that are in the range of the kind
abbrev pub SpellsInts : Scalar → Streams → List Cell → Type 0
SpellsInts k s vs = Standing (IsInt k) (AreIntegers s) vs

-- DATA and the streams that go with it store the values of a column of this kind
abbrev pub SpellsScalar : Scalar → Streams → List Cell → Type 0
SpellsScalar kind.Boolean s vs = Standing IsBool (IsBitStream (in_data s)) vs
SpellsScalar kind.Byte s vs = Standing IsByte (AreBytes (in_data s)) vs
SpellsScalar kind.Short s vs = SpellsInts kind.Short s vs
SpellsScalar kind.Int s vs = SpellsInts kind.Int s vs
SpellsScalar kind.Long s vs = SpellsInts kind.Long s vs
SpellsScalar kind.Date s vs = Standing IsDate (AreIntegers s) vs
SpellsScalar kind.Binary s vs = Standing IsBinary (AreStrings s) vs
SpellsScalar kind.String s vs = SpellsTexts s (has_dictionary s) vs

-- The streams besides PRESENT store the values of a column. For lists and maps these are their sizes; for structs
-- they store nothing.
abbrev pub SpellsValues : Shape → Streams → List Cell → Type 0
SpellsValues (scalar k o) s vs = SpellsScalar k s vs
SpellsValues (list_of e o) s vs = AreLengths s (map (λ v. size (parts v)) vs)
SpellsValues (map_of k v o) s vs = AreLengths s (map (λ m. size (pairs_in m)) vs)
SpellsValues (struct_of fs o) s vs = Unit {0}

-- the streams of a column store its cells
pub record IsColumn (shape : Shape) (s : Streams) (column : List Cell) : Type 0 where
  pub few : length column < cell_limit
  pub marks : Marks (in_present s) (map is_value column)
  pub spelled : SpellsValues shape s (values column)

-- The columns' streams store `count` rows of the schema.
pub record SpellRows (schema : Shape) (columns : ℕ → Streams) (count : ℕ) (rows : List Cell) : Type 0 where
  pub counted : length rows ≡ count
  pub fit : RowsFit schema rows
  pub column : (c : ℕ) → c < width schema → IsColumn (shape_at schema c) (columns c) (cells schema c rows)

-- ---- rows by going down the schema, as a reader does

-- a column's cells: nulls by PRESENT, and values by the other streams
abbrev pub SpellsColumn : ((ℕ → Streams) → List Cell → Type 0) → (ℕ → Streams) → List Cell → Type 0
SpellsColumn found columns cells = Nullable (Marks (in_present (columns 0))) (found columns) cells

abbrev mutual
  -- a column's values, with the columns below: lists of the child's cells, maps of the cells of the keys and values,
  -- or structs of the fields' cells
  pub SpellsTree : Shape → (ℕ → Streams) → List Cell → Type 0
  SpellsTree (scalar k o) columns vs = SpellsScalar k (columns 0) vs
  SpellsTree (list_of s o) columns vs =
      Standing IsList
      (Sized (AreLengths (columns 0))
      (Within most_cells (SpellsColumn (SpellsTree s) (λ c. columns (suc c))))) vs
  SpellsTree (map_of k v o) columns vs =
      Standing IsMap
      (Sized (AreLengths (columns 0))
      (Within most_cells
      (Paired (SpellsColumn (SpellsTree k) (λ c. columns (suc c)))
      (SpellsColumn (SpellsTree v) (λ c. columns (suc (width k + c))))))) vs
  SpellsTree (struct_of fs o) columns vs = Standing IsRecord (SpellsFields fs (λ c. columns (suc c))) vs

  pub SpellsFields : Fields → (ℕ → Streams) → List (List Cell) → Type 0
  SpellsFields no_field columns structs = AllByRecursion (λ cells. cells ≡ []) structs
  SpellsFields (field name s fs) columns structs =
      Fielded (SpellsColumn (SpellsTree s) columns) (SpellsFields fs (λ c. columns (width s + c))) structs

-- a column's cells, with the columns below
abbrev pub SpellsCells : Shape → (ℕ → Streams) → List Cell → Type 0
SpellsCells s columns cells = SpellsColumn (SpellsTree s) columns cells

-- DIRECT, which is used for a column without an encoding in the footer
abbrev pub plain : Encoding
plain = record { kind = DIRECT; dictionary_size = 0 }

-- the encoding of a column
abbrev pub encoding_at : List Encoding → ℕ → Encoding
encoding_at [] c = plain
encoding_at (e ∷ es) zero = e
encoding_at (e ∷ es) (suc c) = encoding_at es c

-- each column's encoding, and its streams by the directory
abbrev pub columns_of : StripeFooter → List ℕ → ℕ → Streams
columns_of footer bytes c =
    record { encoding = encoding_at footer.columns c; stream = λ kind. slice c kind footer.streams bytes }

-- the columns from `first` on
abbrev pub columns_from : StripeFooter → List ℕ → ℕ → ℕ → Streams
columns_from footer bytes first c = columns_of footer bytes (first + c)

-- The bytes are a stripe with this footer, whose directory and encodings are valid.
pub record HasFooter (schema : Shape) (info : StripeInfo) (bytes : List ℕ) (footer : StripeFooter) : Type 0 where
  pub whole : length bytes ≡ info.index_length + info.data_length + info.footer_length
  pub read : Spells stripe_footer 0 0 (drop (info.index_length + info.data_length) bytes) footer
  pub directory : is_directory (width schema) (info.index_length + info.data_length) footer.streams ≡ true
  pub encodings : first_wrong 0 (types schema 0) footer.columns ≡ None

-- The bytes are a stripe of these rows.
pub record IsStripe (schema : Shape) (info : StripeInfo) (bytes : List ℕ) (rows : List Cell) : Type 0 where
  pub footer : StripeFooter
  pub has_footer : HasFooter schema info bytes footer
  pub spelled : SpellRows schema (columns_of footer bytes) info.number_of_rows rows
