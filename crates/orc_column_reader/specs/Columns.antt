-- What is left of the streams of a column, by its kind (ORC specification, "Column Encodings").
use Rattle.std.specs.Prelude.{◌≡◌, ℕ, ◌-◌, ◌<◌, nat_lt, if◌then◌else◌, ℤ, pos, negsuc, Bool, true, Option, Some, None, List, [], ◌∷◌, length, replicate, map, take, drop, slice_get}
use Rattle.std.specs.Str.{is_utf8}
use Rattle.std.specs.List.{AllByRecursion}
use Rattle.orc_values.specs.Cells.{Cell, bool, int, date, text, bytes, leaf, list, struct, pairs, cells_of, pairs_of}
use Rattle.orc_values.specs.Shapes.{Shape, scalar, list_of, map_of, struct_of, Fields, no_field, field, width}
use Rattle.orc_values.specs.Fits.{int_fits, signed_fits, are_bytes}
use Rattle.orc_values.specs.declared.kind.Scalar.{Scalar}
use Rattle.orc_values.specs.declared.kind.Scalar.TheVariants as kind
use Rattle.orc_column_reader.specs.declared.bits.Bits.{Bits}
use Rattle.orc_column_reader.specs.declared.entry.Entry.{Entry}
use Rattle.orc_column_reader.specs.declared.column.ValueSource.{ValueSource}
use Rattle.orc_column_reader.specs.declared.column.ColumnReader.{ColumnReader}
use Rattle.std.specs.declared.vec.Vec.{Vec}
use Rattle.std.specs.declared.alloc.Global.{Global}
use Rattle.orc_column_reader.specs.Spellings.{Nullable, Standing, Sized, Within, Paired, Fielded}
use Rattle.orc_column_reader.specs.Numbers.{NumbersLeft}
use Rattle.orc_column_reader.specs.Bits.{BitsLeft, BitsFirst}
use Rattle.orc_column_reader.specs.Bytes.{BytesLeft}
use Rattle.orc_column_reader.specs.Octets.{OctetsLeft}

-- the marks that are left; without PRESENT none of them is null
abbrev pub MarksLeft : Option Bits → List Bool → Type 0
MarksLeft None all = all ≡ replicate (length all) true
MarksLeft (Some bits) all = BitsLeft bits all

-- the marks that come first, whatever follows
abbrev pub MarksFirst : Option Bits → List Bool → Type 0
MarksFirst None marks = marks ≡ replicate (length marks) true
MarksFirst (Some bits) marks = BitsFirst bits marks

-- the value of a column of booleans
abbrev pub IsBool : Bool → Cell → Type 0
IsBool b c = c ≡ leaf (bool b)

-- the number of 8 bits that a byte stands for; its highest digit is the sign
abbrev pub signed_byte : ℕ → ℤ
signed_byte b = if nat_lt b 128 then pos b else negsuc (255 - b)

-- the value of a column of TINYINT: a byte, in two's complement
abbrev pub IsByte : ℕ → Cell → Type 0
IsByte b c = (b < 256) × (c ≡ leaf (int (signed_byte b)))

-- the value of a column of whole numbers, which is in the range of the kind
abbrev pub IsInt : Scalar → ℤ → Cell → Type 0
IsInt k n c = (int_fits k n ≡ true) × (c ≡ leaf (int n))

-- the value of a column of dates: days since 1970-01-01, in 32 bits
abbrev pub IsDate : ℤ → Cell → Type 0
IsDate n c = (signed_fits 31 n ≡ true) × (c ≡ leaf (date n))

-- the value of a column of texts, which are UTF-8
abbrev pub IsText : List ℕ → Cell → Type 0
IsText bs c = (is_utf8 bs ≡ true) × (c ≡ leaf (text bs))

-- the value of a column of byte strings
abbrev pub IsBinary : List ℕ → Cell → Type 0
IsBinary bs c = (are_bytes bs ≡ true) × (c ≡ leaf (bytes bs))

-- the value of a column of texts in a dictionary: the text of the entry with this index
abbrev pub IsEntry : List (List ℕ) → ℤ → Cell → Type 0
IsEntry entries (pos i) c = (entry : List ℕ) × (slice_get entries i ≡ Some entry) × IsText entry c
IsEntry entries (negsuc i) c = ⊥

-- the value of a column of lists: its elements, in order
abbrev pub IsList : List Cell → Cell → Type 0
IsList cs c = c ≡ list (cells_of cs)

-- the value of a column of maps: its pairs, in order
abbrev pub IsMap : List (Cell × Cell) → Cell → Type 0
IsMap ps c = c ≡ pairs (pairs_of ps)

-- the value of a column of structs: one cell for each field
abbrev pub IsRecord : List Cell → Cell → Type 0
IsRecord cs c = c ≡ struct (cells_of cs)

-- the byte strings that are left, with their lengths in LENGTH
abbrev pub StringsLeft : ValueSource → List (List ℕ) → Type 0
StringsLeft source byte_strings = Sized (NumbersLeft source.numbers) (OctetsLeft source.octets) byte_strings

-- the bytes of a dictionary's entry
abbrev pub entry_bytes : Entry → List ℕ
entry_bytes e = e.bytes.now

-- the texts that are left: in plain bytes, or named in the dictionary
abbrev pub TextsLeft : Option (Vec Entry Global) → ValueSource → List Cell → Type 0
TextsLeft None source vs = Standing IsText (StringsLeft source) vs
TextsLeft (Some entries) source vs = Standing (IsEntry (map entry_bytes entries.items)) (NumbersLeft source.numbers) vs

-- the values that are left of a column whose kind contains no other type
abbrev pub ScalarLeft : Scalar → ValueSource → List Cell → Type 0
ScalarLeft kind.Boolean source vs = Standing IsBool (BitsLeft source.bits) vs
ScalarLeft kind.Byte source vs = Standing IsByte (BytesLeft source.bytes) vs
ScalarLeft kind.Short source vs = Standing (IsInt kind.Short) (NumbersLeft source.numbers) vs
ScalarLeft kind.Int source vs = Standing (IsInt kind.Int) (NumbersLeft source.numbers) vs
ScalarLeft kind.Long source vs = Standing (IsInt kind.Long) (NumbersLeft source.numbers) vs
ScalarLeft kind.Date source vs = Standing IsDate (NumbersLeft source.numbers) vs
ScalarLeft kind.Binary source vs = Standing IsBinary (StringsLeft source) vs
ScalarLeft kind.String source vs = TextsLeft source.entries source vs

-- the cells that are left of a column, if its values that are left are those of `found`
abbrev pub ColumnLeft : (ValueSource → List ColumnReader → List Cell → Type 0) → List ColumnReader → List Cell → Type 0
ColumnLeft found [] cells = ⊥
ColumnLeft found (own ∷ below) cells = Nullable (MarksLeft own.present) (found own.source below) cells

abbrev mutual
  -- the values that are left of a column: lists of the child's cells, maps of the cells of the keys and values, or
  -- structs of the fields' cells
  pub ValuesLeft : Shape → ValueSource → List ColumnReader → List Cell → Type 0
  ValuesLeft (scalar k o) source below vs = ScalarLeft k source vs
  ValuesLeft (list_of s o) source below vs =
      Standing IsList (Sized (NumbersLeft source.numbers) (Within source.room (ColumnLeft (ValuesLeft s) below))) vs
  ValuesLeft (map_of k v o) source below vs =
      Standing IsMap
      (Sized (NumbersLeft source.numbers)
      (Within source.room
      (Paired (ColumnLeft (ValuesLeft k) (take (width k) below))
      (ColumnLeft (ValuesLeft v) (drop (width k) below))))) vs
  ValuesLeft (struct_of fs o) source below vs = Standing IsRecord (FieldsLeft fs below) vs

  pub FieldsLeft : Fields → List ColumnReader → List (List Cell) → Type 0
  FieldsLeft no_field readers structs = AllByRecursion (λ cells. cells ≡ []) structs
  FieldsLeft (field name s fs) readers structs =
      Fielded (ColumnLeft (ValuesLeft s) (take (width s) readers)) (FieldsLeft fs (drop (width s) readers)) structs

-- the cells that are left of a column, with the columns below it
abbrev pub CellsLeft : Shape → List ColumnReader → List Cell → Type 0
CellsLeft s readers cells = ColumnLeft (ValuesLeft s) readers cells

-- the lists that are left: LENGTH has their sizes, and the reader of elements their elements
abbrev pub ListsLeft : Shape → ValueSource → List ColumnReader → List (List Cell) → Type 0
ListsLeft s source below lists = Sized (NumbersLeft source.numbers) (Within source.room (CellsLeft s below)) lists

-- the number of the column to which the first of the readers belongs
abbrev pub column_of : List ColumnReader → ℕ
column_of [] = 0
column_of (own ∷ below) = own.source.column

-- what is left of PRESENT for the first of the readers
abbrev pub marks_of : List ColumnReader → Option Bits
marks_of [] = None
marks_of (own ∷ below) = own.present

-- the values that are left for a column's readers, which are its reader and those below it
abbrev pub OwnLeft : Shape → List ColumnReader → List Cell → Type 0
OwnLeft s [] vs = ⊥
OwnLeft s (own ∷ below) vs = ValuesLeft s own.source below vs

-- the lists that are left for the readers of a column of lists
abbrev pub ListsOf : Shape → List ColumnReader → List (List Cell) → Type 0
ListsOf s [] lists = ⊥
ListsOf s (own ∷ below) lists = ListsLeft s own.source below lists

-- the pairs that are left for the readers of a map's keys and values
abbrev pub PairsLeft : Shape → Shape → List ColumnReader → List (Cell × Cell) → Type 0
PairsLeft k v below ps =
    Paired (CellsLeft k (take (width k) below)) (CellsLeft v (drop (width k) below)) ps

-- the maps that are left: LENGTH has their sizes, and the readers of keys and values their pairs
abbrev pub MapsLeft : Shape → Shape → ValueSource → List ColumnReader → List (List (Cell × Cell)) → Type 0
MapsLeft k v source below maps =
    Sized (NumbersLeft source.numbers) (Within source.room (PairsLeft k v below)) maps

-- the maps that are left for the readers of a column of maps
abbrev pub MapsOf : Shape → Shape → List ColumnReader → List (List (Cell × Cell)) → Type 0
MapsOf k v [] maps = ⊥
MapsOf k v (own ∷ below) maps = MapsLeft k v own.source below maps
