-- Readers at the start of their streams.
use Rattle.std.specs.Prelude.{◌≡◌, ℕ, suc, ◌+◌, Bool, true, false, Option, Some, None, List, [], ◌∷◌, ◌++◌, length, map, take, drop}
use Rattle.std.specs.declared.vec.Vec.{Vec}
use Rattle.std.specs.declared.alloc.Global.{Global}
use Rattle.orc_values.specs.Shapes.{Shape, scalar, list_of, map_of, struct_of, Fields, no_field, field, width, widths}
use Rattle.orc_values.specs.declared.kind.Scalar.{Scalar}
use Rattle.orc_values.specs.declared.kind.Scalar.TheVariants as kind
use Rattle.orc_rle.specs.declared.sign.Sign.{Sign}
use Rattle.orc_rle.specs.declared.sign.Sign.TheVariants.{Signed, Unsigned}
use Rattle.orc_rle.specs.declared.sign.Rle.{Rle}
use Rattle.orc_column_reader.specs.declared.bits.Bits.{Bits}
use Rattle.orc_column_reader.specs.declared.bytes.RunLengthBytes.{RunLengthBytes}
use Rattle.orc_column_reader.specs.declared.numbers.Numbers.{Numbers}
use Rattle.orc_column_reader.specs.declared.entry.Entry.{Entry}
use Rattle.orc_column_reader.specs.declared.column.ValueSource.{ValueSource}
use Rattle.orc_column_reader.specs.declared.column.ColumnReader.{ColumnReader}
use Rattle.orc_column_reader.specs.declared.starting.ColumnStreams.{ColumnStreams}
use Rattle.orc_wire.specs.declared.stripe_footer.StripeFooter.{StripeFooter}
use Rattle.orc_column_reader.specs.Columns.{entry_bytes}
use Rattle.orc_column_reader.specs.Stripe.{Streams, version, has_dictionary, IsDictionary, columns_of, columns_from, in_present, in_data, in_length, in_dictionary}
use Rattle.orc_values.specs.Limits.{most_cells}

-- a reader of integers at the start of its bytes
pub record NumbersStart (v : Rle) (sign : Sign) (bytes : List ℕ) (r : Numbers) : Type 0 where
  pub version_is : r.version ≡ v
  pub sign_is : r.sign ≡ sign
  pub bytes_are : r.bytes.now ≡ bytes
  pub at_start : r.at ≡ 0
  pub no_run : r.run.values ≡ []
  pub unused : r.used ≡ 0

-- a reader of bytes in runs at the start of its bytes
pub record BytesStart (bytes : List ℕ) (r : RunLengthBytes) : Type 0 where
  pub bytes_are : r.bytes.now ≡ bytes
  pub at_start : r.at ≡ 0
  pub no_run : r.run.values ≡ []
  pub unused : r.used ≡ 0

-- a reader of booleans at the start of its bytes
pub record BitsStart (bytes : List ℕ) (r : Bits) : Type 0 where
  pub runs : BytesStart bytes r.bytes
  pub none_left : r.left ≡ 0

-- a reader of PRESENT at its start; there is none if the stream is empty
abbrev pub MarksStart : List ℕ → Option Bits → Type 0
MarksStart [] None = Unit {0}
MarksStart [] (Some bits) = ⊥
MarksStart (b ∷ bs) None = ⊥
MarksStart (b ∷ bs) (Some bits) = BitsStart (b ∷ bs) bits

-- a reader of byte strings at the start of LENGTH and DATA
abbrev pub StringsStart : Streams → ValueSource → Type 0
StringsStart x r = NumbersStart (version x) Unsigned (in_length x) r.numbers × (r.octets.rest.now ≡ in_data x)

-- a reader of texts at its start: with its dictionary read, or with plain bytes
abbrev pub TextsStart : Bool → Streams → Option (Vec Entry Global) → ValueSource → Type 0
TextsStart true x (Some entries) r =
    IsDictionary x (map entry_bytes entries.items) × NumbersStart (version x) Unsigned (in_data x) r.numbers
TextsStart true x None r = ⊥
TextsStart false x (Some entries) r = ⊥
TextsStart false x None r = StringsStart x r

-- a reader at its start of values whose kind contains no other type
abbrev pub ScalarStart : Scalar → Streams → ValueSource → Type 0
ScalarStart kind.Boolean x r = BitsStart (in_data x) r.bits
ScalarStart kind.Byte x r = BytesStart (in_data x) r.bytes
ScalarStart kind.Short x r = NumbersStart (version x) Signed (in_data x) r.numbers
ScalarStart kind.Int x r = NumbersStart (version x) Signed (in_data x) r.numbers
ScalarStart kind.Long x r = NumbersStart (version x) Signed (in_data x) r.numbers
ScalarStart kind.Date x r = NumbersStart (version x) Signed (in_data x) r.numbers
ScalarStart kind.Binary x r = StringsStart x r
ScalarStart kind.String x r = TextsStart (has_dictionary x) x r.entries r

-- the source of a column at its start
abbrev pub SourceStart : Shape → Streams → ValueSource → Type 0
SourceStart (scalar k o) x r = ScalarStart k x r
SourceStart (list_of s o) x r = NumbersStart (version x) Unsigned (in_length x) r.numbers × (r.room ≡ most_cells)
SourceStart (map_of k v o) x r = NumbersStart (version x) Unsigned (in_length x) r.numbers × (r.room ≡ most_cells)
SourceStart (struct_of fs o) x r = Unit {0}

-- the reader of a column at its start, without those below it
abbrev pub OwnStart : Shape → Streams → ColumnReader → Type 0
OwnStart s x r = MarksStart (in_present x) r.present × SourceStart s x r.source

abbrev mutual
  -- the readers of a column and of those below it at their start
  pub TreeStart : Shape → (ℕ → Streams) → List ColumnReader → Type 0
  TreeStart s columns [] = ⊥
  TreeStart (scalar k o) columns (r ∷ rs) = OwnStart (scalar k o) (columns 0) r
  TreeStart (list_of s o) columns (r ∷ rs) =
      OwnStart (list_of s o) (columns 0) r × TreeStart s (λ c. columns (suc c)) rs
  TreeStart (map_of k v o) columns (r ∷ rs) =
      OwnStart (map_of k v o) (columns 0) r
      × TreeStart k (λ c. columns (suc c)) (take (width k) rs)
      × TreeStart v (λ c. columns (suc (width k + c))) (drop (width k) rs)
  TreeStart (struct_of fs o) columns (r ∷ rs) =
      OwnStart (struct_of fs o) (columns 0) r × FieldsStart fs (λ c. columns (suc c)) rs

  pub FieldsStart : Fields → (ℕ → Streams) → List ColumnReader → Type 0
  FieldsStart no_field columns rs = Unit {0}
  FieldsStart (field name s fs) columns rs =
      TreeStart s columns (take (width s) rs) × FieldsStart fs (λ c. columns (width s + c)) (drop (width s) rs)

-- the encoding has a dictionary, and no dictionary is stored
abbrev pub LacksEntries : Bool → Streams → Type 0
LacksEntries true x = (entries : List (List ℕ)) → IsDictionary x entries → ⊥
LacksEntries false x = ⊥

-- the column is one of texts whose encoding has a dictionary, and none is stored
abbrev pub ScalarLacks : Scalar → Streams → Type 0
ScalarLacks kind.String x = LacksEntries (has_dictionary x) x
ScalarLacks _ x = ⊥

-- the column has a dictionary, by its type and encoding, and its streams store none
abbrev pub HasNoDictionary : Shape → Streams → Type 0
HasNoDictionary (scalar k o) x = ScalarLacks k x
HasNoDictionary _ x = ⊥

-- what the cells of a column are read from
pub record AreStreams (x : Streams) (r : ColumnStreams) : Type 0 where
  pub version_is : r.version ≡ version x
  pub dictionary_is : r.has_dictionary ≡ has_dictionary x
  pub size_is : r.dictionary_size ≡ x.encoding.dictionary_size
  pub present_is : r.present.now ≡ in_present x
  pub data_is : r.data.now ≡ in_data x
  pub lengths_are : r.lengths.now ≡ in_length x
  pub dictionary_data_is : r.dictionary_data.now ≡ in_dictionary x

-- a source at the start of DATA, whatever is read from it
pub record DataStart (x : Streams) (r : ValueSource) : Type 0 where
  pub numbers : NumbersStart (version x) Signed (in_data x) r.numbers
  pub bytes : BytesStart (in_data x) r.bytes
  pub bits : BitsStart (in_data x) r.bits

-- the reader of a column at its start, which has the column's number
abbrev pub IsOf : Shape → (ℕ → Streams) → ℕ → ColumnReader → Type 0
IsOf s columns n own = OwnStart s (columns n) own × (own.source.column ≡ n)

-- the readers from a column on: its reader, and those below it
abbrev pub AreReadersFrom : (ℕ → List ColumnReader → Type 0) → Shape → (ℕ → Streams) → ℕ → List ColumnReader → Type 0
AreReadersFrom found s columns n [] = ⊥
AreReadersFrom found s columns n (own ∷ below) = IsOf s columns n own × found n below

abbrev mutual
  pub AreReadersBelow : Shape → (ℕ → Streams) → ℕ → List ColumnReader → Type 0
  AreReadersBelow (scalar k o) columns n below = Unit {0}
  AreReadersBelow (list_of s o) columns n below = AreReadersFrom (AreReadersBelow s columns) s columns (suc n) below
  AreReadersBelow (map_of k v o) columns n below =
      AreReadersFrom (AreReadersBelow k columns) k columns (suc n) (take (width k) below)
      × AreReadersFrom (AreReadersBelow v columns) v columns (suc n + width k) (drop (width k) below)
  AreReadersBelow (struct_of fs o) columns n below = AreFieldReaders fs columns (suc n) below

  pub AreFieldReaders : Fields → (ℕ → Streams) → ℕ → List ColumnReader → Type 0
  AreFieldReaders no_field columns n readers = Unit {0}
  AreFieldReaders (field name s fs) columns n readers =
      AreReadersFrom (AreReadersBelow s columns) s columns n (take (width s) readers)
      × AreFieldReaders fs columns (n + width s) (drop (width s) readers)

-- the readers of a column and of those below it, which have the columns' numbers
abbrev pub AreOf : Shape → (ℕ → Streams) → ℕ → List ColumnReader → Type 0
AreOf s columns n readers = AreReadersFrom (AreReadersBelow s columns) s columns n readers

-- The readers of a column and of those below it were put after the old ones. The column's number is the number of old
-- ones.
pub record PutsReaders (footer : StripeFooter) (bytes : List ℕ) (s : Shape) (old new : List ColumnReader) : Type 0 where
  pub more : List ColumnReader
  pub parts : new ≡ old ++ more
  pub counted : length more ≡ width s
  pub start : TreeStart s (columns_from footer bytes (length old)) more
  pub origins : AreOf s (columns_of footer bytes) (length old) more

-- the readers of a struct's fields were put after the old ones
pub record PutsFields (footer : StripeFooter) (bytes : List ℕ) (fs : Fields)
    (old new : List ColumnReader) : Type 0 where
  pub more : List ColumnReader
  pub parts : new ≡ old ++ more
  pub counted : length more ≡ widths fs
  pub start : FieldsStart fs (columns_from footer bytes (length old)) more
  pub origins : AreFieldReaders fs (columns_of footer bytes) (length old) more
