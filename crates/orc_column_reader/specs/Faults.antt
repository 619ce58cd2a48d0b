-- Which errors of a column are right, by its kind and encoding, and what each says of the column's streams (ORC
-- specification, "Column Encodings"). The number of needed values is known exactly (`all`), or only that it is at
-- least the given one.
use Rattle.std.specs.Prelude.{◌≡◌, ◌≢◌, ℕ, suc, ◌+◌, ◌≤◌, ℤ, Bool, true, false, List, [], ◌∷◌, ◌⊎◌}
use Rattle.orc_values.specs.Cells.{Cell}
use Rattle.orc_values.specs.Fits.{int_fits, signed_fits}
use Rattle.orc_values.specs.Shapes.{Shape, scalar, list_of, map_of, struct_of, Fields, no_field, field, width}
use Rattle.orc_values.specs.declared.kind.Scalar.{Scalar}
use Rattle.orc_values.specs.declared.kind.Scalar.TheVariants as kind
use Rattle.orc_rle.specs.declared.fault.RunFault.{RunFault}
use Rattle.orc_rle.specs.declared.fault.RunFault.TheVariants as run
use Rattle.orc_rle.specs.declared.sign.Sign.TheVariants.{Signed, Unsigned}
use Rattle.orc_directory.specs.declared.fault.StreamKind.{StreamKind}
use Rattle.orc_directory.specs.declared.fault.StreamKind.TheVariants as stream
use Rattle.orc_directory.specs.declared.fault.StripeFault.{StripeFault}
use Rattle.orc_directory.specs.declared.fault.StripeFault.TheVariants as fault
use Rattle.orc_column_reader.specs.Needs.{MarksBegin, ValuesNeeded, ElementsNeeded}
use Rattle.orc_column_reader.specs.RunFaults.{Integers, IntegersFirst, IntegersFail, ByteRunsFail, BoolsFail}
use Rattle.orc_column_reader.specs.ValueFaults.{NotAll, is_index, names_text, CutsNoText, PassTogether, HasOtherLength}
use Rattle.orc_column_reader.specs.Stripe.{Streams, version, has_dictionary, IsDictionary, SpellRows, in_present, in_data, in_length, in_dictionary}
use Rattle.orc_values.specs.Limits.{cell_limit, most_cells}

-- the column's stream of this kind doesn't have the runs that the column needs, for a cause for which `stands` holds
abbrev pub RunsFail : StreamKind → ℕ → (RunFault → Type 0) → StripeFault → Type 0
RunsFail kind column stands f =
    (cause : RunFault) × (f ≡ fault.Run column kind cause) × (cause ≢ run.OutOfMemory) × stands cause

-- an error of PRESENT; without PRESENT nothing is null, and there is none
abbrev pub MarksFail : List ℕ → Bool → ℕ → ℕ → StripeFault → Type 0
MarksFail [] all n column f = ⊥
MarksFail (b ∷ bs) all n column f = RunsFail stream.Present column (BoolsFail all n (b ∷ bs)) f

-- an error of a stream of integers of this kind that needs n numbers
abbrev pub NumbersFail : StreamKind → Integers → Bool → ℕ → ℕ → StripeFault → Type 0
NumbersFail kind from all n column f = RunsFail kind column (IntegersFail from all n) f

-- the integers of whole numbers and dates, which have a sign and are in DATA
abbrev pub data_of : Streams → Integers
data_of x = record { version = version x; sign = Signed; bytes = in_data x }

-- the integers of indexes, which have no sign and are in DATA
abbrev pub indexes_of : Streams → Integers
indexes_of x = record { version = version x; sign = Unsigned; bytes = in_data x }

-- the integers of lengths, which have no sign and are in LENGTH
abbrev pub lengths_of : Streams → Integers
lengths_of x = record { version = version x; sign = Unsigned; bytes = in_length x }

-- an error of the runs of numbers, or a number that is not in the range of the column's type
abbrev pub IntsFail : (ℤ → Bool) → (RunFault → Type 0) → (List ℤ → Type 0) → ℕ → StripeFault → Type 0
IntsFail fits runs first column f =
    RunsFail stream.Data column runs f ⊎ ((f ≡ fault.OutOfRange column) × NotAll fits first)

-- an error of byte strings: of their lengths, or of a stream that doesn't have as many bytes as these add up to
abbrev pub StringsFail : StreamKind → Integers → Bool → ℕ → List ℕ → ℕ → StripeFault → Type 0
StringsFail kind lengths all n bytes column f =
    NumbersFail stream.Length lengths all n column f
    ⊎ ((f ≡ fault.LengthSum column kind) × HasOtherLength lengths bytes)

-- an index names an entry that isn't UTF-8
abbrev pub NamesNoText : Streams → Type 0
NamesNoText x =
    (entries : List (List ℕ)) × IsDictionary x entries × NotAll (names_text entries) (IntegersFirst (indexes_of x))

-- an error of indexes: of their runs, an index without an entry, or one whose entry isn't UTF-8
abbrev pub IndexesFail : Streams → Bool → ℕ → ℕ → StripeFault → Type 0
IndexesFail x all n column f =
    NumbersFail stream.Data (indexes_of x) all n column f
    ⊎ (((f ≡ fault.BadIndex column) × NotAll (is_index x.encoding.dictionary_size) (IntegersFirst (indexes_of x)))
    ⊎ ((f ≡ fault.NotUtf8 column stream.DictionaryData) × NamesNoText x))

-- an error of texts, with a dictionary or without one
abbrev pub TextsFail : Bool → Streams → Bool → ℕ → ℕ → StripeFault → Type 0
TextsFail true x all n column f = IndexesFail x all n column f
TextsFail false x all n column f =
    StringsFail stream.Data (lengths_of x) all n (in_data x) column f
    ⊎ ((f ≡ fault.NotUtf8 column stream.Data) × CutsNoText (IntegersFirst (lengths_of x)) (in_data x))

-- an error of whole numbers or dates in DATA
abbrev pub SignedFail : (ℤ → Bool) → Streams → Bool → ℕ → ℕ → StripeFault → Type 0
SignedFail fits x all n column f = IntsFail fits (IntegersFail (data_of x) all n) (IntegersFirst (data_of x)) column f

-- an error of n values of a kind; every number of 64 bits is in the range of LONG
abbrev pub ScalarFails : Scalar → Streams → Bool → ℕ → ℕ → StripeFault → Type 0
ScalarFails kind.Boolean x all n column f = RunsFail stream.Data column (BoolsFail all n (in_data x)) f
ScalarFails kind.Byte x all n column f = RunsFail stream.Data column (ByteRunsFail all n (in_data x)) f
ScalarFails kind.Short x all n column f = SignedFail (int_fits kind.Short) x all n column f
ScalarFails kind.Int x all n column f = SignedFail (int_fits kind.Int) x all n column f
ScalarFails kind.Long x all n column f = NumbersFail stream.Data (data_of x) all n column f
ScalarFails kind.Date x all n column f = SignedFail (signed_fits 31) x all n column f
ScalarFails kind.Binary x all n column f = StringsFail stream.Data (lengths_of x) all n (in_data x) column f
ScalarFails kind.String x all n column f = TextsFail (has_dictionary x) x all n column f

-- an error of the sizes of n lists or maps: of their runs, or because they add up to more than a column may have
-- cells
abbrev pub ListsFail : Streams → Bool → ℕ → ℕ → StripeFault → Type 0
ListsFail x all n column f =
    NumbersFail stream.Length (lengths_of x) all n column f
    ⊎ ((f ≡ fault.TooMany column) × PassTogether (IntegersFirst (lengths_of x)) most_cells)

-- an error of the streams of n values besides PRESENT and the dictionary; structs have no such streams
abbrev pub ValuesFail : Shape → Streams → Bool → ℕ → ℕ → StripeFault → Type 0
ValuesFail (scalar k o) x all n column f = ScalarFails k x all n column f
ValuesFail (list_of s o) x all n column f = ListsFail x all n column f
ValuesFail (map_of k v o) x all n column f = ListsFail x all n column f
ValuesFail (struct_of fs o) x all n column f = ⊥

-- an error of the dictionary, if there is one, by its size
abbrev pub EntriesFail : Bool → Streams → ℕ → StripeFault → Type 0
EntriesFail true x column f =
    StringsFail stream.DictionaryData (lengths_of x) true x.encoding.dictionary_size (in_dictionary x) column f
EntriesFail false x column f = ⊥

-- an error of the dictionary of a column of this kind; only texts have one
abbrev pub ScalarEntriesFail : Scalar → Streams → ℕ → StripeFault → Type 0
ScalarEntriesFail kind.String x column f = EntriesFail (has_dictionary x) x column f
ScalarEntriesFail _ x column f = ⊥

-- an error of the dictionary of a column of this type; only texts have one
abbrev pub DictionaryFails : Shape → Streams → ℕ → StripeFault → Type 0
DictionaryFails (scalar k o) x column f = ScalarEntriesFail k x column f
DictionaryFails _ x column f = ⊥

-- an error of a column of that many cells: of its PRESENT, of its dictionary, of the streams of its values, or of the
-- columns below
abbrev pub FaultFrom : (ℕ → Bool → ℕ → StripeFault → Type 0)
    → Shape → (ℕ → Streams) → ℕ → Bool → ℕ → StripeFault → Type 0
FaultFrom below s columns c all cells f =
    MarksFail (in_present (columns c)) all cells c f
    ⊎ (DictionaryFails s (columns c) c f
    ⊎ ((n : ℕ)
    × ValuesNeeded all cells (MarksBegin (in_present (columns c))) n
    × (ValuesFail s (columns c) all n c f ⊎ below c all n f)))

abbrev mutual
  -- an error of the columns below one with n values: of its lists' elements, of its maps' keys and values, or of its
  -- structs' fields
  pub FaultBelow : Shape → (ℕ → Streams) → ℕ → Bool → ℕ → StripeFault → Type 0
  FaultBelow (scalar k o) columns c all n f = ⊥
  FaultBelow (list_of s o) columns c all n f =
      (e : ℕ)
      × ElementsNeeded all n (IntegersFirst (lengths_of (columns c))) e
      × FaultFrom (FaultBelow s columns) s columns (suc c) all e f
  FaultBelow (map_of k v o) columns c all n f =
      (e : ℕ)
      × ElementsNeeded all n (IntegersFirst (lengths_of (columns c))) e
      × (FaultFrom (FaultBelow k columns) k columns (suc c) all e f
      ⊎ FaultFrom (FaultBelow v columns) v columns (suc c + width k) all e f)
  FaultBelow (struct_of fs o) columns c all n f = FaultWithin fs columns (suc c) all n f

  pub FaultWithin : Fields → (ℕ → Streams) → ℕ → Bool → ℕ → StripeFault → Type 0
  FaultWithin no_field columns c all n f = ⊥
  FaultWithin (field name s fs) columns c all n f =
      FaultFrom (FaultBelow s columns) s columns c all n f ⊎ FaultWithin fs columns (c + width s) all n f

-- an error of a column of that many cells, or of one below it
abbrev pub FaultDown : Shape → (ℕ → Streams) → ℕ → Bool → ℕ → StripeFault → Type 0
FaultDown s columns c all cells f = FaultFrom (FaultBelow s columns) s columns c all cells f

-- An error of one of the schema's columns. The streams above a column store how many cells it has, or at least how
-- many.
abbrev pub HasFault : Shape → (ℕ → Streams) → ℕ → StripeFault → Type 0
HasFault schema columns count f = (all : Bool) × FaultDown schema columns 0 all count f

-- there are more rows than a column may have cells
abbrev pub TooManyRows : ℕ → StripeFault → Type 0
TooManyRows count f = (f ≡ fault.TooMany 0) × (cell_limit ≤ count)

-- Why there are no rows: there are more of them than a column may have cells, or a column has an error. The streams
-- store no rows then.
pub record RowsFault (schema : Shape) (columns : ℕ → Streams) (count : ℕ) (f : StripeFault) : Type 0 where
  pub none : (rows : List Cell) → SpellRows schema columns count rows → ⊥
  pub reason : TooManyRows count f ⊎ HasFault schema columns count f
