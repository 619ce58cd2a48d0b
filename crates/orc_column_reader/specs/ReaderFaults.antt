-- Which errors a reader meets if it still has to give n values or cells: exactly n if `all` is true, else at least n.
-- Each error that it meets after one value was read is one that it met before.
use Rattle.std.specs.Prelude.{◌≡◌, ℕ, ◌<◌, ℤ, pos, Bool, Option, Some, None, List, [], ◌∷◌, length, map, take, drop, sum, ◌⊎◌}
use Rattle.orc_values.specs.Fits.{int_fits, signed_fits}
use Rattle.orc_values.specs.Shapes.{Shape, scalar, list_of, map_of, struct_of, Fields, no_field, field, width}
use Rattle.orc_values.specs.declared.kind.Scalar.{Scalar}
use Rattle.orc_values.specs.declared.kind.Scalar.TheVariants as kind
use Rattle.std.specs.declared.vec.Vec.{Vec}
use Rattle.std.specs.declared.alloc.Global.{Global}
use Rattle.orc_column_reader.specs.declared.entry.Entry.{Entry}
use Rattle.orc_column_reader.specs.declared.column.ValueSource.{ValueSource}
use Rattle.orc_column_reader.specs.declared.column.ColumnReader.{ColumnReader}
use Rattle.orc_directory.specs.declared.fault.StreamKind.{StreamKind}
use Rattle.orc_directory.specs.declared.fault.StreamKind.TheVariants as stream
use Rattle.orc_directory.specs.declared.fault.StripeFault.{StripeFault}
use Rattle.orc_directory.specs.declared.fault.StripeFault.TheVariants as fault
use Rattle.orc_column_reader.specs.declared.numbers.Numbers.{Numbers}
use Rattle.orc_column_reader.specs.declared.octets.Octets.{Octets}
use Rattle.orc_column_reader.specs.Columns.{entry_bytes, MarksFirst}
use Rattle.orc_column_reader.specs.Faults.{RunsFail, IntsFail}
use Rattle.orc_column_reader.specs.Needs.{ValuesNeeded, ElementsNeeded}
use Rattle.orc_column_reader.specs.Numbers.{NumbersLeft, NumbersFirst}
use Rattle.orc_column_reader.specs.RunFaults.{Always}
use Rattle.orc_column_reader.specs.RunsMet.{NumbersMeet, BytesMeet, BitsMeet, MarksMeet}
use Rattle.orc_column_reader.specs.ValueFaults.{NotAll, is_index, names_text, CutsNoText, StayBelow}

-- the numbers that come first are no lengths, or add up to more than `most`
abbrev pub Pass : (List ℤ → Type 0) → ℕ → Type 0
Pass first most =
    (numbers : List ℤ) × first numbers × ((lengths : List ℕ) → numbers ≡ map pos lengths → most < sum lengths)

-- an error that a reader of integers meets: an invalid run, or a number that is not in the range of the kind
abbrev pub IntsMeet : (ℤ → Bool) → Numbers → Bool → ℕ → ℕ → StripeFault → Type 0
IntsMeet fits numbers all n column f =
    IntsFail fits (Always all n (NumbersMeet numbers)) (NumbersFirst numbers) column f

-- an error that a reader of byte strings meets: an invalid run of lengths, lengths that add up to more than the bytes
-- that are left, or lengths that leave bytes over
abbrev pub StringsMeet : StreamKind → Numbers → Octets → Bool → ℕ → ℕ → StripeFault → Type 0
StringsMeet kind numbers octets all n column f =
    RunsFail stream.Length column (Always all n (NumbersMeet numbers)) f
    ⊎ ((f ≡ fault.LengthSum column kind)
    × (Pass (NumbersFirst numbers) (length octets.rest.now)
    ⊎ StayBelow (NumbersLeft numbers) (length octets.rest.now)))

-- an error that a reader of texts meets: one of byte strings, or bytes that are not UTF-8
abbrev pub TextMeets : Numbers → Octets → Bool → ℕ → ℕ → StripeFault → Type 0
TextMeets numbers octets all n column f =
    StringsMeet stream.Data numbers octets all n column f
    ⊎ ((f ≡ fault.NotUtf8 column stream.Data) × CutsNoText (NumbersFirst numbers) octets.rest.now)

-- an error that a reader of dictionary indexes meets: an invalid run, an index without an entry, or an entry that is
-- not UTF-8
abbrev pub IndexesMeet : List (List ℕ) → Numbers → Bool → ℕ → ℕ → StripeFault → Type 0
IndexesMeet entries numbers all n column f =
    RunsFail stream.Data column (Always all n (NumbersMeet numbers)) f
    ⊎ (((f ≡ fault.BadIndex column) × NotAll (is_index (length entries)) (NumbersFirst numbers))
    ⊎ ((f ≡ fault.NotUtf8 column stream.DictionaryData) × NotAll (names_text entries) (NumbersFirst numbers)))

-- an error that a reader of texts meets, without a dictionary or with one
abbrev pub TextsMeet : Option (Vec Entry Global) → ValueSource → Bool → ℕ → StripeFault → Type 0
TextsMeet None r all n f = TextMeets r.numbers r.octets all n r.column f
TextsMeet (Some entries) r all n f = IndexesMeet (map entry_bytes entries.items) r.numbers all n r.column f

-- an error that a reader of values meets whose kind contains no other type
abbrev pub ScalarMeets : Scalar → ValueSource → Bool → ℕ → StripeFault → Type 0
ScalarMeets kind.Boolean r all n f = RunsFail stream.Data r.column (Always all n (BitsMeet r.bits)) f
ScalarMeets kind.Byte r all n f = RunsFail stream.Data r.column (Always all n (BytesMeet r.bytes)) f
ScalarMeets kind.Short r all n f = IntsMeet (int_fits kind.Short) r.numbers all n r.column f
ScalarMeets kind.Int r all n f = IntsMeet (int_fits kind.Int) r.numbers all n r.column f
ScalarMeets kind.Long r all n f = RunsFail stream.Data r.column (Always all n (NumbersMeet r.numbers)) f
ScalarMeets kind.Date r all n f = IntsMeet (signed_fits 31) r.numbers all n r.column f
ScalarMeets kind.Binary r all n f = StringsMeet stream.Data r.numbers r.octets all n r.column f
ScalarMeets kind.String r all n f = TextsMeet r.entries r all n f

-- an error that a reader of the sizes of lists or maps meets: an invalid run, or sizes without room
abbrev pub ListsMeet : ValueSource → Bool → ℕ → StripeFault → Type 0
ListsMeet r all n f =
    RunsFail stream.Length r.column (Always all n (NumbersMeet r.numbers)) f
    ⊎ ((f ≡ fault.TooMany r.column) × Pass (NumbersFirst r.numbers) r.room)

-- an error that a reader of a column's streams besides PRESENT meets, by the column's type
abbrev pub ValuesMeet : Shape → ValueSource → Bool → ℕ → StripeFault → Type 0
ValuesMeet (scalar k o) r all n f = ScalarMeets k r all n f
ValuesMeet (list_of s o) r all n f = ListsMeet r all n f
ValuesMeet (map_of k v o) r all n f = ListsMeet r all n f
ValuesMeet (struct_of fs o) r all n f = ⊥

-- an error that a reader of PRESENT meets
abbrev pub PresentMeets : ColumnReader → Bool → ℕ → StripeFault → Type 0
PresentMeets own all n f = RunsFail stream.Present own.source.column (Always all n (MarksMeet own.present)) f

-- an error that the readers of a column meet: of PRESENT, of another stream of the column, or of the columns below
abbrev pub ReadersMeet : (ValueSource → List ColumnReader → Bool → ℕ → StripeFault → Type 0)
    → Shape → List ColumnReader → Bool → ℕ → StripeFault → Type 0
ReadersMeet found s [] all n f = ⊥
ReadersMeet found s (own ∷ below) all n f =
    PresentMeets own all n f
    ⊎ ((v : ℕ)
    × ValuesNeeded all n (MarksFirst own.present) v
    × (ValuesMeet s own.source all v f ⊎ found own.source below all v f))

abbrev mutual
  -- an error that the readers below a column meet if it still has to give n values
  pub BelowMeet : Shape → ValueSource → List ColumnReader → Bool → ℕ → StripeFault → Type 0
  BelowMeet (scalar k o) source below all n f = ⊥
  BelowMeet (list_of s o) source below all n f =
      (e : ℕ) × ElementsNeeded all n (NumbersFirst source.numbers) e × ReadersMeet (BelowMeet s) s below all e f
  BelowMeet (map_of k v o) source below all n f =
      (e : ℕ)
      × ElementsNeeded all n (NumbersFirst source.numbers) e
      × (ReadersMeet (BelowMeet k) k (take (width k) below) all e f
      ⊎ ReadersMeet (BelowMeet v) v (drop (width k) below) all e f)
  BelowMeet (struct_of fs o) source below all n f = FieldsMeet fs below all n f

  pub FieldsMeet : Fields → List ColumnReader → Bool → ℕ → StripeFault → Type 0
  FieldsMeet no_field readers all n f = ⊥
  FieldsMeet (field name s fs) readers all n f =
      ReadersMeet (BelowMeet s) s (take (width s) readers) all n f ⊎ FieldsMeet fs (drop (width s) readers) all n f

-- an error that the readers of a column and of those below it meet if they still have to give n cells
abbrev pub CellsMeet : Shape → List ColumnReader → Bool → ℕ → StripeFault → Type 0
CellsMeet s readers all n f = ReadersMeet (BelowMeet s) s readers all n f

-- an error that the readers of a column and of those below it meet if they still have to give n values
abbrev pub OwnMeet : Shape → List ColumnReader → Bool → ℕ → StripeFault → Type 0
OwnMeet s [] all n f = ⊥
OwnMeet s (own ∷ below) all n f = ValuesMeet s own.source all n f ⊎ BelowMeet s own.source below all n f

-- an error that the readers of a column of lists meet
abbrev pub ListsOfMeet : Shape → List ColumnReader → Bool → ℕ → StripeFault → Type 0
ListsOfMeet element readers all n f = OwnMeet (list_of element []) readers all n f

-- an error that the readers of a map's keys and values meet if they still have to give n pairs
abbrev pub PairsMeet : Shape → Shape → List ColumnReader → Bool → ℕ → StripeFault → Type 0
PairsMeet k v below all n f = CellsMeet k (take (width k) below) all n f ⊎ CellsMeet v (drop (width k) below) all n f

-- an error that the readers of a column of maps meet
abbrev pub MapsOfMeet : Shape → Shape → List ColumnReader → Bool → ℕ → StripeFault → Type 0
MapsOfMeet k v readers all n f = OwnMeet (map_of k v []) readers all n f
