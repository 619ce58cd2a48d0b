-- Readers that stand at the same positions have the same still to give.
use Rattle.std.proofs.Common.{◌≡◌, ℕ, zero, suc, ◌+◌, ◌-◌, ◌<◌, ◌≤◌, Bool, true, false, ltb, Option, Some, None, List, [], ◌∷◌, ◌++◌, map, length, take, drop, get_or, refl, sym, ap, ◌∙◌, subst, arith, slice_get, length-drop}
use Rattle.std.proofs.lemmas.Bool.{lt-ltb, le-ltb}
use Rattle.std.proofs.lemmas.List.{length-take-le}
use Rattle.std.proofs.lemmas.Option.{slice_get_within}
use Rattle.std.specs.declared.vec.Vec.{Vec}
use Rattle.std.specs.declared.alloc.Global.{Global}
use Rattle.orc_bits.specs.Packed.{bits, digits}
use Rattle.orc_rle.specs.ByteRun.{IsByteRun}
use Rattle.orc_rle.specs.Stream.{IsStream, RunsLeft}
use Rattle.orc_rle.specs.declared.sign.Rle.{Rle}
use Rattle.orc_rle.specs.declared.sign.Sign.{Sign}
use Rattle.orc_rle.specs.declared.sign.Sign.TheVariants.{Signed, Unsigned}
use Rattle.orc_rle.proofs.SeekLemmas.{one_seek, one_bit_seek}
use Rattle.orc_values.specs.Cells.{Cell, is_value, values}
use Rattle.orc_values.specs.Shapes.{Shape, scalar, list_of, map_of, struct_of, Fields, no_field, field, width, widths, shape_at, shape_within}
use Rattle.orc_values.specs.declared.kind.Scalar.{Scalar}
use Rattle.orc_values.specs.declared.kind.Scalar.TheVariants as kind
use Rattle.orc_wire.specs.declared.row_index.RowIndexEntry.{RowIndexEntry}
use Rattle.orc_column_reader.specs.Bits.{BitsLeft}
use Rattle.orc_column_reader.specs.Bytes.{BytesLeft}
use Rattle.orc_column_reader.specs.Columns.{MarksLeft, IsBool, IsByte, IsInt, IsDate, IsText, IsBinary, IsEntry, entry_bytes, StringsLeft, TextsLeft, ScalarLeft, FieldsLeft, CellsLeft}
use Rattle.orc_column_reader.specs.Numbers.{is_run, NumbersLeft}
use Rattle.orc_column_reader.specs.Spellings.{Standing, size, concatenated}
use Rattle.orc_column_reader.specs.Stripe.{Streams, version, has_dictionary, in_present, in_data, in_length}
use Rattle.orc_column_reader.specs.declared.bits.Bits.{Bits}
use Rattle.orc_column_reader.specs.declared.bytes.RunLengthBytes.{RunLengthBytes}
use Rattle.orc_column_reader.specs.declared.column.ColumnReader.{ColumnReader}
use Rattle.orc_column_reader.specs.declared.column.ValueSource.{ValueSource}
use Rattle.orc_column_reader.specs.declared.entry.Entry.{Entry}
use Rattle.orc_column_reader.specs.declared.numbers.Numbers.{Numbers}
use Rattle.orc_column_reader.proofs.BitsLemmas.{no_digit}
use Rattle.orc_column_reader.proofs.NumbersLemmas.{laws_of, byte_laws}
use Rattle.orc_column_reader.proofs.OneRows.{one_dictionary}
use Rattle.orc_row_index.specs.RunStreams.{RunStream, bit_runs, byte_runs, number_runs, value_runs, value_bytes, text_runs, text_octets}
use Rattle.orc_group_reader.specs.Columns.{CutsOctets, IsSource, HasDictionaryEntries}
use Rattle.orc_group_reader.specs.ReadersAt.{NumbersAt, BytesAt, HoldsFirst, BitsAt, StreamAt, MarksAt, SourceAt, ColumnAt, ReadersAt}
use Rattle.orc_group_reader.specs.Refusals.{present_size}
use Rattle.orc_group_reader.specs.declared.entered.Entered.{Entered}
use Rattle.orc_group_reader.specs.declared.entered.Entered.TheVariants as entered
use Rattle.orc_group_reader.proofs.ByColumn.{get_take, get_drop}
use Rattle.orc_group_reader.proofs.ValuesTurned.{rest_of}
use Rattle.orc_values.proofs.Deeper.{width_pos}

-- ---- streams of runs

runs_moved : {A : Type 0} (R : List ℕ → List A → Type 0) (p q : List A) (s t : List ℕ) (all : List A) → p ≡ q → s ≡ t → RunsLeft R p s all → RunsLeft R q t all
runs_moved {A = A} R p q s t all pending rest h = (h.0, h.1 ∙ ap (λ (x : List A). x ++ h.0) pending, subst (λ (x : List ℕ). IsStream R x h.0) rest h.2)

-- what one has still to give, the other has
abbrev GivesAs : {A X : Type 0} → (A → List X → Type 0) → A → A → Type 0
GivesAs {X = X} left a b = (all : List X) → left a all → left b all

numbers_same : (v : Rle) (s : Sign) (bytes : List ℕ) (offset skip : ℕ) (a b : Numbers) → NumbersAt v s bytes offset skip a → NumbersAt v s bytes offset skip b → GivesAs NumbersLeft a b
numbers_same v s bytes offset skip a b m n all h =
    let laws = laws_of v s in
    let same = one_seek (is_run v s) laws.one laws.some bytes offset skip skip a.at b.at (drop a.used a.run.values) (drop b.used b.run.values) m.seeks n.seeks in
    let whole : a.bytes.now ≡ b.bytes.now = m.bytes_are ∙ sym n.bytes_are in
    let rest : drop a.at a.bytes.now ≡ drop b.at b.bytes.now = λ i. drop (same.len i) (whole i) in
    let signed = subst (λ (t : Sign). RunsLeft (is_run a.version t) (drop a.used a.run.values) (drop a.at a.bytes.now) all) m.sign_is h in
    let here = subst (λ (w : Rle). RunsLeft (is_run w s) (drop a.used a.run.values) (drop a.at a.bytes.now) all) m.version_is signed in
    let there = runs_moved (is_run v s) (drop a.used a.run.values) (drop b.used b.run.values) (drop a.at a.bytes.now) (drop b.at b.bytes.now) all same.left rest here in
    subst (λ (w : Rle). RunsLeft (is_run w b.sign) (drop b.used b.run.values) (drop b.at b.bytes.now) all) (sym n.version_is)
    (subst (λ (t : Sign). RunsLeft (is_run v t) (drop b.used b.run.values) (drop b.at b.bytes.now) all) (sym n.sign_is) there)

bytes_same : (bytes : List ℕ) (offset skip : ℕ) (a b : RunLengthBytes) → BytesAt bytes offset skip a → BytesAt bytes offset skip b → GivesAs BytesLeft a b
bytes_same bytes offset skip a b m n all h =
    let same = one_seek IsByteRun byte_laws.one byte_laws.some bytes offset skip skip a.at b.at (drop a.used a.run.values) (drop b.used b.run.values) m.seeks n.seeks in
    let whole : a.bytes.now ≡ b.bytes.now = m.bytes_are ∙ sym n.bytes_are in
    let rest : drop a.at a.bytes.now ≡ drop b.at b.bytes.now = λ i. drop (same.len i) (whole i) in
    runs_moved IsByteRun (drop a.used a.run.values) (drop b.used b.run.values) (drop a.at a.bytes.now) (drop b.at b.bytes.now) all same.left rest h

-- the same digits of a byte are held, and the same bytes are pending
record HoldsAs (a b : Bits) : Type 0 where
  pending : drop a.bytes.used a.bytes.run.values ≡ drop b.bytes.used b.bytes.run.values
  digits_are : (rest : List ℕ) → bits b.held b.left ++ rest ≡ bits a.held a.left ++ rest

holds_same : (left : List ℕ) (passed : ℕ) (a b : Bits) → HoldsFirst left passed a → HoldsFirst left passed b → HoldsAs a b
holds_same left zero a b m n = record {
  pending = m.1 ∙ sym n.1;
  digits_are = λ rest. no_digit b.held b.left rest n.0 ∙ sym (no_digit a.held a.left rest m.0);
}
holds_same [] (suc passed) a b m n = absurd m
holds_same (byte ∷ more) (suc passed) a b m n =
    let held : b.held ≡ a.held = n.0 ∙ sym m.0 in
    let left : b.left ≡ a.left = n.1 ∙ sym m.1 in
    record { pending = m.2 ∙ sym n.2; digits_are = λ rest. λ i. bits (held i) (left i) ++ rest }

bits_same : (bytes : List ℕ) (offset skip passed : ℕ) (a b : Bits) → BitsAt bytes offset skip passed a → BitsAt bytes offset skip passed b → GivesAs BitsLeft a b
bits_same bytes offset skip passed a b m n all h =
    let same = one_bit_seek bytes offset skip passed a.bytes.at b.bytes.at m.left n.left m.seeks n.seeks in
    let holds = holds_same n.left passed a b (subst (λ (t : List ℕ). HoldsFirst t passed a) same.left m.holds) n.holds in
    let whole : a.bytes.bytes.now ≡ b.bytes.bytes.now = m.bytes_are ∙ sym n.bytes_are in
    let rest : drop a.bytes.at a.bytes.bytes.now ≡ drop b.bytes.at b.bytes.bytes.now = λ i. drop (same.len i) (whole i) in
    record {
      packed = h.packed;
      spelled = runs_moved IsByteRun (drop a.bytes.used a.bytes.run.values) (drop b.bytes.used b.bytes.run.values) (drop a.bytes.at a.bytes.bytes.now) (drop b.bytes.at b.bytes.bytes.now) h.packed holds.pending rest h.spelled;
      spare = h.spare;
      few = h.few;
      digits_are = holds.digits_are (digits 8 h.packed) ∙ h.digits_are;
    }

-- ---- the stream that a source was entered with

-- its numbers stand at a position
record NumbersOf (v : Rle) (s : Sign) (bytes positions : List ℕ) (source : ValueSource) : Type 0 where
  offset : ℕ
  skip : ℕ
  positions_are : positions ≡ offset ∷ skip ∷ []
  stand : NumbersAt v s bytes offset skip source.numbers

numbers_of : (v : Rle) (s : Sign) (bytes positions : List ℕ) (own : Entered) (rest : List ℕ) (source : ValueSource) → StreamAt (number_runs v s bytes) positions own → IsSource own rest source → NumbersOf v s bytes positions source
numbers_of v s bytes positions entered.Nothing rest source h is = absurd h
numbers_of v s bytes positions (entered.Bits r) rest source h is = absurd h
numbers_of v s bytes positions (entered.Bytes r) rest source h is = absurd h
numbers_of v s bytes positions (entered.Numbers r) rest source h is =
    record { offset = h.0; skip = h.1; positions_are = h.2; stand = subst (λ (n : Numbers). NumbersAt v s bytes h.0 h.1 n) (sym is.0) h.3 }

numbers_as : (v : Rle) (s : Sign) (bytes positions : List ℕ) (a b : ValueSource) → NumbersOf v s bytes positions a → NumbersOf v s bytes positions b → GivesAs NumbersLeft a.numbers b.numbers
numbers_as v s bytes positions a b m n =
    let e : n.offset ∷ n.skip ∷ [] ≡ m.offset ∷ m.skip ∷ [] = sym n.positions_are ∙ m.positions_are in
    let offset : n.offset ≡ m.offset = ap (λ (t : List ℕ). get_or t 0 0) e in
    let skip : n.skip ≡ m.skip = ap (λ (t : List ℕ). get_or t 1 0) e in
    numbers_same v s bytes m.offset m.skip a.numbers b.numbers m.stand
    (subst (λ (k : ℕ). NumbersAt v s bytes m.offset k b.numbers) skip (subst (λ (k : ℕ). NumbersAt v s bytes k n.skip b.numbers) offset n.stand))

-- its bytes in runs
record BytesOf (bytes positions : List ℕ) (source : ValueSource) : Type 0 where
  offset : ℕ
  skip : ℕ
  positions_are : positions ≡ offset ∷ skip ∷ []
  stand : BytesAt bytes offset skip source.bytes

bytes_of : (bytes positions : List ℕ) (own : Entered) (rest : List ℕ) (source : ValueSource) → StreamAt (byte_runs bytes) positions own → IsSource own rest source → BytesOf bytes positions source
bytes_of bytes positions entered.Nothing rest source h is = absurd h
bytes_of bytes positions (entered.Bits r) rest source h is = absurd h
bytes_of bytes positions (entered.Numbers r) rest source h is = absurd h
bytes_of bytes positions (entered.Bytes r) rest source h is =
    record { offset = h.0; skip = h.1; positions_are = h.2; stand = subst (λ (n : RunLengthBytes). BytesAt bytes h.0 h.1 n) (sym is.0) h.3 }

bytes_as : (bytes positions : List ℕ) (a b : ValueSource) → BytesOf bytes positions a → BytesOf bytes positions b → GivesAs BytesLeft a.bytes b.bytes
bytes_as bytes positions a b m n =
    let e : n.offset ∷ n.skip ∷ [] ≡ m.offset ∷ m.skip ∷ [] = sym n.positions_are ∙ m.positions_are in
    let offset : n.offset ≡ m.offset = ap (λ (t : List ℕ). get_or t 0 0) e in
    let skip : n.skip ≡ m.skip = ap (λ (t : List ℕ). get_or t 1 0) e in
    bytes_same bytes m.offset m.skip a.bytes b.bytes m.stand
    (subst (λ (k : ℕ). BytesAt bytes m.offset k b.bytes) skip (subst (λ (k : ℕ). BytesAt bytes k n.skip b.bytes) offset n.stand))

-- booleans at a position
record BitsOf (bytes positions : List ℕ) (r : Bits) : Type 0 where
  offset : ℕ
  skip : ℕ
  passed : ℕ
  positions_are : positions ≡ offset ∷ skip ∷ passed ∷ []
  stand : BitsAt bytes offset skip passed r

bits_of : (bytes positions : List ℕ) (r : Bits) → StreamAt (bit_runs bytes) positions (entered.Bits r) → BitsOf bytes positions r
bits_of bytes positions r h = record { offset = h.0; skip = h.1; passed = h.2; positions_are = h.3; stand = h.4 }

bits_as : (bytes positions : List ℕ) (a b : Bits) → BitsOf bytes positions a → BitsOf bytes positions b → GivesAs BitsLeft a b
bits_as bytes positions a b m n =
    let e : n.offset ∷ n.skip ∷ n.passed ∷ [] ≡ m.offset ∷ m.skip ∷ m.passed ∷ [] = sym n.positions_are ∙ m.positions_are in
    let offset : n.offset ≡ m.offset = ap (λ (t : List ℕ). get_or t 0 0) e in
    let skip : n.skip ≡ m.skip = ap (λ (t : List ℕ). get_or t 1 0) e in
    let passed : n.passed ≡ m.passed = ap (λ (t : List ℕ). get_or t 2 0) e in
    bits_same bytes m.offset m.skip m.passed a b m.stand
    (subst (λ (k : ℕ). BitsAt bytes m.offset m.skip k b) passed
    (subst (λ (k : ℕ). BitsAt bytes m.offset k n.passed b) skip (subst (λ (k : ℕ). BitsAt bytes k n.skip n.passed b) offset n.stand)))

booleans_of : (bytes positions : List ℕ) (own : Entered) (rest : List ℕ) (source : ValueSource) → StreamAt (bit_runs bytes) positions own → IsSource own rest source → BitsOf bytes positions source.bits
booleans_of bytes positions entered.Nothing rest source h is = absurd h
booleans_of bytes positions (entered.Bytes r) rest source h is = absurd h
booleans_of bytes positions (entered.Numbers r) rest source h is = absurd h
booleans_of bytes positions (entered.Bits r) rest source h is = subst (λ (n : Bits). BitsOf bytes positions n) (sym is.0) (bits_of bytes positions r h)

-- PRESENT
marks_as : (bytes positions : List ℕ) (a b : Option Bits) → MarksAt bytes positions a → MarksAt bytes positions b → GivesAs MarksLeft a b
marks_as [] positions None None m n = λ all h. h
marks_as [] positions None (Some q) m n = absurd n
marks_as [] positions (Some r) b m n = absurd m
marks_as (c ∷ bytes) positions None b m n = absurd m
marks_as (c ∷ bytes) positions (Some r) None m n = absurd n
marks_as (c ∷ bytes) positions (Some r) (Some q) m n = bits_as (c ∷ bytes) positions r q (bits_of (c ∷ bytes) positions r m) (bits_of (c ∷ bytes) positions q n)

-- ---- values

-- of a column's values what one source has, the other has
abbrev SourceGivesAs : Shape → ValueSource → ValueSource → Type 0
SourceGivesAs (scalar k o) a b = GivesAs (ScalarLeft k) a b
SourceGivesAs (list_of s o) a b = GivesAs NumbersLeft a.numbers b.numbers × (a.room ≡ b.room)
SourceGivesAs (map_of k v o) a b = GivesAs NumbersLeft a.numbers b.numbers × (a.room ≡ b.room)
SourceGivesAs (struct_of fs o) a b = Unit {0}

standing_as : {X A : Type 0} (stands : X → Cell → Type 0) (left : A → List X → Type 0) (a b : A) → GivesAs left a b → GivesAs (λ (r : A). Standing stands (left r)) a b
standing_as stands left a b same all h = (h.0, h.1, same h.0 h.2)

strings_as : (a b : ValueSource) → GivesAs NumbersLeft a.numbers b.numbers → a.octets.rest.now ≡ b.octets.rest.now → GivesAs StringsLeft a b
strings_as a b numbers octets all h = (numbers (map size all) h.0, h.1 ∙ octets)

-- the bytes behind a position, and the positions behind it
record CutAs (content : Option (List ℕ)) (rest other last more : List ℕ) : Type 0 where
  positions_are : last ≡ more
  same : (bytes : List ℕ) → content ≡ Some bytes → rest ≡ other

cut_as : (content : Option (List ℕ)) (positions rest other last more : List ℕ) → CutsOctets content positions rest last → CutsOctets content positions other more → CutAs content rest other last more
cut_as None positions rest other last more m n = record { positions_are = m ∙ sym n; same = λ bytes e. absurd (cc) }
cut_as (Some bytes) positions rest other last more m n =
    let e : m.0 ∷ last ≡ n.0 ∷ more = sym m.1 ∙ n.1 in
    let offset : m.0 ≡ n.0 = ap (λ (t : List ℕ). get_or t 0 0) e in
    record { positions_are = ap (drop 1) e; same = λ _ _. m.2 ∙ (ap (λ (k : ℕ). drop k bytes) offset ∙ sym n.2) }

module _ (s : Shape) (x : Streams) (c : ℕ) (positions : List ℕ) (a b : ValueSource) (m : SourceAt s x c positions a) (n : SourceAt s x c positions b) where
  cut : CutAs (value_bytes s x) m.rest n.rest m.last n.last
  cut = cut_as (value_bytes s x) positions m.rest n.rest m.last n.last m.cut n.cut

  octets_as : (bytes : List ℕ) → value_bytes s x ≡ Some bytes → a.octets.rest.now ≡ b.octets.rest.now
  octets_as bytes e = rest_of m.own m.rest a m.source_is ∙ (cut.same bytes e ∙ sym (rest_of n.own n.rest b n.source_is))

  own_numbers : (v : Rle) (g : Sign) (bytes : List ℕ) → value_runs s x ≡ number_runs v g bytes → GivesAs NumbersLeft a.numbers b.numbers
  own_numbers v g bytes e =
      let first = numbers_of v g bytes m.last m.own m.rest a (subst (λ (r : RunStream). StreamAt r m.last m.own) e m.entered) m.source_is in
      let second = numbers_of v g bytes n.last n.own n.rest b (subst (λ (r : RunStream). StreamAt r n.last n.own) e n.entered) n.source_is in
      numbers_as v g bytes m.last a b first (subst (λ (t : List ℕ). NumbersOf v g bytes t b) (sym cut.positions_are) second)

  own_bytes : (bytes : List ℕ) → value_runs s x ≡ byte_runs bytes → GivesAs BytesLeft a.bytes b.bytes
  own_bytes bytes e =
      let first = bytes_of bytes m.last m.own m.rest a (subst (λ (r : RunStream). StreamAt r m.last m.own) e m.entered) m.source_is in
      let second = bytes_of bytes n.last n.own n.rest b (subst (λ (r : RunStream). StreamAt r n.last n.own) e n.entered) n.source_is in
      bytes_as bytes m.last a b first (subst (λ (t : List ℕ). BytesOf bytes t b) (sym cut.positions_are) second)

  own_bits : (bytes : List ℕ) → value_runs s x ≡ bit_runs bytes → GivesAs BitsLeft a.bits b.bits
  own_bits bytes e =
      let first = booleans_of bytes m.last m.own m.rest a (subst (λ (r : RunStream). StreamAt r m.last m.own) e m.entered) m.source_is in
      let second = booleans_of bytes n.last n.own n.rest b (subst (λ (r : RunStream). StreamAt r n.last n.own) e n.entered) n.source_is in
      bits_as bytes m.last a.bits b.bits first (subst (λ (t : List ℕ). BitsOf bytes t b.bits) (sym cut.positions_are) second)

texts_as : (o : List ℕ) (x : Streams) (c : ℕ) (positions : List ℕ) (a b : ValueSource) → SourceAt (scalar kind.String o) x c positions a → SourceAt (scalar kind.String o) x c positions b
    → (d : Bool) → has_dictionary x ≡ d → (first second : Option (Vec Entry Global)) → HasDictionaryEntries d x first → HasDictionaryEntries d x second → (all : List Cell) → TextsLeft first a all → TextsLeft second b all
texts_as o x c positions a b m n true e (Some first) (Some second) p q all h =
    let own = first.items in
    let numbers = own_numbers (scalar kind.String o) x c positions a b m n (version x) Unsigned (in_data x) (ap (λ (d : Bool). text_runs d x) e) in
    let words : map entry_bytes own ≡ map entry_bytes second.items = one_dictionary x (map entry_bytes own) (map entry_bytes second.items) p q in
    subst (λ (ws : List (List ℕ)). Standing (IsEntry ws) (NumbersLeft b.numbers) all) words (standing_as (IsEntry (map entry_bytes own)) NumbersLeft a.numbers b.numbers numbers all h)
texts_as o x c positions a b m n true e (Some first) None p q all h = absurd q
texts_as o x c positions a b m n true e None second p q all h = absurd p
texts_as o x c positions a b m n false e (Some first) second p q all h = absurd p
texts_as o x c positions a b m n false e None (Some second) p q all h = absurd q
texts_as o x c positions a b m n false e None None p q all h =
    let s = scalar kind.String o in
    let numbers = own_numbers s x c positions a b m n (version x) Unsigned (in_length x) (ap (λ (d : Bool). text_runs d x) e) in
    let octets = octets_as s x c positions a b m n (in_data x) (ap (λ (d : Bool). text_octets d x) e) in
    standing_as IsText StringsLeft a b (strings_as a b numbers octets) all h

scalar_as : (k : Scalar) (o : List ℕ) (x : Streams) (c : ℕ) (positions : List ℕ) (a b : ValueSource) → SourceAt (scalar k o) x c positions a → SourceAt (scalar k o) x c positions b → GivesAs (ScalarLeft k) a b
scalar_as kind.Boolean o x c positions a b m n = standing_as IsBool BitsLeft a.bits b.bits (own_bits (scalar kind.Boolean o) x c positions a b m n (in_data x) refl)
scalar_as kind.Byte o x c positions a b m n = standing_as IsByte BytesLeft a.bytes b.bytes (own_bytes (scalar kind.Byte o) x c positions a b m n (in_data x) refl)
scalar_as kind.Short o x c positions a b m n = standing_as (IsInt kind.Short) NumbersLeft a.numbers b.numbers (own_numbers (scalar kind.Short o) x c positions a b m n (version x) Signed (in_data x) refl)
scalar_as kind.Int o x c positions a b m n = standing_as (IsInt kind.Int) NumbersLeft a.numbers b.numbers (own_numbers (scalar kind.Int o) x c positions a b m n (version x) Signed (in_data x) refl)
scalar_as kind.Long o x c positions a b m n = standing_as (IsInt kind.Long) NumbersLeft a.numbers b.numbers (own_numbers (scalar kind.Long o) x c positions a b m n (version x) Signed (in_data x) refl)
scalar_as kind.Date o x c positions a b m n = standing_as IsDate NumbersLeft a.numbers b.numbers (own_numbers (scalar kind.Date o) x c positions a b m n (version x) Signed (in_data x) refl)
scalar_as kind.Binary o x c positions a b m n =
    let s = scalar kind.Binary o in
    let numbers = own_numbers s x c positions a b m n (version x) Unsigned (in_length x) refl in
    standing_as IsBinary StringsLeft a b (strings_as a b numbers (octets_as s x c positions a b m n (in_data x) refl))
scalar_as kind.String o x c positions a b m n = λ all h. texts_as o x c positions a b m n (has_dictionary x) refl a.entries b.entries m.entries n.entries all h

source_as : (s : Shape) (x : Streams) (c : ℕ) (positions : List ℕ) (a b : ValueSource) → SourceAt s x c positions a → SourceAt s x c positions b → SourceGivesAs s a b
source_as (scalar k o) x c positions a b m n = scalar_as k o x c positions a b m n
source_as (list_of s o) x c positions a b m n = (own_numbers (list_of s o) x c positions a b m n (version x) Unsigned (in_length x) refl, m.room ∙ sym n.room)
source_as (map_of k v o) x c positions a b m n = (own_numbers (map_of k v o) x c positions a b m n (version x) Unsigned (in_length x) refl, m.room ∙ sym n.room)
source_as (struct_of fs o) x c positions a b m n = tt

-- ---- a column's own reader

record ReaderGivesAs (s : Shape) (a b : ColumnReader) : Type 0 where
  marks : GivesAs MarksLeft a.present b.present
  source : SourceGivesAs s a.source b.source

reader_as : (s : Shape) (x : Streams) (c : ℕ) (positions : List ℕ) (a b : ColumnReader) → ColumnAt s x c positions a → ColumnAt s x c positions b → ReaderGivesAs s a b
reader_as s x c positions a b m n = record {
  marks = marks_as (in_present x) (take (present_size x) positions) a.present b.present m.marks n.marks;
  source = source_as s x c (drop (present_size x) positions) a.source b.source m.source n.source;
}

-- ---- those of all columns, down the type

record AllGiveAs (s : Shape) (ones others : List ColumnReader) : Type 0 where
  first : length ones ≡ width s
  second : length others ≡ width s
  column : (c : ℕ) (a b : ColumnReader) → slice_get ones c ≡ Some a → slice_get others c ≡ Some b → ReaderGivesAs (shape_at s c) a b

record FieldsGiveAs (fs : Fields) (ones others : List ColumnReader) : Type 0 where
  first : length ones ≡ widths fs
  second : length others ≡ widths fs
  column : (c : ℕ) (a b : ColumnReader) → slice_get ones c ≡ Some a → slice_get others c ≡ Some b → ReaderGivesAs (shape_within fs c) a b

-- the columns of a map's keys, and of its values
keys_as : (k v : Shape) (o : List ℕ) (p q : ColumnReader) (ones others : List ColumnReader) → AllGiveAs (map_of k v o) (p ∷ ones) (q ∷ others) → AllGiveAs k (take (width k) ones) (take (width k) others)
keys_as k v o p q ones others h =
    let front = length-take-le (width k) ones (omega (arith, h.first)) in
    record {
      first = front;
      second = length-take-le (width k) others (omega (arith, h.second));
      column = λ c a b f g.
          let own = h.column (suc c) a b (get_take (width k) ones c a f) (get_take (width k) others c b g) in
          let w = slice_get_within (take (width k) ones) c a f in
          let t : ltb c (width k) ≡ true = lt-ltb c (width k) (omega (arith, w, front)) in
          rw t at own;
    }

seconds_as : (k v : Shape) (o : List ℕ) (p q : ColumnReader) (ones others : List ColumnReader) → AllGiveAs (map_of k v o) (p ∷ ones) (q ∷ others) → AllGiveAs v (drop (width k) ones) (drop (width k) others)
seconds_as k v o p q ones others h = record {
  first = omega (arith, h.first, length-drop (width k) ones);
  second = omega (arith, h.second, length-drop (width k) others);
  column = λ c a b f g.
      let own = h.column (suc (width k + c)) a b (sym (get_drop (width k) ones c) ∙ f) (sym (get_drop (width k) others c) ∙ g) in
      let t : ltb (width k + c) (width k) ≡ false = le-ltb (width k + c) (width k) (omega arith) in
      let d : width k + c - width k ≡ c = omega arith in
      rw (t, d) at own;
}

-- the columns of a struct's first field, and of the others
head_as : (name : List ℕ) (s : Shape) (fs : Fields) (ones others : List ColumnReader) → FieldsGiveAs (field name s fs) ones others → AllGiveAs s (take (width s) ones) (take (width s) others)
head_as name s fs ones others h =
    let front = length-take-le (width s) ones (omega (arith, h.first)) in
    record {
      first = front;
      second = length-take-le (width s) others (omega (arith, h.second));
      column = λ c a b f g.
          let own = h.column c a b (get_take (width s) ones c a f) (get_take (width s) others c b g) in
          let w = slice_get_within (take (width s) ones) c a f in
          let t : ltb c (width s) ≡ true = lt-ltb c (width s) (omega (arith, w, front)) in
          rw t at own;
    }

others_as : (name : List ℕ) (s : Shape) (fs : Fields) (ones others : List ColumnReader) → FieldsGiveAs (field name s fs) ones others → FieldsGiveAs fs (drop (width s) ones) (drop (width s) others)
others_as name s fs ones others h = record {
  first = omega (arith, h.first, length-drop (width s) ones);
  second = omega (arith, h.second, length-drop (width s) others);
  column = λ c a b f g.
      let own = h.column (width s + c) a b (sym (get_drop (width s) ones c) ∙ f) (sym (get_drop (width s) others c) ∙ g) in
      let t : ltb (width s + c) (width s) ≡ false = le-ltb (width s + c) (width s) (omega arith) in
      let d : width s + c - width s ≡ c = omega arith in
      rw (t, d) at own;
}

mutual
  all_as : (s : Shape) (ones others : List ColumnReader) (cs : List Cell) → AllGiveAs s ones others → CellsLeft s ones cs → CellsLeft s others cs
  all_as s [] others cs h left = absurd left
  all_as s (p ∷ ones) [] cs h left = let w = width_pos s in omega (arith, w, h.second)
  all_as (scalar k o) (p ∷ ones) (q ∷ others) cs h left = let own = h.column 0 p q refl refl in (own.marks (map is_value cs) left.0, own.source (values cs) left.1)
  all_as (list_of s o) (p ∷ ones) (q ∷ others) cs h left =
      let own = h.column 0 p q refl refl in
      let below : AllGiveAs s ones others = record { first = omega (arith, h.first); second = omega (arith, h.second); column = λ c a b f g. h.column (suc c) a b f g } in
      let l = left.1 in
      (own.marks (map is_value cs) left.0, (l.0, l.1, (own.source.0 (map size l.0) l.2.0, (subst (λ (n : ℕ). length (concatenated l.0) ≤ n) own.source.1 l.2.1.0, all_as s ones others (concatenated l.0) below l.2.1.1))))
  all_as (map_of k v o) (p ∷ ones) (q ∷ others) cs h left =
      let own = h.column 0 p q refl refl in
      let l = left.1 in
      let ps = concatenated l.0 in
      let first = all_as k (take (width k) ones) (take (width k) others) (map (λ (t : Cell × Cell). t.0) ps) (keys_as k v o p q ones others h) l.2.1.1.0 in
      let second = all_as v (drop (width k) ones) (drop (width k) others) (map (λ (t : Cell × Cell). t.1) ps) (seconds_as k v o p q ones others h) l.2.1.1.1 in
      (own.marks (map is_value cs) left.0, (l.0, l.1, (own.source.0 (map size l.0) l.2.0, (subst (λ (n : ℕ). length ps ≤ n) own.source.1 l.2.1.0, (first, second)))))
  all_as (struct_of fs o) (p ∷ ones) (q ∷ others) cs h left =
      let own = h.column 0 p q refl refl in
      let below : FieldsGiveAs fs ones others = record { first = omega (arith, h.first); second = omega (arith, h.second); column = λ c a b f g. h.column (suc c) a b f g } in
      let l = left.1 in
      (own.marks (map is_value cs) left.0, (l.0, l.1, fields_as fs ones others l.0 below l.2))

  fields_as : (fs : Fields) (ones others : List ColumnReader) (structs : List (List Cell)) → FieldsGiveAs fs ones others → FieldsLeft fs ones structs → FieldsLeft fs others structs
  fields_as no_field ones others structs h left = left
  fields_as (field name s fs) ones others structs h left = record {
    heads = left.heads;
    tails = left.tails;
    alike = left.alike;
    parts = left.parts;
    first_spelled = all_as s (take (width s) ones) (take (width s) others) left.heads (head_as name s fs ones others h) left.first_spelled;
    others_spelled = fields_as fs (drop (width s) ones) (drop (width s) others) left.tails (others_as name s fs ones others h) left.others_spelled;
  }

entry_there : (entries : List RowIndexEntry) (c : ℕ) → c < length entries → (entry : RowIndexEntry) × (slice_get entries c ≡ Some entry)
entry_there [] c lt = absurd (omega (arith, lt))
entry_there (e ∷ entries) zero lt = (e, refl)
entry_there (e ∷ entries) (suc c) lt = entry_there entries c (omega (arith, lt))

-- readers at the same positions
pub same_left : (s : Shape) (y : ℕ → Streams) (entries : List RowIndexEntry) (ones others : List ColumnReader) (cs : List Cell) → ReadersAt s y entries ones → ReadersAt s y entries others → CellsLeft s ones cs → CellsLeft s others cs
same_left s y entries ones others cs m n left = all_as s ones others cs (record {
  first = m.counted;
  second = n.counted;
  column = λ c a b f g.
      let w = slice_get_within ones c a f in
      let e = entry_there entries c (omega (arith, w, m.counted, m.listed)) in
      reader_as (shape_at s c) (y c) c e.0.positions a b (m.column c e.0 a e.1 f) (n.column c e.0 b e.1 g);
}) left
