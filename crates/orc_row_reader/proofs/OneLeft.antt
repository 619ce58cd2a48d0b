-- Readers have still to give at most one list of so many cells.
use Rattle.std.proofs.Common.{◌≡◌, ℕ, Bool, true, false, Option, Some, None, List, [], ◌∷◌, ◌++◌, map, length, take, drop, refl, sym, ap, ◌∙◌, arith}
use Rattle.std.specs.declared.vec.Vec.{Vec}
use Rattle.std.specs.declared.alloc.Global.{Global}
use Rattle.orc_values.specs.Shapes.{Shape, scalar, list_of, map_of, struct_of, Fields, no_field, field, width}
use Rattle.orc_values.specs.declared.kind.Scalar.{Scalar}
use Rattle.orc_values.specs.declared.kind.Scalar.TheVariants as kind
use Rattle.orc_bits.specs.Packed.{bits, digits}
use Rattle.orc_rle.specs.BitStream.{digit}
use Rattle.orc_rle.specs.ByteRun.{IsByteRun}
use Rattle.orc_rle.specs.Stream.{RunsLeft}
use Rattle.orc_rle.proofs.StreamLemmas.{one_stream}
use Rattle.orc_column_reader.specs.Spellings.{Sized, Within}
use Rattle.orc_column_reader.specs.Numbers.{is_run, NumbersLeft}
use Rattle.orc_column_reader.specs.Bits.{BitsLeft}
use Rattle.orc_column_reader.specs.Bytes.{BytesLeft}
use Rattle.orc_column_reader.specs.Octets.{OctetsLeft}
use Rattle.orc_column_reader.specs.Columns.{MarksLeft, IsBool, IsByte, IsInt, IsDate, IsText, IsBinary, IsEntry, IsList, IsMap, IsRecord, entry_bytes, StringsLeft, TextsLeft, ScalarLeft, ValuesLeft, FieldsLeft, CellsLeft, PairsLeft}
use Rattle.orc_column_reader.specs.declared.bits.Bits.{Bits}
use Rattle.orc_column_reader.specs.declared.bytes.RunLengthBytes.{RunLengthBytes}
use Rattle.orc_column_reader.specs.declared.column.ColumnReader.{ColumnReader}
use Rattle.orc_column_reader.specs.declared.column.ValueSource.{ValueSource}
use Rattle.orc_column_reader.specs.declared.entry.Entry.{Entry}
use Rattle.orc_column_reader.specs.declared.numbers.Numbers.{Numbers}
use Rattle.orc_column_reader.specs.declared.octets.Octets.{Octets}
use Rattle.orc_column_reader.proofs.Fronts.{length-zip}
use Rattle.orc_column_reader.proofs.NumbersLemmas.{laws_of, byte_laws}
use Rattle.orc_column_reader.proofs.RunsLemmas.{RunLaws}
use Rattle.orc_column_reader.proofs.OneRows.{One, one_nullable, one_standings, one_grouped, one_fielded, one_paired, one_within, one_empty}
use Rattle.orc_column_reader.proofs.ReaderLemmas.{one_bool, one_byte, one_int, one_date, one_text, one_binary, one_word, one_list, one_map, one_record}

-- ---- streams

one_runs : {A : Type 0} (R : List ℕ → List A → Type 0) → RunLaws R → (pending : List A) (rest : List ℕ) → One (RunsLeft R pending rest)
one_runs {A = A} R laws pending rest a b p q l =
    let e = one_stream R laws.one laws.some rest p.0 q.0 p.2 q.2 in
    p.1 ∙ (ap (λ (t : List A). pending ++ t) e ∙ sym q.1)

one_numbers : (r : Numbers) → One (NumbersLeft r)
one_numbers r = one_runs (is_run r.version r.sign) (laws_of r.version r.sign) (drop r.used r.run.values) (drop r.at r.bytes.now)

one_bytes : (r : RunLengthBytes) → One (BytesLeft r)
one_bytes r = one_runs IsByteRun byte_laws (drop r.used r.run.values) (drop r.at r.bytes.now)

same_digits : (a b : List Bool) (s t : List ℕ) → length a ≡ length b → map digit a ++ s ≡ map digit b ++ t → a ≡ b
same_digits [] [] s t l e = refl
same_digits [] (y ∷ b) s t l e = absurd (omega (arith, l))
same_digits (x ∷ a) [] s t l e = absurd (omega (arith, l))
same_digits (true ∷ a) (true ∷ b) s t l e = ap (λ (z : List Bool). true ∷ z) (same_digits a b s t (omega (arith, l)) (ap (drop 1) e))
same_digits (false ∷ a) (false ∷ b) s t l e = ap (λ (z : List Bool). false ∷ z) (same_digits a b s t (omega (arith, l)) (ap (drop 1) e))
same_digits (true ∷ a) (false ∷ b) s t l e = absurd (cc)
same_digits (false ∷ a) (true ∷ b) s t l e = absurd (cc)

one_bits : (r : Bits) → One (BitsLeft r)
one_bits r a b p q l =
    let runs = r.bytes in
    let packed : p.packed ≡ q.packed = (let e = one_stream IsByteRun byte_laws.one byte_laws.some (drop runs.at runs.bytes.now) p.spelled.0 q.spelled.0 p.spelled.2 q.spelled.2 in
    p.spelled.1 ∙ (ap (λ (t : List ℕ). drop runs.used runs.run.values ++ t) e ∙ sym q.spelled.1)) in
    same_digits a b p.spare q.spare l (sym p.digits_are ∙ (ap (λ (t : List ℕ). bits r.held r.left ++ digits 8 t) packed ∙ q.digits_are))

one_marks : (present : Option Bits) → One (MarksLeft present)
one_marks None a b p q l = p ∙ (rw l refl ∙ sym q)
one_marks (Some r) a b p q l = one_bits r a b p q l

one_octets : (r : Octets) → One (OctetsLeft r)
one_octets r a b p q l = p ∙ sym q

-- ---- values

one_strings : (source : ValueSource) → One (StringsLeft source)
one_strings source = one_grouped (NumbersLeft source.numbers) (OctetsLeft source.octets) (one_numbers source.numbers) (one_octets source.octets)

one_texts : (entries : Option (Vec Entry Global)) (source : ValueSource) → One (TextsLeft entries source)
one_texts None source = one_standings IsText (StringsLeft source) one_text (one_strings source)
one_texts (Some entries) source =
    let words = map entry_bytes entries.items in
    one_standings (IsEntry words) (NumbersLeft source.numbers) (one_word words) (one_numbers source.numbers)

one_scalar : (k : Scalar) (source : ValueSource) → One (ScalarLeft k source)
one_scalar kind.Boolean source = one_standings IsBool (BitsLeft source.bits) one_bool (one_bits source.bits)
one_scalar kind.Byte source = one_standings IsByte (BytesLeft source.bytes) one_byte (one_bytes source.bytes)
one_scalar kind.Short source = one_standings (IsInt kind.Short) (NumbersLeft source.numbers) (one_int kind.Short) (one_numbers source.numbers)
one_scalar kind.Int source = one_standings (IsInt kind.Int) (NumbersLeft source.numbers) (one_int kind.Int) (one_numbers source.numbers)
one_scalar kind.Long source = one_standings (IsInt kind.Long) (NumbersLeft source.numbers) (one_int kind.Long) (one_numbers source.numbers)
one_scalar kind.Date source = one_standings IsDate (NumbersLeft source.numbers) one_date (one_numbers source.numbers)
one_scalar kind.Binary source = one_standings IsBinary (StringsLeft source) one_binary (one_strings source)
one_scalar kind.String source = one_texts source.entries source

-- a column's cells, where its values are one list
one_column : (s : Shape) (readers : List ColumnReader) → ((source : ValueSource) (below : List ColumnReader) → One (ValuesLeft s source below)) → One (CellsLeft s readers)
one_column s [] one = λ a b p q l. absurd p
one_column s (own ∷ below) one = one_nullable (MarksLeft own.present) (ValuesLeft s own.source below) (one_marks own.present) (one own.source below)

mutual
  one_values : (s : Shape) (source : ValueSource) (below : List ColumnReader) → One (ValuesLeft s source below)
  one_values (scalar k o) source below = one_scalar k source
  one_values (list_of s o) source below =
      let elements = Within source.room (CellsLeft s below) in
      one_standings IsList (Sized (NumbersLeft source.numbers) elements) one_list
      (one_grouped (NumbersLeft source.numbers) elements (one_numbers source.numbers) (one_within source.room (CellsLeft s below) (one_column s below (λ own rest. one_values s own rest))))
  one_values (map_of k v o) source below =
      let keys = CellsLeft k (take (width k) below) in
      let seconds = CellsLeft v (drop (width k) below) in
      let pairs = Within source.room (PairsLeft k v below) in
      one_standings IsMap (Sized (NumbersLeft source.numbers) pairs) one_map
      (one_grouped (NumbersLeft source.numbers) pairs (one_numbers source.numbers) (one_within source.room (PairsLeft k v below)
      (one_paired keys seconds (one_column k (take (width k) below) (λ own rest. one_values k own rest)) (one_column v (drop (width k) below) (λ own rest. one_values v own rest)))))
  one_values (struct_of fs o) source below = one_standings IsRecord (FieldsLeft fs below) one_record (one_fields fs below)

  one_fields : (fs : Fields) (readers : List ColumnReader) → One (FieldsLeft fs readers)
  one_fields no_field readers = one_empty
  one_fields (field name s fs) readers =
      one_fielded (CellsLeft s (take (width s) readers)) (FieldsLeft fs (drop (width s) readers)) (one_column s (take (width s) readers) (λ own rest. one_values s own rest)) (one_fields fs (drop (width s) readers)) length-zip

pub one_left : (s : Shape) (readers : List ColumnReader) → One (CellsLeft s readers)
one_left s readers = one_column s readers (λ own rest. one_values s own rest)
