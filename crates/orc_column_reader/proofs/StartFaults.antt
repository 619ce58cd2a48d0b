-- What a reader meets at the start of its streams is a fault of its streams.
use Rattle.std.proofs.Common.{◌≡◌, ℕ, ℤ, pos, Bool, true, false, Option, Some, None, List, [], ◌∷◌, ◌-◌, ◌<◌, map, length, drop, sum, refl, sym, ap, ◌∙◌, subst, inl, inr, arith, zero, suc, get_or}
use Rattle.orc_values.specs.Fits.{int_fits, signed_fits}
use Rattle.orc_values.specs.Shapes.{Shape, scalar, list_of, map_of, struct_of}
use Rattle.orc_values.specs.declared.kind.Scalar.{Scalar}
use Rattle.orc_values.specs.declared.kind.Scalar.TheVariants as kind
use Rattle.std.specs.declared.vec.Vec.{Vec}
use Rattle.std.specs.declared.alloc.Global.{Global}
use Rattle.orc_rle.specs.declared.sign.Sign.{Sign}
use Rattle.orc_rle.specs.declared.sign.Sign.TheVariants.{Unsigned}
use Rattle.orc_column_reader.specs.declared.bits.Bits.{Bits}
use Rattle.orc_column_reader.specs.declared.entry.Entry.{Entry}
use Rattle.orc_column_reader.specs.declared.column.ValueSource.{ValueSource}
use Rattle.orc_directory.specs.declared.fault.StreamKind.{StreamKind}
use Rattle.orc_directory.specs.declared.fault.StreamKind.TheVariants as stream
use Rattle.orc_directory.specs.declared.fault.StripeFault.{StripeFault}
use Rattle.orc_directory.specs.declared.fault.StripeFault.TheVariants as fault
use Rattle.orc_column_reader.specs.declared.numbers.Numbers.{Numbers}
use Rattle.orc_column_reader.specs.declared.octets.Octets.{Octets}
use Rattle.orc_rle.specs.declared.sign.Rle.{Rle}
use Rattle.orc_bits.specs.Packed.{digits, packed_len}
use Rattle.orc_rle.specs.Stream.{StopsWithin}
use Rattle.orc_column_reader.specs.Bytes.{BytesFirst}
use Rattle.orc_column_reader.specs.Columns.{entry_bytes, MarksFirst}
use Rattle.orc_column_reader.specs.Faults.{RunsFail, MarksFail, NumbersFail, IntsFail, StringsFail, IndexesFail, TextsFail, ScalarFails, ListsFail, ValuesFail, data_of, indexes_of, lengths_of}
use Rattle.orc_column_reader.specs.Numbers.{is_run, NumbersFirst}
use Rattle.orc_column_reader.specs.ReaderFaults.{Pass, IntsMeet, StringsMeet, TextMeets, IndexesMeet, TextsMeet, ScalarMeets, ListsMeet, ValuesMeet}
use Rattle.orc_column_reader.specs.Needs.{MarksBegin}
use Rattle.orc_column_reader.specs.RunFaults.{Always, Integers, IntegersFirst, IntegersFail, BoolsFail, no_run}
use Rattle.orc_column_reader.specs.Runs.{RunsFirst, RunsBegin}
use Rattle.orc_column_reader.specs.Spellings.{size}
use Rattle.orc_column_reader.specs.Starting.{NumbersStart, BytesStart, BitsStart, MarksStart, TextsStart, ScalarStart, SourceStart}
use Rattle.orc_column_reader.specs.Stripe.{Streams, version, has_dictionary, IsDictionary, encoding_at}
use Rattle.orc_values.specs.Limits.{most_cells}
use Rattle.orc_column_reader.specs.ValueFaults.{NotAll, is_index, names_text}
use Rattle.orc_column_reader.proofs.FirstLemmas.{first_begins, begin_lengths}
use Rattle.orc_rle.specs.ByteRun.{IsByteRun, NoByteRun}
use Rattle.orc_rle.specs.declared.fault.RunFault.{RunFault}
use Rattle.orc_column_reader.specs.declared.bytes.RunLengthBytes.{RunLengthBytes}
use Rattle.orc_column_reader.specs.RunsMet.{RunsMeet, NumbersMeet, BytesMeet, BitsMeet, MarksMeet}
use Rattle.orc_column_reader.proofs.BitsLemmas.{no_digit}
use Rattle.orc_column_reader.proofs.NeedLemmas.{runs_all}
use Rattle.orc_column_reader.proofs.RunsMetLemmas.{met_start}
use Rattle.orc_column_reader.proofs.StartLemmas.{numbers_alike}
use Rattle.orc_wire.specs.declared.encoding.Encoding.{Encoding}

abbrev pub integers_from : Rle → Sign → List ℕ → Integers
integers_from version sign bytes = record { version = version; sign = sign; bytes = bytes }

-- ---- runs

numbers_met : (v : Rle) (sign : Sign) (bytes : List ℕ) (r : Numbers) (n : ℕ) (f : RunFault) → NumbersStart v sign bytes r → NumbersMeet r n f → StopsWithin (is_run v sign) (no_run v sign) n bytes f
numbers_met v sign bytes r n f s h =
    let pending : List ℤ = drop r.used r.run.values in
    let rest : List ℕ = drop r.at r.bytes.now in
    let d : pending ≡ [] = ap (λ k. drop k r.run.values) s.unused ∙ s.no_run in
    let b : rest ≡ bytes = ap (λ k. drop k r.bytes.now) s.at_start ∙ s.bytes_are in
    let k = subst (λ w. RunsMeet (is_run w r.sign) (no_run w r.sign) pending rest r.start r.at (length r.bytes.now) n f) s.version_is h in
    let l = subst (λ g. RunsMeet (is_run v g) (no_run v g) pending rest r.start r.at (length r.bytes.now) n f) s.sign_is k in
    let m = subst (λ t. RunsMeet (is_run v sign) (no_run v sign) pending t r.start r.at (length r.bytes.now) n f) b l in
    met_start (is_run v sign) (no_run v sign) pending bytes r.start r.at (length r.bytes.now) n f d s.at_start (ap length s.bytes_are) m

bytes_met : (bytes : List ℕ) (r : RunLengthBytes) (n : ℕ) (f : RunFault) → BytesStart bytes r → BytesMeet r n f → StopsWithin IsByteRun NoByteRun n bytes f
bytes_met bytes r n f s h =
    let pending : List ℕ = drop r.used r.run.values in
    let d : pending ≡ [] = ap (λ k. drop k r.run.values) s.unused ∙ s.no_run in
    let b : drop r.at r.bytes.now ≡ bytes = ap (λ k. drop k r.bytes.now) s.at_start ∙ s.bytes_are in
    let m = subst (λ t. RunsMeet IsByteRun NoByteRun pending t r.start r.at (length r.bytes.now) n f) b h in
    met_start IsByteRun NoByteRun pending bytes r.start r.at (length r.bytes.now) n f d s.at_start (ap length s.bytes_are) m

bits_met : (bytes : List ℕ) (r : Bits) (n : ℕ) (f : RunFault) → BitsStart bytes r → BitsMeet r n f → StopsWithin IsByteRun NoByteRun (packed_len 1 n) bytes f
bits_met bytes r n f s (inl h) =
    let e : packed_len 1 (n - r.left) ≡ packed_len 1 n = omega (arith, s.none_left) in
    bytes_met bytes r.bytes (packed_len 1 n) f s.runs (subst (λ k. BytesMeet r.bytes k f) e h)
bits_met bytes r n f s (inr h) = absurd (omega (arith, h.0, s.none_left))

runs_start : (kind : StreamKind) (c m : ℕ) (all : Bool) (n : ℕ) (met stops : ℕ → RunFault → Type 0) (f : StripeFault) → c ≡ m → ((k : ℕ) (g : RunFault) → met k g → stops k g) → RunsFail kind c (Always all n met) f → RunsFail kind m (Always all n stops) f
runs_start kind c m all n met stops f e p h = subst (λ k. RunsFail kind k (Always all n stops) f) e (h.0, h.1, h.2, λ k need. p k h.0 (h.3 k need))

numbers_fail : (kind : StreamKind) (from : Integers) (r : Numbers) (c m : ℕ) (all : Bool) (n : ℕ) (f : StripeFault) → NumbersStart from.version from.sign from.bytes r → c ≡ m → RunsFail kind c (Always all n (NumbersMeet r)) f → NumbersFail kind from all n m f
numbers_fail kind from r c m all n f s e h =
    runs_start kind c m all n (NumbersMeet r) (λ k. StopsWithin (is_run from.version from.sign) (no_run from.version from.sign) k from.bytes) f e (λ k g l. numbers_met from.version from.sign from.bytes r k g s l) h

bools_fail : (kind : StreamKind) (bytes : List ℕ) (r : Bits) (c m : ℕ) (all : Bool) (n : ℕ) (f : StripeFault) → BitsStart bytes r → c ≡ m → RunsFail kind c (Always all n (BitsMeet r)) f → RunsFail kind m (BoolsFail all n bytes) f
bools_fail kind bytes r c m all n f s e h = runs_start kind c m all n (BitsMeet r) (λ k. StopsWithin IsByteRun NoByteRun (packed_len 1 k) bytes) f e (λ k g l. bits_met bytes r k g s l) h

pub marks_start : (bytes : List ℕ) (present : Option Bits) (c m : ℕ) (all : Bool) (n : ℕ) (f : StripeFault) → MarksStart bytes present → c ≡ m → RunsFail stream.Present c (Always all n (MarksMeet present)) f → MarksFail bytes all n m f
marks_start [] None c m all n f s e h = no_mark all n h.0 h.3
  where
    no_mark : (all : Bool) (n : ℕ) (g : RunFault) → Always all n (λ k h. ⊥) g → ⊥
    no_mark true n g h = h n refl
    no_mark false n g h = h n (omega arith)
marks_start [] (Some bits) c m all n f s e h = absurd s
marks_start (b ∷ bs) None c m all n f s e h = absurd s
marks_start (b ∷ bs) (Some bits) c m all n f s e h = bools_fail stream.Present (b ∷ bs) bits c m all n f s e h

-- ---- marks that come first

bytes_begin : (bytes : List ℕ) (r : RunLengthBytes) (all : List ℕ) → BytesStart bytes r → BytesFirst r all → RunsBegin IsByteRun bytes all
bytes_begin bytes r all s h =
    let pending : List ℕ = drop r.used r.run.values in
    let d : pending ≡ [] = ap (λ n. drop n r.run.values) s.unused ∙ s.no_run in
    let b : drop r.at r.bytes.now ≡ bytes = ap (λ n. drop n r.bytes.now) s.at_start ∙ s.bytes_are in
    first_begins IsByteRun pending bytes all d (subst (λ t. RunsFirst IsByteRun pending t all) b h)

pub marks_begin : (bytes : List ℕ) (present : Option Bits) (marks : List Bool) → MarksStart bytes present → MarksFirst present marks → MarksBegin bytes marks
marks_begin [] None marks s h = h
marks_begin [] (Some bits) marks s h = absurd s
marks_begin (b ∷ bs) None marks s h = absurd s
marks_begin (b ∷ bs) (Some r) marks s h = record {
  packed = h.packed;
  runs = bytes_begin (b ∷ bs) r.bytes h.packed s.runs h.bytes;
  more = h.more;
  digits_are = sym (no_digit r.held r.left (digits 8 h.packed) s.none_left) ∙ h.digits_are;
}

-- ---- values

-- a reader at the start of a stream gives first what comes first in it
pub first_start : (v : Rle) (sign : Sign) (bytes : List ℕ) (r : Numbers) (all : List ℤ) → NumbersStart v sign bytes r → NumbersFirst r all → IntegersFirst (integers_from v sign bytes) all
first_start v sign bytes r all s h =
    let pending : List ℤ = drop r.used r.run.values in
    let rest : List ℕ = drop r.at r.bytes.now in
    let d : pending ≡ [] = ap (λ n. drop n r.run.values) s.unused ∙ s.no_run in
    let b : rest ≡ bytes = ap (λ n. drop n r.bytes.now) s.at_start ∙ s.bytes_are in
    let k = subst (λ w. RunsFirst (is_run w r.sign) pending rest all) s.version_is h in
    let l = subst (λ g. RunsFirst (is_run v g) pending rest all) s.sign_is k in
    first_begins (is_run v sign) pending bytes all d (subst (λ t. RunsFirst (is_run v sign) pending t all) b l)

not_all_start : (passes : ℤ → Bool) (from : Integers) (r : Numbers) → NumbersStart from.version from.sign from.bytes r → NotAll passes (NumbersFirst r) → NotAll passes (IntegersFirst from)
not_all_start passes from r s h = (h.0, first_start from.version from.sign from.bytes r h.0 s h.1, h.2)

ints_start : (fits : ℤ → Bool) (from : Integers) (r : Numbers) (c m : ℕ) (all : Bool) (n : ℕ) (f : StripeFault) → NumbersStart from.version from.sign from.bytes r → c ≡ m → IntsMeet fits r all n c f
    → IntsFail fits (IntegersFail from all n) (IntegersFirst from) m f
ints_start fits from r c m all n f s e (inl h) = inl (numbers_fail stream.Data from r c m all n f s e h)
ints_start fits from r c m all n f s e (inr h) = inr (h.0 ∙ ap (λ k. fault.OutOfRange k) e, not_all_start fits from r s h.1)

pass_start : (v : Rle) (bytes : List ℕ) (r : Numbers) (most most' : ℕ) → NumbersStart v Unsigned bytes r → most ≡ most' → Pass (NumbersFirst r) most → Pass (IntegersFirst (integers_from v Unsigned bytes)) most'
pass_start v bytes r most most' s e h = subst (λ m. Pass (IntegersFirst (integers_from v Unsigned bytes)) m) e (h.0, first_start v Unsigned bytes r h.0 s h.1, h.2)

pub groups_start : (kind : StreamKind) (v : Rle) (lengths bytes : List ℕ) (r : Numbers) (o : Octets) (c m : ℕ) (all : Bool) (n : ℕ) (f : StripeFault) → NumbersStart v Unsigned lengths r → o.rest.now ≡ bytes → c ≡ m
    → StringsMeet kind r o all n c f → StringsFail kind (record { version = v; sign = Unsigned; bytes = lengths }) all n bytes m f
groups_start kind v lengths bytes r o c m all n f s b e (inl h) = inl (numbers_fail stream.Length (integers_from v Unsigned lengths) r c m all n f s e h)
groups_start kind v lengths bytes r o c m all n f s b e (inr (is, inl p)) =
    inr (is ∙ ap (λ k. fault.LengthSum k kind) e, inl (begin_lengths v lengths (length bytes) (pass_start v lengths r (length o.rest.now) (length bytes) s (ap length b) p)))
groups_start kind v lengths bytes r o c m all n f s b e (inr (is, inr p)) =
    let a = numbers_alike v Unsigned lengths r s in
    inr (is ∙ ap (λ k. fault.LengthSum k kind) e, inr (p.0, a.to (map pos p.0) p.1, subst (λ t. sum p.0 < length t) b p.2))

-- so many groups are all of them
pub groups_all : (kind : StreamKind) (lengths : Integers) (n : ℕ) (bytes : List ℕ) (c : ℕ) (f : StripeFault) → StringsFail kind lengths false n bytes c f → StringsFail kind lengths true n bytes c f
groups_all kind l n bytes c f (inl h) = inl (runs_all stream.Length c n (λ k. StopsWithin (is_run l.version l.sign) (no_run l.version l.sign) k l.bytes) f h)
groups_all kind l n bytes c f (inr h) = inr h

words_start : (x : Streams) (entries : List (List ℕ)) (r : Numbers) (c m : ℕ) (all : Bool) (n : ℕ) (f : StripeFault) → IsDictionary x entries → NumbersStart (version x) Unsigned (x.stream 1) r → c ≡ m
    → IndexesMeet entries r all n c f → IndexesFail x all n m f
words_start x entries r c m all n f d s e (inl h) = inl (numbers_fail stream.Data (indexes_of x) r c m all n f s e h)
words_start x entries r c m all n f d s e (inr (inl h)) =
    inr (inl (h.0 ∙ ap (λ k. fault.BadIndex k) e, subst (λ k. NotAll (is_index k) (IntegersFirst (indexes_of x))) d.counted (not_all_start (is_index (length entries)) (indexes_of x) r s h.1)))
words_start x entries r c m all n f d s e (inr (inr h)) =
    inr (inr (h.0 ∙ ap (λ k. fault.NotUtf8 k stream.DictionaryData) e, (entries, d, not_all_start (names_text entries) (indexes_of x) r s h.1)))

text_start : (x : Streams) (r : ValueSource) (m : ℕ) (all : Bool) (n : ℕ) (f : StripeFault) → NumbersStart (version x) Unsigned (x.stream 2) r.numbers → r.octets.rest.now ≡ x.stream 1 → r.column ≡ m
    → TextMeets r.numbers r.octets all n r.column f → TextsFail false x all n m f
text_start x r m all n f s b e (inl h) = inl (groups_start stream.Data (version x) (x.stream 2) (x.stream 1) r.numbers r.octets r.column m all n f s b e h)
text_start x r m all n f s b e (inr (is, h)) =
    inr (is ∙ ap (λ k. fault.NotUtf8 k stream.Data) e, (h.0, h.1, first_start (version x) Unsigned (x.stream 2) r.numbers (map size h.0) s h.2, sym b ∙ h.3, h.4))

texts_start : (x : Streams) (dictionary : Bool) (entries : Option (Vec Entry Global)) (r : ValueSource) (m : ℕ) (all : Bool) (n : ℕ) (f : StripeFault) → TextsStart dictionary x entries r → r.column ≡ m
    → TextsMeet entries r all n f → TextsFail dictionary x all n m f
texts_start x true None r m all n f s e h = absurd s
texts_start x true (Some entries) r m all n f s e h = words_start x (map entry_bytes entries.items) r.numbers r.column m all n f s.0 s.1 e h
texts_start x false None r m all n f s e h = text_start x r m all n f s.0 s.1 e h
texts_start x false (Some entries) r m all n f s e h = absurd s

scalar_start : (k : Scalar) (x : Streams) (r : ValueSource) (m : ℕ) (all : Bool) (n : ℕ) (f : StripeFault) → ScalarStart k x r → r.column ≡ m → ScalarMeets k r all n f → ScalarFails k x all n m f
scalar_start kind.Boolean x r m all n f s e h = bools_fail stream.Data (x.stream 1) r.bits r.column m all n f s e h
scalar_start kind.Byte x r m all n f s e h =
    runs_start stream.Data r.column m all n (BytesMeet r.bytes) (λ k. StopsWithin IsByteRun NoByteRun k (x.stream 1)) f e (λ k g l. bytes_met (x.stream 1) r.bytes k g s l) h
scalar_start kind.Short x r m all n f s e h = ints_start (int_fits kind.Short) (data_of x) r.numbers r.column m all n f s e h
scalar_start kind.Int x r m all n f s e h = ints_start (int_fits kind.Int) (data_of x) r.numbers r.column m all n f s e h
scalar_start kind.Long x r m all n f s e h = numbers_fail stream.Data (data_of x) r.numbers r.column m all n f s e h
scalar_start kind.Date x r m all n f s e h = ints_start (signed_fits 31) (data_of x) r.numbers r.column m all n f s e h
scalar_start kind.Binary x r m all n f s e h = groups_start stream.Data (version x) (x.stream 2) (x.stream 1) r.numbers r.octets r.column m all n f s.0 s.1 e h
scalar_start kind.String x r m all n f s e h = texts_start x (has_dictionary x) r.entries r m all n f s e h

lists_start : (x : Streams) (r : ValueSource) (m : ℕ) (all : Bool) (n : ℕ) (f : StripeFault) → NumbersStart (version x) Unsigned (x.stream 2) r.numbers → r.room ≡ most_cells → r.column ≡ m → ListsMeet r all n f → ListsFail x all n m f
lists_start x r m all n f s room e (inl h) = inl (numbers_fail stream.Length (lengths_of x) r.numbers r.column m all n f s e h)
lists_start x r m all n f s room e (inr h) =
    inr (h.0 ∙ ap (λ k. fault.TooMany k) e, begin_lengths (version x) (x.stream 2) most_cells (pass_start (version x) (x.stream 2) r.numbers r.room most_cells s room h.1))

pub values_start : (s : Shape) (x : Streams) (r : ValueSource) (m : ℕ) (all : Bool) (n : ℕ) (f : StripeFault) → SourceStart s x r → r.column ≡ m → ValuesMeet s r all n f → ValuesFail s x all n m f
values_start (scalar k o) x r m all n f s e h = scalar_start k x r m all n f s e h
values_start (list_of t o) x r m all n f s e h = lists_start x r m all n f s.0 s.1 e h
values_start (map_of k v o) x r m all n f s e h = lists_start x r m all n f s.0 s.1 e h
values_start (struct_of fs o) x r m all n f s e h = h

pub encoding_there : (es : List Encoding) (c : ℕ) (d : Encoding) → c < length es → encoding_at es c ≡ get_or es c d
encoding_there [] c d h = absurd (omega (arith, h))
encoding_there (e ∷ es) zero d h = refl
encoding_there (e ∷ es) (suc c) d h = encoding_there es c d (omega (arith, h))
