-- The values of a column, kind by kind, from its positions on.
use Rattle.std.proofs.Common.{◌≡◌, ℕ, zero, suc, ◌≤◌, ℤ, Bool, true, false, Option, Some, None, List, [], ◌∷◌, ◌++◌, length, map, take, drop, refl, sym, ap, ◌∙◌, subst, arith, append_assoc, length-append}
use Rattle.std.specs.List.{AllZip}
use Rattle.std.proofs.lemmas.List.{drop-map}
use Rattle.std.proofs.lemmas.List.Sums.{sum_by-cons}
use Rattle.std.specs.declared.vec.Vec.{Vec}
use Rattle.std.specs.declared.alloc.Global.{Global}
use Rattle.orc_rle.specs.BitStream.{IsBitStream}
use Rattle.orc_rle.specs.ByteRun.{IsByteRun}
use Rattle.orc_rle.specs.Stream.{IsStream}
use Rattle.orc_rle.specs.declared.sign.Sign.TheVariants.{Signed, Unsigned}
use Rattle.orc_values.specs.Cells.{Cell, parts, pairs_in}
use Rattle.orc_values.specs.Shapes.{Shape, scalar, list_of, map_of, struct_of}
use Rattle.orc_values.specs.declared.kind.Scalar.{Scalar}
use Rattle.orc_values.specs.declared.kind.Scalar.TheVariants as kind
use Rattle.orc_column_reader.specs.Bits.{BitsLeft}
use Rattle.orc_column_reader.specs.Bytes.{BytesLeft}
use Rattle.orc_column_reader.specs.Columns.{IsBool, IsByte, IsInt, IsDate, IsText, IsBinary, IsEntry, entry_bytes, StringsLeft, TextsLeft, ScalarLeft}
use Rattle.orc_column_reader.specs.Numbers.{NumbersLeft, AreNumbers}
use Rattle.orc_column_reader.specs.Spellings.{Standing, Sized, concatenated, size}
use Rattle.orc_column_reader.specs.Stripe.{Streams, version, has_dictionary, Is, SpellsTexts, SpellsScalar, SpellsValues}
use Rattle.orc_values.specs.Limits.{most_cells}
use Rattle.orc_column_reader.specs.declared.entry.Entry.{Entry}
use Rattle.orc_column_reader.specs.declared.column.ValueSource.{ValueSource}
use Rattle.orc_column_reader.specs.declared.bits.Bits.{Bits}
use Rattle.orc_column_reader.specs.declared.bytes.RunLengthBytes.{RunLengthBytes}
use Rattle.orc_column_reader.specs.declared.numbers.Numbers.{Numbers}
use Rattle.orc_column_reader.proofs.OneRows.{one_dictionary}
use Rattle.orc_row_groups.specs.Counts.{octets_in, octets}
use Rattle.orc_row_index.specs.RunStreams.{bit_runs, byte_runs, number_runs, scalar_runs, value_runs, text_runs, scalar_octets, value_bytes, text_octets}
use Rattle.orc_row_index.proofs.ColumnPlaces.{stand_long, text_long, binary_long}
use Rattle.orc_group_reader.specs.Columns.{IsSource, IsWithoutFront, HasDictionaryEntries, ScalarEntries, EntriesOf, EnteredValuesLeft}
use Rattle.orc_group_reader.specs.Streams.{LeftFrom}
use Rattle.orc_group_reader.specs.declared.entered.Entered.{Entered}
use Rattle.orc_group_reader.specs.declared.entered.Entered.TheVariants as entered

-- ---- what stands for values behind others

stand_drop : {X : Type 0} (stands : X → Cell → Type 0) (xs : List X) (b a : List Cell) → AllZip stands xs (b ++ a) → AllZip stands (drop (length b) xs) a
stand_drop stands xs [] a h = h
stand_drop stands [] (v ∷ b) a h = absurd h
stand_drop stands (x ∷ xs) (v ∷ b) a h = stand_drop stands xs b a h.1

pub drop_mapped : {X Y : Type 0} (f : X → Y) (b a : List X) → drop (length b) (map f (b ++ a)) ≡ map f a
drop_mapped f [] a = refl
drop_mapped f (x ∷ b) a = drop_mapped f b a

few : {X : Type 0} (stands : X → Cell → Type 0) (xs : List X) (b a : List Cell) → AllZip stands xs (b ++ a) → length b ≤ length xs
few stands xs b a h = omega (arith, stand_long stands xs (b ++ a) h, length-append b a)

-- ---- booleans, bytes, numbers

bits_turned : (stream : List ℕ) (b a : List Cell) (own : Entered) (source : ValueSource) (rest : List ℕ) → LeftFrom (bit_runs stream) (length b) own → IsSource own rest source → Standing IsBool (IsBitStream stream) (b ++ a)
    → Standing IsBool (BitsLeft source.bits) a
bits_turned stream b a entered.Nothing source rest left is h = absurd left
bits_turned stream b a (entered.Bits r) source rest left is h =
    (drop (length b) h.0, stand_drop IsBool h.0 b a h.1, subst (λ (y : Bits). BitsLeft y (drop (length b) h.0)) (sym is.0) (left h.0 h.2 (few IsBool h.0 b a h.1)))
bits_turned stream b a (entered.Bytes r) source rest left is h = absurd left
bits_turned stream b a (entered.Numbers r) source rest left is h = absurd left

bytes_turned : (stream : List ℕ) (b a : List Cell) (own : Entered) (source : ValueSource) (rest : List ℕ) → LeftFrom (byte_runs stream) (length b) own → IsSource own rest source → Standing IsByte (IsStream IsByteRun stream) (b ++ a)
    → Standing IsByte (BytesLeft source.bytes) a
bytes_turned stream b a entered.Nothing source rest left is h = absurd left
bytes_turned stream b a (entered.Bits r) source rest left is h = absurd left
bytes_turned stream b a (entered.Bytes r) source rest left is h =
    (drop (length b) h.0, stand_drop IsByte h.0 b a h.1, subst (λ (y : RunLengthBytes). BytesLeft y (drop (length b) h.0)) (sym is.0) (left h.0 h.2))
bytes_turned stream b a (entered.Numbers r) source rest left is h = absurd left

-- the numbers of a stream from one on
numbers_left : (x : Streams) (sign : _) (stream : List ℕ) (n : ℕ) (own : Entered) (source : ValueSource) (rest : List ℕ) (all : List ℤ) → LeftFrom (number_runs (version x) sign stream) n own → IsSource own rest source
    → AreNumbers (version x) sign stream all → NumbersLeft source.numbers (drop n all)
numbers_left x sign stream n entered.Nothing source rest all left is h = absurd left
numbers_left x sign stream n (entered.Bits r) source rest all left is h = absurd left
numbers_left x sign stream n (entered.Bytes r) source rest all left is h = absurd left
numbers_left x sign stream n (entered.Numbers r) source rest all left is h = subst (λ (y : Numbers). NumbersLeft y (drop n all)) (sym is.0) (left all h)

numbers_turned : (stands : ℤ → Cell → Type 0) (x : Streams) (sign : _) (stream : List ℕ) (b a : List Cell) (own : Entered) (source : ValueSource) (rest : List ℕ) → LeftFrom (number_runs (version x) sign stream) (length b) own
    → IsSource own rest source → Standing stands (AreNumbers (version x) sign stream) (b ++ a) → Standing stands (NumbersLeft source.numbers) a
numbers_turned stands x sign stream b a own source rest left is h =
    (drop (length b) h.0, stand_drop stands h.0 b a h.1, numbers_left x sign stream (length b) own source rest h.0 left is h.2)

-- ---- texts and byte strings

-- the groups of the cells in front have as many bytes as the cells
groups_front : (stands : List ℕ → Cell → Type 0) → ((t : List ℕ) (c : Cell) → stands t c → octets_in c ≡ length t) → (groups : List (List ℕ)) (b a : List Cell) → AllZip stands groups (b ++ a)
    → length (concatenated (take (length b) groups)) ≡ octets b
groups_front stands long groups [] a h = refl
groups_front stands long [] (c ∷ b) a h = absurd h
groups_front stands long (g ∷ groups) (c ∷ b) a h =
    omega (arith, length-append g (concatenated (take (length b) groups)), long g c h.0, groups_front stands long groups b a h.1, sum_by-cons octets_in c b)

joined_cut : (n : ℕ) (groups : List (List ℕ)) → concatenated groups ≡ concatenated (take n groups) ++ concatenated (drop n groups)
joined_cut zero groups = refl
joined_cut (suc n) [] = refl
joined_cut (suc n) (g ∷ groups) = ap (λ (t : List ℕ). g ++ t) (joined_cut n groups) ∙ sym (append_assoc g (concatenated (take n groups)) (concatenated (drop n groups)))

drop_exact : (a b : List ℕ) → drop (length a) (a ++ b) ≡ b
drop_exact [] b = refl
drop_exact (x ∷ a) b = drop_exact a b

pub rest_of : (own : Entered) (rest : List ℕ) (source : ValueSource) → IsSource own rest source → source.octets.rest.now ≡ rest
rest_of entered.Nothing rest source h = h
rest_of (entered.Bits r) rest source h = h.1
rest_of (entered.Bytes r) rest source h = h.1
rest_of (entered.Numbers r) rest source h = h.1

groups_turned : (stands : List ℕ → Cell → Type 0) → ((t : List ℕ) (c : Cell) → stands t c → octets_in c ≡ length t) → (x : Streams) (content : List ℕ) (b a : List Cell) (own : Entered) (source : ValueSource) (rest : List ℕ)
    → LeftFrom (number_runs (version x) Unsigned (x.stream 2)) (length b) own → IsSource own rest source → rest ≡ drop (octets b) content
    → Standing stands (Sized (AreNumbers (version x) Unsigned (x.stream 2)) (Is content)) (b ++ a) → Standing stands (StringsLeft source) a
groups_turned stands long x content b a own source rest left is from h =
    let n = length b in
    let sizes = subst (NumbersLeft source.numbers) (drop-map size n h.0) (numbers_left x Unsigned (x.stream 2) n own source rest (map size h.0) left is h.2.0) in
    let front : length (concatenated (take n h.0)) ≡ octets b = groups_front stands long h.0 b a h.1 in
    let back : concatenated (drop n h.0) ≡ source.octets.rest.now =
    sym (drop_exact (concatenated (take n h.0)) (concatenated (drop n h.0))) ∙ ap (drop (length (concatenated (take n h.0)))) (sym (joined_cut n h.0)) ∙ ap (λ (k : ℕ). drop k (concatenated h.0)) front ∙ ap (drop (octets b)) h.2.1
    ∙ sym from ∙ sym (rest_of own rest source is) in
    (drop n h.0, stand_drop stands h.0 b a h.1, (sizes, back))

texts_turned : (d : Bool) (x : Streams) (b a : List Cell) (own : Entered) (source : ValueSource) (rest : List ℕ) (entries : Option (Vec Entry Global)) → LeftFrom (text_runs d x) (length b) own → IsSource own rest source
    → HasDictionaryEntries d x entries → IsWithoutFront (text_octets d x) (octets b) rest → SpellsTexts x d (b ++ a) → TextsLeft entries source a
texts_turned true x b a own source rest (Some entries) left is has from h =
    let same = one_dictionary x h.0 (map entry_bytes entries.items) h.1 has in
    numbers_turned (IsEntry (map entry_bytes entries.items)) x Unsigned (x.stream 1) b a own source rest left is
    (subst (λ (es : List (List ℕ)). Standing (IsEntry es) (AreNumbers (version x) Unsigned (x.stream 1)) (b ++ a)) same h.2)
texts_turned true x b a own source rest None left is has from h = absurd has
texts_turned false x b a own source rest (Some entries) left is has from h = absurd has
texts_turned false x b a own source rest None left is has from h = groups_turned IsText text_long x (x.stream 1) b a own source rest left is from h

-- ---- by the kind of a column

scalar_turned : (k : Scalar) (x : Streams) (b a : List Cell) (own : Entered) (source : ValueSource) (rest : List ℕ) → LeftFrom (scalar_runs k x) (length b) own → IsSource own rest source → ScalarEntries k x source.entries
    → IsWithoutFront (scalar_octets k x) (octets b) rest → SpellsScalar k x (b ++ a) → ScalarLeft k source a
scalar_turned kind.Boolean x b a own source rest left is has from h = bits_turned (x.stream 1) b a own source rest left is h
scalar_turned kind.Byte x b a own source rest left is has from h = bytes_turned (x.stream 1) b a own source rest left is h
scalar_turned kind.Short x b a own source rest left is has from h = numbers_turned (IsInt kind.Short) x Signed (x.stream 1) b a own source rest left is h
scalar_turned kind.Int x b a own source rest left is has from h = numbers_turned (IsInt kind.Int) x Signed (x.stream 1) b a own source rest left is h
scalar_turned kind.Long x b a own source rest left is has from h = numbers_turned (IsInt kind.Long) x Signed (x.stream 1) b a own source rest left is h
scalar_turned kind.Date x b a own source rest left is has from h = numbers_turned IsDate x Signed (x.stream 1) b a own source rest left is h
scalar_turned kind.Binary x b a own source rest left is has from h = groups_turned IsBinary binary_long x (x.stream 1) b a own source rest left is from h
scalar_turned kind.String x b a own source rest left is has from h = texts_turned (has_dictionary x) x b a own source rest source.entries left is has from h

pub values_turned : (s : Shape) (x : Streams) (b a : List Cell) (own : Entered) (source : ValueSource) (rest : List ℕ) → LeftFrom (value_runs s x) (length b) own → IsSource own rest source → EntriesOf s x source.entries
    → IsWithoutFront (value_bytes s x) (octets b) rest → source.room ≡ most_cells → SpellsValues s x (b ++ a) → EnteredValuesLeft s source a
values_turned (scalar k o) x b a own source rest left is has from room h = scalar_turned k x b a own source rest left is has from h
values_turned (list_of s o) x b a own source rest left is has from room h = (
  subst (NumbersLeft source.numbers) (drop_mapped (λ v. size (parts v)) b a) (numbers_left x Unsigned (x.stream 2) (length b) own source rest (map (λ v. size (parts v)) (b ++ a)) left is h),
  room,
)
values_turned (map_of k v o) x b a own source rest left is has from room h = (
  subst (NumbersLeft source.numbers) (drop_mapped (λ m. size (pairs_in m)) b a) (numbers_left x Unsigned (x.stream 2) (length b) own source rest (map (λ m. size (pairs_in m)) (b ++ a)) left is h),
  room,
)
values_turned (struct_of fs o) x b a own source rest left is has from room h = tt
