-- What a column's reader meets and gives that stands at positions, as a reader of the whole column behind some cells.
use Rattle.std.proofs.Common.{◌≡◌, ℕ, ◌+◌, ◌-◌, ◌<◌, ◌≤◌, ℤ, pos, Bool, true, false, Option, Some, None, List, [], ◌∷◌, ◌++◌, length, map, take, drop, sum, replicate, refl, sym, ap, ◌∙◌, subst, arith, inl, inr, append_assoc, length-append}
use Rattle.std.proofs.lemmas.List.{map-append, length-map, take-append-drop}
use Rattle.std.specs.List.{AllByRecursion}
use Rattle.std.specs.declared.vec.Vec.{Vec}
use Rattle.std.specs.declared.alloc.Global.{Global}
use Rattle.orc_rle.specs.ByteRun.{IsByteRun, NoByteRun}
use Rattle.orc_rle.specs.Stream.{StopsWithin}
use Rattle.orc_rle.specs.declared.fault.RunFault.{RunFault}
use Rattle.orc_rle.specs.declared.sign.Rle.{Rle}
use Rattle.orc_rle.specs.declared.sign.Sign.{Sign}
use Rattle.orc_rle.specs.declared.sign.Sign.TheVariants.{Signed, Unsigned}
use Rattle.orc_bits.specs.Packed.{packed_len}
use Rattle.orc_values.specs.Cells.{Cell, parts, pairs_in}
use Rattle.orc_values.specs.Fits.{int_fits, signed_fits}
use Rattle.orc_values.specs.Shapes.{Shape, scalar, list_of, map_of, struct_of}
use Rattle.orc_values.specs.declared.kind.Scalar.{Scalar}
use Rattle.orc_values.specs.declared.kind.Scalar.TheVariants as kind
use Rattle.orc_column_reader.specs.Columns.{entry_bytes, MarksFirst}
use Rattle.orc_column_reader.specs.Faults.{RunsFail, MarksFail, NumbersFail, IntsFail, StringsFail, IndexesFail, TextsFail, ScalarFails, ListsFail, ValuesFail, data_of, indexes_of, lengths_of}
use Rattle.orc_column_reader.specs.Needs.{MarksBegin}
use Rattle.orc_column_reader.specs.Numbers.{is_run, NumbersFirst}
use Rattle.orc_column_reader.specs.ReaderFaults.{Pass, IntsMeet, StringsMeet, TextMeets, IndexesMeet, TextsMeet, ScalarMeets, ListsMeet, ValuesMeet}
use Rattle.orc_column_reader.specs.RunFaults.{Always, IntegersFirst, AreIntegersOf, IntegersFail, BoolsFail, no_run}
use Rattle.orc_column_reader.specs.RunsMet.{NumbersMeet, BytesMeet, BitsMeet, MarksMeet}
use Rattle.orc_column_reader.specs.Spellings.{size, concatenated}
use Rattle.orc_column_reader.specs.Stripe.{Streams, version, has_dictionary, IsDictionary}
use Rattle.orc_values.specs.Limits.{most_cells}
use Rattle.orc_column_reader.specs.ValueFaults.{NotAll, is_index, names_text, PassTogether}
use Rattle.orc_column_reader.specs.declared.bits.Bits.{Bits}
use Rattle.orc_column_reader.specs.declared.entry.Entry.{Entry}
use Rattle.orc_column_reader.specs.declared.column.ValueSource.{ValueSource}
use Rattle.orc_directory.specs.declared.fault.StreamKind.{StreamKind}
use Rattle.orc_directory.specs.declared.fault.StreamKind.TheVariants as stream
use Rattle.orc_directory.specs.declared.fault.StripeFault.{StripeFault}
use Rattle.orc_directory.specs.declared.fault.StripeFault.TheVariants as fault
use Rattle.orc_column_reader.specs.declared.numbers.Numbers.{Numbers}
use Rattle.orc_column_reader.proofs.FirstLemmas.{begin_lengths}
use Rattle.orc_column_reader.proofs.StartFaults.{integers_from}
use Rattle.orc_group_reader.specs.Columns.{HasDictionaryEntries}
use Rattle.orc_group_reader.proofs.ReadersBehind.{NumbersBehind, BytesBehind, BitsBehind}
use Rattle.orc_values.proofs.Lists.{sum_append, pos_same}

-- ---- faults of runs

always_behind : (all : Bool) (k n : ℕ) (met stops : ℕ → RunFault → Type 0) (f : RunFault) → ((j : ℕ) → met j f → stops (k + j) f) → Always all n met f → Always all (k + n) stops f
always_behind true k n met stops f p h = λ j e. subst (λ (i : ℕ). stops i f) (sym e) (p n (h n refl))
always_behind false k n met stops f p h = λ j le.
    let sum : k + (j - k) ≡ j = omega (arith, le) in
    subst (λ (i : ℕ). stops i f) sum (p (j - k) (h (j - k) (omega (arith, le))))

pub runs_behind : (kind : StreamKind) (c m : ℕ) (all : Bool) (k n : ℕ) (met stops : ℕ → RunFault → Type 0) (f : StripeFault) → c ≡ m → ((j : ℕ) (g : RunFault) → met j g → stops (k + j) g) → RunsFail kind c (Always all n met) f
    → RunsFail kind m (Always all (k + n) stops) f
runs_behind kind c m all k n met stops f e p h =
    subst (λ (i : ℕ). RunsFail kind i (Always all (k + n) stops) f) e (h.0, h.1, h.2, always_behind all k n met stops h.0 (λ j. p j h.0) h.3)

numbers_fail : (kind : StreamKind) (v : Rle) (s : Sign) (bytes : List ℕ) (k : ℕ) (r : Numbers) (c m : ℕ) (all : Bool) (n : ℕ) (f : StripeFault) → NumbersBehind v s bytes k r → c ≡ m → RunsFail kind c (Always all n (NumbersMeet r)) f
    → NumbersFail kind (integers_from v s bytes) all (k + n) m f
numbers_fail kind v s bytes k r c m all n f b e h =
    runs_behind kind c m all k n (NumbersMeet r) (λ j. StopsWithin (is_run v s) (no_run v s) j bytes) f e b.meets h

bools_fail : (kind : StreamKind) (bytes : List ℕ) (k : ℕ) (r : Bits) (c m : ℕ) (all : Bool) (n : ℕ) (f : StripeFault) → BitsBehind bytes k r → c ≡ m → RunsFail kind c (Always all n (BitsMeet r)) f → RunsFail kind m (BoolsFail all (k + n) bytes) f
bools_fail kind bytes k r c m all n f b e h = runs_behind kind c m all k n (BitsMeet r) (λ j. StopsWithin IsByteRun NoByteRun (packed_len 1 j) bytes) f e b.meets h

-- ---- PRESENT

-- a reader of PRESENT behind so many marks; without bytes there is none
abbrev pub MarksBehind : List ℕ → ℕ → Option Bits → Type 0
MarksBehind [] k None = Unit {0}
MarksBehind [] k (Some bits) = ⊥
MarksBehind (b ∷ bs) k None = ⊥
MarksBehind (b ∷ bs) k (Some bits) = BitsBehind (b ∷ bs) k bits

pub marks_met : (bytes : List ℕ) (k : ℕ) (present : Option Bits) (c m : ℕ) (all : Bool) (n : ℕ) (f : StripeFault) → MarksBehind bytes k present → c ≡ m → RunsFail stream.Present c (Always all n (MarksMeet present)) f → MarksFail bytes all (k + n) m f
marks_met [] k None c m all n f b e h = no_mark all n h.0 h.3
  where
    no_mark : (all : Bool) (n : ℕ) (g : RunFault) → Always all n (λ k h. ⊥) g → ⊥
    no_mark true n g h = h n refl
    no_mark false n g h = h n (omega arith)
marks_met [] k (Some bits) c m all n f b e h = absurd b
marks_met (x ∷ bs) k None c m all n f b e h = absurd b
marks_met (x ∷ bs) k (Some bits) c m all n f b e h = bools_fail stream.Present (x ∷ bs) k bits c m all n f b e h

all_true : (a b : List Bool) → a ≡ replicate (length a) true → b ≡ replicate (length b) true → a ++ b ≡ replicate (length (a ++ b)) true
all_true [] b h k = k
all_true (false ∷ a) b h k = absurd cc
all_true (true ∷ a) b h k = ap (λ (t : List Bool). true ∷ t) (all_true a b (ap (drop 1) h) k)

pub marks_first : (bytes : List ℕ) (present : Option Bits) (before more : List Bool) → MarksBehind bytes (length before) present → MarksBegin bytes before → MarksFirst present more → MarksBegin bytes (before ++ more)
marks_first [] None before more b begin h = all_true before more begin h
marks_first [] (Some bits) before more b begin h = absurd b
marks_first (x ∷ bs) None before more b begin h = absurd b
marks_first (x ∷ bs) (Some bits) before more b begin h = b.first before more refl begin h

-- ---- values

all_back : {X : Type 0} (P : X → Type 0) (a b : List X) → AllByRecursion P (a ++ b) → AllByRecursion P b
all_back P [] b h = h
all_back P (x ∷ a) b h = all_back P a b h.1

not_all : (passes : ℤ → Bool) (v : Rle) (s : Sign) (bytes : List ℕ) (k : ℕ) (r : Numbers) → NumbersBehind v s bytes k r → NotAll passes (NumbersFirst r) → NotAll passes (IntegersFirst (integers_from v s bytes))
not_all passes v s bytes k r b h = (b.passed ++ h.0, b.first h.0 h.1, λ all. h.2 (all_back (λ (n : ℤ). passes n ≡ true) b.passed h.0 all))

ints_met : (fits : ℤ → Bool) (x : Streams) (k : ℕ) (r : Numbers) (c m : ℕ) (all : Bool) (n : ℕ) (f : StripeFault) → NumbersBehind (version x) Signed (x.stream 1) k r → c ≡ m → IntsMeet fits r all n c f
    → IntsFail fits (IntegersFail (data_of x) all (k + n)) (IntegersFirst (data_of x)) m f
ints_met fits x k r c m all n f b e (inl h) = inl (numbers_fail stream.Data (version x) Signed (x.stream 1) k r c m all n f b e h)
ints_met fits x k r c m all n f b e (inr h) = inr (h.0 ∙ ap (λ (i : ℕ). fault.OutOfRange i) e, not_all fits (version x) Signed (x.stream 1) k r b h.1)

-- numbers that pass a sum behind lengths pass it and these together
pass_behind : (v : Rle) (bytes : List ℕ) (k : ℕ) (r : Numbers) (lengths : List ℕ) (most all : ℕ) → (b : NumbersBehind v Unsigned bytes k r) → b.passed ≡ map pos lengths → all ≤ sum lengths + most → Pass (NumbersFirst r) most
    → PassTogether (IntegersFirst (integers_from v Unsigned bytes)) all
pass_behind v bytes k r lengths most all b are le h = begin_lengths v bytes all (
  b.passed ++ h.0,
  b.first h.0 h.1,
  λ whole e.
      let count = length lengths in
      let front : map pos (take count whole) ≡ map pos lengths = front_is lengths whole h.0 (sym e ∙ ap (λ (t : List ℤ). t ++ h.0) are) in
      let back : h.0 ≡ map pos (drop count whole) = back_is lengths whole h.0 (sym e ∙ ap (λ (t : List ℤ). t ++ h.0) are) in
      let first : take count whole ≡ lengths = pos_same (take count whole) lengths front in
      let more : most < sum (drop count whole) = h.2 (drop count whole) back in
      omega (arith, more, le, ap sum first, sum_append (take count whole) (drop count whole), ap sum (take-append-drop count whole)),
)
  where
    front_is : (lengths whole : List ℕ) (more : List ℤ) → map pos whole ≡ map pos lengths ++ more → map pos (take (length lengths) whole) ≡ map pos lengths
    front_is [] whole more e = refl
    front_is (l ∷ ls) [] more e = absurd cc
    front_is (l ∷ ls) (w ∷ ws) more e = let head : w ≡ l = cc in let rest : map pos ws ≡ map pos ls ++ more = cc in (λ i. pos (head i) ∷ front_is ls ws more rest i)

    back_is : (lengths whole : List ℕ) (more : List ℤ) → map pos whole ≡ map pos lengths ++ more → more ≡ map pos (drop (length lengths) whole)
    back_is [] whole more e = sym e
    back_is (l ∷ ls) [] more e = absurd cc
    back_is (l ∷ ls) (w ∷ ws) more e = let rest : map pos ws ≡ map pos ls ++ more = cc in back_is ls ws more rest

-- groups of bytes that are passed, their sizes and the bytes behind them
pub record GroupsBehind (x : Streams) (k : ℕ) (source : ValueSource) : Type 0 where
  pub numbers : NumbersBehind (version x) Unsigned (x.stream 2) k source.numbers
  pub groups : List (List ℕ)
  pub sizes : numbers.passed ≡ map size groups
  pub content : x.stream 1 ≡ concatenated groups ++ source.octets.rest.now

sizes_are : (groups : List (List ℕ)) → map size groups ≡ map pos (map length groups)
sizes_are [] = refl
sizes_are (g ∷ gs) = ap (λ (t : List ℤ). size g ∷ t) (sizes_are gs)

sum_joined : (groups : List (List ℕ)) → sum (map length groups) ≡ length (concatenated groups)
sum_joined [] = refl
sum_joined (g ∷ gs) = omega (arith, sum_append (length g ∷ []) (map length gs), sum_joined gs, length-append g (concatenated gs), sum_one (length g))
  where
    sum_one : (n : ℕ) → sum (n ∷ []) ≡ n
    sum_one n = omega (arith, sum_append (n ∷ []) [])

joined_both : (a b : List (List ℕ)) → concatenated (a ++ b) ≡ concatenated a ++ concatenated b
joined_both [] b = refl
joined_both (g ∷ a) b = ap (λ (t : List ℕ). g ++ t) (joined_both a b) ∙ sym (append_assoc g (concatenated a) (concatenated b))

groups_met : (x : Streams) (k : ℕ) (source : ValueSource) (m : ℕ) (all : Bool) (n : ℕ) (f : StripeFault) → GroupsBehind x k source → source.column ≡ m → StringsMeet stream.Data source.numbers source.octets all n source.column f
    → StringsFail stream.Data (lengths_of x) all (k + n) (x.stream 1) m f
groups_met x k source m all n f b e (inl h) = inl (numbers_fail stream.Length (version x) Unsigned (x.stream 2) k source.numbers source.column m all n f b.numbers e h)
groups_met x k source m all n f b e (inr (is, inl p)) =
    let long : length (x.stream 1) ≡ length (concatenated b.groups) + length source.octets.rest.now = omega (arith, ap length b.content, length-append (concatenated b.groups) source.octets.rest.now) in
    inr (
      is ∙ ap (λ (i : ℕ). fault.LengthSum i stream.Data) e,
      inl (pass_behind (version x) (x.stream 2) k source.numbers (map length b.groups) (length source.octets.rest.now) (length (x.stream 1)) b.numbers (b.sizes ∙ sizes_are b.groups)
          (omega (arith, long, sum_joined b.groups)) p),
    )
groups_met x k source m all n f b e (inr (is, inr p)) =
    let lengths : List ℕ = map length b.groups ++ p.0 in
    let spelled = b.numbers.left (map pos p.0) p.1 in
    let same : b.numbers.passed ++ map pos p.0 ≡ map pos lengths = ap (λ (t : List ℤ). t ++ map pos p.0) (b.sizes ∙ sizes_are b.groups) ∙ sym (map-append pos (map length b.groups) p.0) in
    let few : sum lengths < length (x.stream 1) = omega (arith, p.2, sum_append (map length b.groups) p.0, sum_joined b.groups, ap length b.content, length-append (concatenated b.groups) source.octets.rest.now) in
    inr (is ∙ ap (λ (i : ℕ). fault.LengthSum i stream.Data) e, inr (lengths, subst (λ (t : List ℤ). AreIntegersOf (lengths_of x) t) same spelled, few))

text_met : (x : Streams) (k : ℕ) (source : ValueSource) (m : ℕ) (all : Bool) (n : ℕ) (f : StripeFault) → GroupsBehind x k source → source.column ≡ m → TextMeets source.numbers source.octets all n source.column f → TextsFail false x all (k + n) m f
text_met x k source m all n f b e (inl h) = inl (groups_met x k source m all n f b e h)
text_met x k source m all n f b e (inr (is, h)) =
    let first = subst (λ (t : List ℤ). IntegersFirst (lengths_of x) t) (ap (λ (t : List ℤ). t ++ map size h.0) b.sizes ∙ sym (map-append size b.groups h.0)) (b.numbers.first (map size h.0) h.2) in
    let parts : x.stream 1 ≡ concatenated (b.groups ++ h.0) ++ h.1 =
    b.content ∙ ap (λ (t : List ℕ). concatenated b.groups ++ t) h.3 ∙ sym (append_assoc (concatenated b.groups) (concatenated h.0) h.1) ∙ ap (λ (t : List ℕ). t ++ h.1) (sym (joined_both b.groups h.0)) in
    inr (is ∙ ap (λ (i : ℕ). fault.NotUtf8 i stream.Data) e, (b.groups ++ h.0, h.1, first, parts, λ every. h.4 (all_back _ b.groups h.0 every)))

words_met : (x : Streams) (entries : List (List ℕ)) (k : ℕ) (r : Numbers) (c m : ℕ) (all : Bool) (n : ℕ) (f : StripeFault) → IsDictionary x entries → NumbersBehind (version x) Unsigned (x.stream 1) k r → c ≡ m → IndexesMeet entries r all n c f
    → IndexesFail x all (k + n) m f
words_met x entries k r c m all n f d b e (inl h) = inl (numbers_fail stream.Data (version x) Unsigned (x.stream 1) k r c m all n f b e h)
words_met x entries k r c m all n f d b e (inr (inl h)) =
    inr (inl (h.0 ∙ ap (λ (i : ℕ). fault.BadIndex i) e, subst (λ (i : ℕ). NotAll (is_index i) (IntegersFirst (indexes_of x))) d.counted (not_all (is_index (length entries)) (version x) Unsigned (x.stream 1) k r b h.1)))
words_met x entries k r c m all n f d b e (inr (inr h)) =
    inr (inr (h.0 ∙ ap (λ (i : ℕ). fault.NotUtf8 i stream.DictionaryData) e, (entries, d, not_all (names_text entries) (version x) Unsigned (x.stream 1) k r b h.1)))

abbrev pub TextsBehind : Bool → Streams → ℕ → ValueSource → Type 0
TextsBehind true x k source = HasDictionaryEntries true x source.entries × NumbersBehind (version x) Unsigned (x.stream 1) k source.numbers
TextsBehind false x k source = HasDictionaryEntries false x source.entries × GroupsBehind x k source

texts_met : (d : Bool) (x : Streams) (entries : Option (Vec Entry Global)) (k : ℕ) (source : ValueSource) (m : ℕ) (all : Bool) (n : ℕ) (f : StripeFault) → source.entries ≡ entries → TextsBehind d x k source → source.column ≡ m → TextsMeet entries source all n f
    → TextsFail d x all (k + n) m f
texts_met true x None k source m all n f is b e h = absurd (subst (λ (es : Option (Vec Entry Global)). HasDictionaryEntries true x es) is b.0)
texts_met true x (Some entries) k source m all n f is b e h = words_met x (map entry_bytes entries.items) k source.numbers source.column m all n f (subst (λ (es : Option (Vec Entry Global)). HasDictionaryEntries true x es) is b.0) b.1 e h
texts_met false x None k source m all n f is b e h = text_met x k source m all n f b.1 e h
texts_met false x (Some entries) k source m all n f is b e h = absurd (subst (λ (es : Option (Vec Entry Global)). HasDictionaryEntries false x es) is b.0)

abbrev pub ScalarBehind : Scalar → Streams → ℕ → ValueSource → Type 0
ScalarBehind kind.Boolean x k source = BitsBehind (x.stream 1) k source.bits
ScalarBehind kind.Byte x k source = BytesBehind (x.stream 1) k source.bytes
ScalarBehind kind.Short x k source = NumbersBehind (version x) Signed (x.stream 1) k source.numbers
ScalarBehind kind.Int x k source = NumbersBehind (version x) Signed (x.stream 1) k source.numbers
ScalarBehind kind.Long x k source = NumbersBehind (version x) Signed (x.stream 1) k source.numbers
ScalarBehind kind.Date x k source = NumbersBehind (version x) Signed (x.stream 1) k source.numbers
ScalarBehind kind.Binary x k source = GroupsBehind x k source
ScalarBehind kind.String x k source = TextsBehind (has_dictionary x) x k source

scalar_met : (t : Scalar) (x : Streams) (k : ℕ) (source : ValueSource) (m : ℕ) (all : Bool) (n : ℕ) (f : StripeFault) → ScalarBehind t x k source → source.column ≡ m → ScalarMeets t source all n f → ScalarFails t x all (k + n) m f
scalar_met kind.Boolean x k source m all n f b e h = bools_fail stream.Data (x.stream 1) k source.bits source.column m all n f b e h
scalar_met kind.Byte x k source m all n f b e h = runs_behind stream.Data source.column m all k n (BytesMeet source.bytes) (λ j. StopsWithin IsByteRun NoByteRun j (x.stream 1)) f e b.meets h
scalar_met kind.Short x k source m all n f b e h = ints_met (int_fits kind.Short) x k source.numbers source.column m all n f b e h
scalar_met kind.Int x k source m all n f b e h = ints_met (int_fits kind.Int) x k source.numbers source.column m all n f b e h
scalar_met kind.Long x k source m all n f b e h = numbers_fail stream.Data (version x) Signed (x.stream 1) k source.numbers source.column m all n f b e h
scalar_met kind.Date x k source m all n f b e h = ints_met (signed_fits 31) x k source.numbers source.column m all n f b e h
scalar_met kind.Binary x k source m all n f b e h = groups_met x k source m all n f b e h
scalar_met kind.String x k source m all n f b e h = texts_met (has_dictionary x) x source.entries k source m all n f refl b e h

-- lengths of lists, or of maps, that are passed
pub record SizesBehind (x : Streams) (lengths : List ℕ) (source : ValueSource) : Type 0 where
  pub numbers : NumbersBehind (version x) Unsigned (x.stream 2) (length lengths) source.numbers
  pub sizes : numbers.passed ≡ map pos lengths
  pub room : source.room ≡ most_cells

lists_met : (x : Streams) (lengths : List ℕ) (source : ValueSource) (m : ℕ) (all : Bool) (n : ℕ) (f : StripeFault) → SizesBehind x lengths source → source.column ≡ m → ListsMeet source all n f → ListsFail x all (length lengths + n) m f
lists_met x lengths source m all n f b e (inl h) = inl (numbers_fail stream.Length (version x) Unsigned (x.stream 2) (length lengths) source.numbers source.column m all n f b.numbers e h)
lists_met x lengths source m all n f b e (inr h) =
    inr (h.0 ∙ ap (λ (i : ℕ). fault.TooMany i) e, pass_behind (version x) (x.stream 2) (length lengths) source.numbers lengths source.room most_cells b.numbers b.sizes (omega (arith, b.room)) h.1)

abbrev pub list_lengths : List Cell → List ℕ
list_lengths vs = map (λ v. length (parts v)) vs

abbrev pub map_lengths : List Cell → List ℕ
map_lengths vs = map (λ m. length (pairs_in m)) vs

-- what a column's values are read from, behind some of them
abbrev pub SourceBehind : Shape → Streams → List Cell → ValueSource → Type 0
SourceBehind (scalar t o) x vs source = ScalarBehind t x (length vs) source
SourceBehind (list_of s o) x vs source = SizesBehind x (list_lengths vs) source
SourceBehind (map_of k v o) x vs source = SizesBehind x (map_lengths vs) source
SourceBehind (struct_of fs o) x vs source = Unit {0}

pub values_met : (s : Shape) (x : Streams) (vs : List Cell) (source : ValueSource) (m : ℕ) (all : Bool) (n : ℕ) (f : StripeFault) → SourceBehind s x vs source → source.column ≡ m → ValuesMeet s source all n f → ValuesFail s x all (length vs + n) m f
values_met (scalar t o) x vs source m all n f b e h = scalar_met t x (length vs) source m all n f b e h
values_met (list_of s o) x vs source m all n f b e h =
    subst (λ (i : ℕ). ListsFail x all (i + n) m f) (length-map vs (λ v. length (parts v))) (lists_met x (list_lengths vs) source m all n f b e h)
values_met (map_of k v o) x vs source m all n f b e h =
    subst (λ (i : ℕ). ListsFail x all (i + n) m f) (length-map vs (λ p. length (pairs_in p))) (lists_met x (map_lengths vs) source m all n f b e h)
values_met (struct_of fs o) x vs source m all n f b e h = h
