-- What is written is read: a written column spells its cells, a written stripe is a stripe of its rows.
use Rattle.std.proofs.Common.{◌≡◌, ℕ, ℤ, pos, negsuc, zero, suc, ◌+◌, ◌-◌, ◌<◌, ◌≤◌, ◌^◌, Bool, true, false, Some, None, List, [], ◌∷◌, ◌++◌, map, length, replicate, slice_get, refl, sym, ap, ◌∙◌, subst, arith, inl, inr}
use Rattle.std.specs.List.{list_all, AllZip}
use Rattle.std.proofs.lemmas.Bool.Decides.{leb_tells}
use Rattle.orc_rle.specs.declared.sign.Rle.{Rle}
use Rattle.orc_rle.specs.declared.sign.Rle.TheVariants.{One, Two}
use Rattle.orc_rle.specs.declared.sign.Sign.{Sign}
use Rattle.orc_rle.specs.declared.sign.Sign.TheVariants.{Signed, Unsigned}
use Rattle.orc_rle.specs.laws.WrittenLaws.{written_one_is_stream}
use Rattle.orc_rle.specs.laws.TwoWrittenLaws.{written_two_is_stream}
use Rattle.orc_rle.proofs.ByteLaws.{bytes_written}
use Rattle.orc_rle.proofs.ByteLaws.{byte_run_some}
use Rattle.orc_rle.proofs.BitLaws.{held_len, bits_written}
use Rattle.orc_rle.proofs.StreamLemmas.{no_values}
use Rattle.orc_rle.specs.ByteRun.{IsByteRun}
use Rattle.orc_rle.specs.BitStream.{IsBitText, IsBitStream}
use Rattle.orc_wire.specs.declared.encoding.Encoding.{Encoding}
use Rattle.orc_wire.specs.declared.type_msg.TypeMsg.{TypeMsg}
use Rattle.orc_wire.specs.declared.stripe_footer.StreamMsg.{StreamMsg}
use Rattle.orc_wire.specs.EncodingKinds.{is_dictionary}
use Rattle.orc_values.specs.declared.kind.Scalar.{Scalar}
use Rattle.orc_values.specs.declared.kind.Scalar.TheVariants as kind
use Rattle.orc_values.specs.Kinds.{number}
use Rattle.orc_values.specs.Shapes.{Shape, scalar, list_of, map_of, struct_of, Fields, no_field, field, width, widths, shape_at, shape_within}
use Rattle.orc_wire.specs.Types.{types, fields_types}
use Rattle.orc_values.specs.Cells.{Cell, is_value, parts, pairs_in, values}
use Rattle.orc_values.specs.Columns.{cells}
use Rattle.orc_types.proofs.Trees.{length-types}
use Rattle.orc_column_reader.specs.Spellings.{Standing, size, Sized}
use Rattle.orc_column_reader.specs.Numbers.{AreNumbers}
use Rattle.orc_column_reader.specs.Bytes.{AreBytes}
use Rattle.orc_column_reader.specs.Columns.{IsBool, IsByte, IsText, IsEntry}
use Rattle.orc_directory.specs.Directory.{takes_encoding, first_wrong}
use Rattle.orc_column_reader.specs.Stripe.{Streams, version_at, Marks, Is, SpellsTexts, SpellsScalar, SpellsValues, IsColumn, encoding_at, plain}
use Rattle.orc_stripe_writer.specs.Dictionary.{dictionary_entry, AreNamed, is_worth}
use Rattle.orc_stripe_writer.specs.WrittenStreams.{AreWrittenInts, AreMarksIf, AreWrittenMarks}
use Rattle.orc_stripe_writer.specs.WrittenColumn.{Written, direct, dictionary, WritesBooleans, HasBytes, HasNumbers, HasStrings, HasTextsIf, WritesScalar, WritesValues, IsWrittenColumn}
use Rattle.orc_stripe_writer.specs.WrittenStripe.{AreWrittenColumns, HasColumns}
use Rattle.orc_stripe_writer.proofs.WrittenDirectory.{from_zero, AreFound}

-- ---- PRESENT

all_true : (ms : List Bool) → list_all (λ m. m) ms ≡ true → ms ≡ replicate (length ms) true
all_true [] h = refl
all_true (true ∷ ms) h = ap (λ xs. true ∷ xs) (all_true ms h)
all_true (false ∷ ms) h = cc

-- no bytes hold no booleans alone
no_bits : (ms : List Bool) → IsBitStream [] ms → ms ≡ []
no_bits [] h = refl
no_bits (m ∷ ms) h =
    let none : h.packed ≡ [] = no_values IsByteRun byte_run_some h.packed h.runs in
    let some = held_len h.packed (m ∷ ms) h.held in
    absurd (omega (arith, some, ap length none))

marks_some : (ms : List Bool) (bytes : List ℕ) → list_all (λ m. m) ms ≡ false → IsBitText ms bytes → Marks bytes ms
marks_some ms [] h w = let e : ms ≡ [] = no_bits ms (bits_written ms [] w) in let f : true ≡ false = ap (list_all (λ m. m)) (sym e) ∙ h in cc
marks_some ms (b ∷ bs) h w = bits_written ms (b ∷ bs) w

marks_if : (t : Bool) (ms : List Bool) (bytes : List ℕ) → list_all (λ m. m) ms ≡ t → AreMarksIf t ms bytes → Marks bytes ms
marks_if true ms bytes h w = subst (λ bs. Marks bs ms) (sym w) (all_true ms h)
marks_if false ms bytes h w = marks_some ms bytes h w

marks_read : (ms : List Bool) (bytes : List ℕ) → AreWrittenMarks ms bytes → Marks bytes ms
marks_read ms bytes w = marks_if (list_all (λ m. m) ms) ms bytes refl w

-- ---- values

direct_version : (rle : Rle) → version_at (direct rle).kind ≡ rle
direct_version One = refl
direct_version Two = refl

dictionary_version : (rle : Rle) (n : ℕ) → version_at (dictionary rle n).kind ≡ rle
dictionary_version One n = refl
dictionary_version Two n = refl

direct_uses : (rle : Rle) → is_dictionary (direct rle).kind ≡ false
direct_uses One = refl
direct_uses Two = refl

dictionary_uses : (rle : Rle) (n : ℕ) → is_dictionary (dictionary rle n).kind ≡ true
dictionary_uses One n = refl
dictionary_uses Two n = refl

dictionary_size : (rle : Rle) (n : ℕ) → (dictionary rle n).dictionary_size ≡ n
dictionary_size One n = refl
dictionary_size Two n = refl

ints_read : (rle : Rle) (sign : Sign) (ns : List ℤ) (bytes : List ℕ) → AreWrittenInts rle sign ns bytes → AreNumbers rle sign bytes ns
ints_read One sign ns bytes w = written_one_is_stream sign ns bytes w.1 w.0
ints_read Two sign ns bytes w = written_two_is_stream sign ns bytes w.1 w.0

-- the streams of a column are those that were written
pub record AreRead (x : Streams) (w : Written) : Type 0 where
  pub encoded : x.encoding ≡ w.encoding
  pub found : AreFound x.stream w

numbers_at : (rle : Rle) (sign : Sign) (ns : List ℤ) (a b : List ℕ) (v : Rle) → v ≡ rle → a ≡ b → AreWrittenInts rle sign ns b → AreNumbers v sign a ns
numbers_at rle sign ns a b v e p w = rw (e, p) (ints_read rle sign ns b w)

is_direct : (rle : Rle) (x : Streams) (w v : Written) → AreRead x w → w ≡ v → v.encoding ≡ direct rle → version_at x.encoding.kind ≡ rle
is_direct rle x w v r e k = ap (λ (n : Encoding). version_at n.kind) (r.encoded ∙ ap (λ (u : Written). u.encoding) e ∙ k) ∙ direct_version rle

groups_read : (rle : Rle) (x : Streams) (w : Written) (groups : List (List ℕ)) → AreRead x w → HasStrings rle w groups → Sized (AreNumbers (version_at x.encoding.kind) Unsigned (x.stream 2)) (Is (x.stream 1)) groups
groups_read rle x w groups r h = (
  numbers_at rle Unsigned (map size groups) (x.stream 2) w.lengths _ (is_direct rle x w _ r h.others refl) r.found.lengths h.lengths_are,
  sym (r.found.content ∙ h.content_is),
)

-- each value stands for the same, in other words
standing_read : {X : Type 0} (stands : X → Cell → Type 0) (P Q : List X → Type 0) (vs : List Cell) → ((xs : List X) → P xs → Q xs) → Standing stands P vs → Standing stands Q vs
standing_read stands P Q vs f h = (h.0, h.1, f h.0 h.2)

word_at : (entries : List (List ℕ)) (n : ℤ) (t : List ℕ) (c : Cell) → dictionary_entry entries n ≡ Some t → IsText t c → IsEntry entries n c
word_at entries (pos i) t c e h = (t, e, h)
word_at entries (negsuc i) t c e h = cc

words_stand : (entries : List (List ℕ)) (places : List ℤ) (texts : List (List ℕ)) (vs : List Cell) → AreNamed entries places texts → AllZip IsText texts vs → AllZip (IsEntry entries) places vs
words_stand entries [] [] [] n h = tt
words_stand entries [] [] (v ∷ vs) n h = absurd h
words_stand entries [] (t ∷ ts) vs n h = cc
words_stand entries (p ∷ ps) [] vs n h = cc
words_stand entries (p ∷ ps) (t ∷ ts) [] n h = absurd h
words_stand entries (p ∷ ps) (t ∷ ts) (v ∷ vs) n h =
    let first : dictionary_entry entries p ≡ Some t = cc in
    let later : map (dictionary_entry entries) ps ≡ map Some ts = cc in
    (word_at entries p t v first h.0, words_stand entries ps ts vs later h.1)

texts_if : (t : Bool) (rle : Rle) (x : Streams) (w : Written) (vs : List Cell) (entries texts : List (List ℕ)) → AreRead x w → AllZip IsText texts vs → HasTextsIf t rle w entries texts → SpellsTexts x (is_dictionary x.encoding.kind) vs
texts_if true rle x w vs entries texts r stand h =
    let e : x.encoding ≡ dictionary rle (length entries) = r.encoded ∙ h.encoded in
    let uses : is_dictionary x.encoding.kind ≡ true = ap (λ (n : Encoding). is_dictionary n.kind) e ∙ dictionary_uses rle (length entries) in
    let v : version_at x.encoding.kind ≡ rle = ap (λ (n : Encoding). version_at n.kind) e ∙ dictionary_version rle (length entries) in
    let n : x.encoding.dictionary_size ≡ length entries = ap (λ (n : Encoding). n.dictionary_size) e ∙ dictionary_size rle (length entries) in
    subst (λ (b : Bool). SpellsTexts x b vs) (sym uses) (
      entries,
      record {
        counted = sym n;
        spelled = (numbers_at rle Unsigned (map size entries) (x.stream 2) w.lengths _ v r.found.lengths h.lengths_are, sym (r.found.dictionary_data ∙ h.dictionary_data_is));
      },
      (h.places, words_stand entries h.places texts vs h.named stand, numbers_at rle Unsigned h.places (x.stream 1) w.content _ v r.found.content h.content_is),
    )
texts_if false rle x w vs entries texts r stand h =
    let e : x.encoding ≡ direct rle = r.encoded ∙ ap (λ (u : Written). u.encoding) h.others in
    let uses : is_dictionary x.encoding.kind ≡ false = ap (λ (n : Encoding). is_dictionary n.kind) e ∙ direct_uses rle in
    subst (λ (b : Bool). SpellsTexts x b vs) (sym uses) (texts, stand, groups_read rle x w texts r h)

numbers_read : (rle : Rle) (x : Streams) (w : Written) (ns : List ℤ) → AreRead x w → HasNumbers rle w ns → AreNumbers (version_at x.encoding.kind) Signed (x.stream 1) ns
numbers_read rle x w ns r h = numbers_at rle Signed ns (x.stream 1) w.content _ (is_direct rle x w _ r h.others refl) r.found.content h.content_is

bits_read : (x : Streams) (w : Written) (bs : List Bool) → AreRead x w → WritesBooleans w bs → IsBitStream (x.stream 1) bs
bits_read x w bs r h = subst (λ bytes. IsBitStream bytes bs) (sym r.found.content) (bits_written bs w.content h.content_is)

bytes_read : (x : Streams) (w : Written) (bs : List ℕ) → AreRead x w → HasBytes w bs → AreBytes (x.stream 1) bs
bytes_read x w bs r h = subst (λ bytes. AreBytes bytes bs) (sym r.found.content) (bytes_written bs w.content h.content_is)

scalar_read : (rle : Rle) (k : Scalar) (x : Streams) (w : Written) (vs : List Cell) → AreRead x w → WritesScalar rle w k vs → SpellsScalar k x vs
scalar_read rle kind.Boolean x w vs r h = standing_read IsBool (WritesBooleans w) (IsBitStream (x.stream 1)) vs (λ xs p. bits_read x w xs r p) h
scalar_read rle kind.Byte x w vs r h = standing_read IsByte (HasBytes w) (AreBytes (x.stream 1)) vs (λ xs p. bytes_read x w xs r p) h
scalar_read rle kind.Short x w vs r h = (h.0, h.1, numbers_read rle x w h.0 r h.2)
scalar_read rle kind.Int x w vs r h = (h.0, h.1, numbers_read rle x w h.0 r h.2)
scalar_read rle kind.Long x w vs r h = (h.0, h.1, numbers_read rle x w h.0 r h.2)
scalar_read rle kind.Date x w vs r h = (h.0, h.1, numbers_read rle x w h.0 r h.2)
scalar_read rle kind.String x w vs r h = texts_if (is_worth (length h.2.entries) (length h.0)) rle x w vs h.2.entries h.0 r h.1 h.2.written
scalar_read rle kind.Binary x w vs r h = (h.0, h.1, groups_read rle x w h.0 r h.2)

values_read : (rle : Rle) (s : Shape) (x : Streams) (w : Written) (vs : List Cell) → AreRead x w → WritesValues rle w s vs → SpellsValues s x vs
values_read rle (scalar k o) x w vs r h = scalar_read rle k x w vs r h
values_read rle (list_of s o) x w vs r h = numbers_at rle Unsigned (map (λ v. size (parts v)) vs) (x.stream 2) w.lengths _ (is_direct rle x w _ r h.others refl) r.found.lengths h.lengths_are
values_read rle (map_of k v o) x w vs r h = numbers_at rle Unsigned (map (λ m. size (pairs_in m)) vs) (x.stream 2) w.lengths _ (is_direct rle x w _ r h.others refl) r.found.lengths h.lengths_are
values_read rle (struct_of fs o) x w vs r h = tt

-- a written column spells its cells
pub column_read : (rle : Rle) (s : Shape) (column : List Cell) (x : Streams) (w : Written) → AreRead x w → length column < 2 ^ 31 → IsWrittenColumn rle s column w → IsColumn s x column
column_read rle s column x w r few h = record {
  few = few;
  marks = subst (λ bytes. Marks bytes (map is_value column)) (sym r.found.marks) (marks_read (map is_value column) w.marks h.marks);
  spelled = values_read rle s x w (values column) r h.written;
}

-- ---- encodings

direct_taken : (rle : Rle) (n : ℕ) → takes_encoding n (direct rle).kind ≡ true
direct_taken One n = refl
direct_taken Two n = refl

words_taken : (rle : Rle) (n : ℕ) → takes_encoding (number kind.String) (dictionary rle n).kind ≡ true
words_taken One n = refl
words_taken Two n = refl

-- the encoding that is written for a kind
taken : (n : ℕ) (e f : Encoding) → e ≡ f → takes_encoding n f.kind ≡ true → takes_encoding n e.kind ≡ true
taken n e f p h = ap (λ (k : Encoding). takes_encoding n k.kind) p ∙ h

texts_taken : (t : Bool) (rle : Rle) (w : Written) (entries texts : List (List ℕ)) → HasTextsIf t rle w entries texts → takes_encoding (number kind.String) w.encoding.kind ≡ true
texts_taken true rle w entries texts h = taken (number kind.String) w.encoding _ h.encoded (words_taken rle (length entries))
texts_taken false rle w entries texts h = taken (number kind.String) w.encoding _ (ap (λ (u : Written). u.encoding) h.others) (direct_taken rle (number kind.String))

others_taken : (rle : Rle) (n : ℕ) (w v : Written) → w ≡ v → v.encoding ≡ direct rle → takes_encoding n w.encoding.kind ≡ true
others_taken rle n w v e k = taken n w.encoding (direct rle) (ap (λ (u : Written). u.encoding) e ∙ k) (direct_taken rle n)

-- the number of a type's kind
abbrev kind_number : Shape → ℕ
kind_number (scalar k o) = number k
kind_number (list_of s o) = 10
kind_number (map_of k v o) = 11
kind_number (struct_of fs o) = 12

scalar_taken : (rle : Rle) (k : Scalar) (w : Written) (vs : List Cell) → WritesScalar rle w k vs → takes_encoding (number k) w.encoding.kind ≡ true
scalar_taken rle kind.Boolean w vs h = others_taken One (number kind.Boolean) w _ h.2.others refl
scalar_taken rle kind.Byte w vs h = others_taken One (number kind.Byte) w _ h.2.others refl
scalar_taken rle kind.Short w vs h = others_taken rle (number kind.Short) w _ h.2.others refl
scalar_taken rle kind.Int w vs h = others_taken rle (number kind.Int) w _ h.2.others refl
scalar_taken rle kind.Long w vs h = others_taken rle (number kind.Long) w _ h.2.others refl
scalar_taken rle kind.Date w vs h = others_taken rle (number kind.Date) w _ h.2.others refl
scalar_taken rle kind.String w vs h = texts_taken (is_worth (length h.2.entries) (length h.0)) rle w h.2.entries h.0 h.2.written
scalar_taken rle kind.Binary w vs h = others_taken rle (number kind.Binary) w _ h.2.others refl

column_taken : (rle : Rle) (s : Shape) (vs : List Cell) (w : Written) → WritesValues rle w s vs → takes_encoding (kind_number s) w.encoding.kind ≡ true
column_taken rle (scalar k o) vs w h = scalar_taken rle k w vs h
column_taken rle (list_of s o) vs w h = others_taken rle 10 w _ h.others refl
column_taken rle (map_of k v o) vs w h = others_taken rle 11 w _ h.others refl
column_taken rle (struct_of fs o) vs w h = others_taken One 12 w _ h refl

-- the kind's number of a type in the list
abbrev kind_at : List TypeMsg → ℕ → ℕ
kind_at [] c = 0
kind_at (t ∷ ts) zero = t.kind
kind_at (t ∷ ts) (suc c) = kind_at ts c

kind_front : (a b : List TypeMsg) (c : ℕ) → c < length a → kind_at (a ++ b) c ≡ kind_at a c
kind_front [] b c h = absurd (omega (arith, h))
kind_front (t ∷ a) b zero h = refl
kind_front (t ∷ a) b (suc c) h = kind_front a b c (omega (arith, h))

kind_back : (a b : List TypeMsg) (c : ℕ) → length a ≤ c → kind_at (a ++ b) c ≡ kind_at b (c - length a)
kind_back [] b c h = let e : c ≡ c - 0 = omega arith in ap (kind_at b) e
kind_back (t ∷ a) b zero h = absurd (omega (arith, h))
kind_back (t ∷ a) b (suc c) h = kind_back a b c (omega (arith, h)) ∙ ap (kind_at b) (let e : c - length a ≡ suc c - suc (length a) = omega arith in e)

mutual
  kinds_are : (s : Shape) (n c : ℕ) → c < width s → kind_at (types s n) c ≡ kind_number (shape_at s c)
  kinds_are (scalar k o) n zero h = refl
  kinds_are (scalar k o) n (suc c) h = absurd (omega (arith, h))
  kinds_are (list_of s o) n zero h = refl
  kinds_are (list_of s o) n (suc c) h = kinds_are s (n + 1) c (omega (arith, h))
  kinds_are (map_of k v o) n zero h = refl
  kinds_are (map_of k v o) n (suc c) h =
      let l = length-types k (n + 1) in
      elim (leb_tells (suc c) (width k)) [
        | inl p ↦ rw p.0 (kind_front (types k (n + 1)) (types v (n + 1 + width k)) c (omega (arith, l, p.1)) ∙ kinds_are k (n + 1) c p.1)
        | inr p ↦ rw p.0 (kind_back (types k (n + 1)) (types v (n + 1 + width k)) c (omega (arith, l, p.1)) ∙ ap (λ m. kind_at (types v (n + 1 + width k)) (c - m)) l ∙ kinds_are v (n + 1 + width k) (c - width k) (omega (arith, h, p.1)))
      ]
  kinds_are (struct_of fs o) n zero h = refl
  kinds_are (struct_of fs o) n (suc c) h = kinds_within fs (n + 1) c (omega (arith, h))

  kinds_within : (fs : Fields) (n c : ℕ) → c < widths fs → kind_at (fields_types fs n) c ≡ kind_number (shape_within fs c)
  kinds_within no_field n c h = absurd (omega (arith, h))
  kinds_within (field name s fs) n c h =
      let l = length-types s n in
      elim (leb_tells (suc c) (width s)) [
        | inl p ↦ rw p.0 (kind_front (types s n) (fields_types fs (n + width s)) c (omega (arith, l, p.1)) ∙ kinds_are s n c p.1)
        | inr p ↦ rw p.0 (kind_back (types s n) (fields_types fs (n + width s)) c (omega (arith, l, p.1)) ∙ ap (λ m. kind_at (fields_types fs (n + width s)) (c - m)) l ∙ kinds_within fs (n + width s) (c - width s) (omega (arith, h, p.1)))
      ]

none_wrong : (n : ℕ) (ts : List TypeMsg) (es : List Encoding) → length ts ≡ length es → ((c : ℕ) → c < length ts → takes_encoding (kind_at ts c) (encoding_at es c).kind ≡ true) → first_wrong n ts es ≡ None
none_wrong n [] [] l h = refl
none_wrong n [] (e ∷ es) l h = absurd (omega (arith, l))
none_wrong n (t ∷ ts) [] l h = absurd (omega (arith, l))
none_wrong n (t ∷ ts) (e ∷ es) l h = let first : takes_encoding t.kind e.kind ≡ true = h 0 (omega arith) in
    rw first (none_wrong (n + 1) ts es (omega (arith, l)) (λ c lt. h (suc c) (omega (arith, lt))))

-- ---- the columns of a stripe

abbrev no_column : Written
no_column = record { encoding = plain; marks = []; content = []; lengths = []; dictionary_data = [] }

abbrev pub column_at : List Written → ℕ → Written
column_at [] c = no_column
column_at (w ∷ ws) zero = w
column_at (w ∷ ws) (suc c) = column_at ws c

pub there : (ws : List Written) (c : ℕ) → c < length ws → slice_get ws c ≡ Some (column_at ws c)
there [] c h = absurd (omega (arith, h))
there (w ∷ ws) zero h = refl
there (w ∷ ws) (suc c) h = there ws c (omega (arith, h))

pub encodings_at : (ws : List Written) (c : ℕ) → c < length ws → encoding_at (map (λ (w : Written). w.encoding) ws) c ≡ (column_at ws c).encoding
encodings_at [] c h = absurd (omega (arith, h))
encodings_at (w ∷ ws) zero h = refl
encodings_at (w ∷ ws) (suc c) h = encodings_at ws c (omega (arith, h))

pub written_at : (rle : Rle) (s : Shape) (rows : List Cell) (b : ℕ) (ws : List Written) (i c : ℕ) → AreWrittenColumns rle s rows b ws → i < length ws → b + i ≡ c → IsWrittenColumn rle (shape_at s c) (cells s c rows) (column_at ws i)
written_at rle s rows b [] i c w lt n = absurd (omega (arith, lt))
written_at rle s rows b (v ∷ vs) zero c h lt n =
    let at : b ≡ c = omega (arith, n) in
    subst (λ m. IsWrittenColumn rle (shape_at s m) (cells s m rows) v) at h.0
written_at rle s rows b (v ∷ vs) (suc i) c h lt n = written_at rle s rows (suc b) vs i c h.1 (omega (arith, lt)) (omega (arith, n))

pub as_many : (ws : List Written) → length (map (λ (w : Written). w.encoding) ws) ≡ length ws
as_many [] = refl
as_many (w ∷ ws) = ap suc (as_many ws)

pub encodings_right : (rle : Rle) (s : Shape) (rows : List Cell) (streams : List ℕ) (directory : List StreamMsg) (encodings : List Encoding) → HasColumns rle s rows (width s) streams directory encodings → first_wrong 0 (types s 0) encodings ≡ None
encodings_right rle s rows streams directory encodings h =
    let many : length encodings ≡ width s = ap length h.encoded ∙ as_many h.columns ∙ h.counted in
    let l = length-types s 0 in
    none_wrong 0 (types s 0) encodings (omega (arith, many, l)) (λ c lt.
    let wide : c < width s = omega (arith, lt, l) in
    let below : c < length h.columns = omega (arith, wide, h.counted) in
    let is : encoding_at encodings c ≡ (column_at h.columns c).encoding = ap (λ es. encoding_at es c) h.encoded ∙ encodings_at h.columns c below in
    ap (λ n. takes_encoding n (encoding_at encodings c).kind) (kinds_are s 0 c wide)
    ∙ taken (kind_number (shape_at s c)) _ _ is (column_taken rle (shape_at s c) (values (cells s c rows)) (column_at h.columns c) (written_at rle s rows 0 h.columns c c h.are below (from_zero c)).written))
