-- Of cells at most one column is written, and of rows at most one list of columns.
use Rattle.std.proofs.Common.{◌≡◌, ℕ, ℤ, pos, negsuc, zero, suc, ◌-◌, ◌<◌, nat_lt, if◌then◌else◌, Bool, true, false, Some, List, [], ◌∷◌, map, length, slice_get, refl, sym, ap, ◌∙◌, subst, arith}
use Rattle.std.specs.List.{Contains, list_all, AllZip}
use Rattle.std.specs.List.Sorted.{IsStrictlySortedBy}
use Rattle.std.specs.Ordering.{nat_cmp}
use Rattle.std.specs.Cmp.Lexicographic.{slice_cmp}
use Rattle.std.specs.declared.cmp.Ordering.TheVariants.{Less}
use Rattle.orc_rle.specs.declared.sign.Rle.{Rle}
use Rattle.orc_rle.specs.declared.sign.Rle.TheVariants.{One, Two}
use Rattle.orc_rle.specs.declared.sign.Sign.{Sign}
use Rattle.orc_rle.specs.declared.sign.Sign.TheVariants.{Signed, Unsigned}
use Rattle.orc_rle.specs.laws.WrittenLaws.{one_text_one}
use Rattle.orc_rle.specs.laws.TwoWrittenLaws.{one_text_two}
use Rattle.orc_rle.proofs.ByteLaws.{one_byte_text}
use Rattle.orc_rle.proofs.BitLaws.{one_bit_text}
use Rattle.orc_wire.specs.declared.encoding.Encoding.{Encoding}
use Rattle.orc_values.specs.declared.kind.Scalar.{Scalar}
use Rattle.orc_values.specs.declared.kind.Scalar.TheVariants as kind
use Rattle.orc_values.specs.Shapes.{Shape, scalar, list_of, map_of, struct_of, shape_at}
use Rattle.orc_values.specs.Cells.{Cell, leaf, int, is_value, parts, pairs_in, values}
use Rattle.orc_values.specs.Columns.{cells}
use Rattle.orc_column_reader.specs.Spellings.{size, concatenated}
use Rattle.orc_column_reader.specs.Columns.{IsBool, IsByte, IsInt, IsDate, IsText, IsBinary, signed_byte}
use Rattle.orc_column_reader.specs.Stripe.{plain}
use Rattle.orc_stripe_writer.specs.Dictionary.{dictionary_entry, AreNamed, is_worth}
use Rattle.orc_stripe_writer.specs.WrittenStreams.{AreWrittenInts, AreMarksIf}
use Rattle.orc_stripe_writer.specs.WrittenColumn.{Written, direct, WritesBooleans, HasBytes, HasNumbers, HasStrings, HasDictionary, HasTextsIf, HasTexts, HasSizes, WritesScalar, WritesValues, IsWrittenColumn}
use Rattle.orc_stripe_writer.specs.WrittenStripe.{AreWrittenColumns}
use Rattle.orc_stripe_writer.proofs.DictionaryLemmas.{less_in, not_itself, one_distinct}

-- ---- one stream

one_ints : (rle : Rle) (sign : Sign) (ns ms : List ℤ) (a b : List ℕ) → ns ≡ ms → AreWrittenInts rle sign ns a → AreWrittenInts rle sign ms b → a ≡ b
one_ints One sign ns ms a b e p q = one_text_one sign ms a b (subst (λ xs. AreWrittenInts One sign xs a) e p).1 q.1
one_ints Two sign ns ms a b e p q = one_text_two sign ms a b (subst (λ xs. AreWrittenInts Two sign xs a) e p).1 q.1

marks_if : (t : Bool) (ms : List Bool) (a b : List ℕ) → AreMarksIf t ms a → AreMarksIf t ms b → a ≡ b
marks_if true ms a b p q = p ∙ sym q
marks_if false ms a b p q = one_bit_text ms a b p q

-- ---- one list of things for the values that they stand for

one_stood : {X : Type 0} (stands : X → Cell → Type 0) → ((x y : X) (c : Cell) → stands x c → stands y c → x ≡ y) → (xs ys : List X) (cs : List Cell) → AllZip stands xs cs → AllZip stands ys cs → xs ≡ ys
one_stood stands one [] [] [] p q = refl
one_stood stands one [] [] (c ∷ cs) p q = absurd p
one_stood stands one [] (y ∷ ys) [] p q = absurd q
one_stood stands one [] (y ∷ ys) (c ∷ cs) p q = absurd p
one_stood stands one (x ∷ xs) [] [] p q = absurd p
one_stood stands one (x ∷ xs) [] (c ∷ cs) p q = absurd q
one_stood stands one (x ∷ xs) (y ∷ ys) [] p q = absurd p
one_stood stands one (x ∷ xs) (y ∷ ys) (c ∷ cs) p q =
    let first : x ≡ y = one x y c p.0 q.0 in
    let rest : xs ≡ ys = one_stood stands one xs ys cs p.1 q.1 in
    λ i. first i ∷ rest i

stood_bool : (x y : Bool) (c : Cell) → IsBool x c → IsBool y c → x ≡ y
stood_bool x y c p q = let e = sym p ∙ q in cc

stood_int : (k : Scalar) (x y : ℤ) (c : Cell) → IsInt k x c → IsInt k y c → x ≡ y
stood_int k x y c p q = let e = sym p.1 ∙ q.1 in cc

stood_date : (x y : ℤ) (c : Cell) → IsDate x c → IsDate y c → x ≡ y
stood_date x y c p q = let e = sym p.1 ∙ q.1 in cc

stood_text : (x y : List ℕ) (c : Cell) → IsText x c → IsText y c → x ≡ y
stood_text x y c p q = let e = sym p.1 ∙ q.1 in cc

stood_binary : (x y : List ℕ) (c : Cell) → IsBinary x c → IsBinary y c → x ≡ y
stood_binary x y c p q = let e = sym p.1 ∙ q.1 in cc

-- the byte of a number
byte_if : (a b : ℕ) (s t : Bool) → a < 256 → b < 256 → nat_lt a 128 ≡ s → nat_lt b 128 ≡ t → (if s then pos a else negsuc (255 - a)) ≡ (if t then pos b else negsuc (255 - b)) → a ≡ b
byte_if a b true true la lb p q e = let same : a ≡ b = cc in same
byte_if a b true false la lb p q e = cc
byte_if a b false true la lb p q e = cc
byte_if a b false false la lb p q e = let same : 255 - a ≡ 255 - b = cc in omega (arith, same, la, lb)

one_signed : (a b : ℕ) → a < 256 → b < 256 → signed_byte a ≡ signed_byte b → a ≡ b
one_signed a b la lb e = byte_if a b (nat_lt a 128) (nat_lt b 128) la lb refl refl e

stood_byte : (x y : ℕ) (c : Cell) → IsByte x c → IsByte y c → x ≡ y
stood_byte x y c p q =
    let e : leaf (int (signed_byte x)) ≡ leaf (int (signed_byte y)) = sym p.1 ∙ q.1 in
    let same : signed_byte x ≡ signed_byte y = cc in
    one_signed x y p.0 q.0 same

-- ---- one place for each text among entries that ascend

entry_in : (es : List (List ℕ)) (i : ℕ) (t : List ℕ) → slice_get es i ≡ Some t → Contains es t
entry_in [] i t h = cc
entry_in (e ∷ es) zero t h = let same : e ≡ t = cc in (zero, omega arith, same)
entry_in (e ∷ es) (suc i) t h = let r = entry_in es i t h in (suc r.0, omega (arith, r.1), r.2)

one_place : (es : List (List ℕ)) (i j : ℕ) (t : List ℕ) → IsStrictlySortedBy (slice_cmp nat_cmp) es → slice_get es i ≡ Some t → slice_get es j ≡ Some t → i ≡ j
unfolding IsStrictlySortedBy
one_place [] i j t h p q = cc
one_place (e ∷ es) zero zero t h p q = refl
one_place (e ∷ es) zero (suc j) t h p q =
    let same : e ≡ t = cc in absurd (not_itself e (subst (λ (z : List ℕ). slice_cmp nat_cmp e z ≡ Less) (sym same) (less_in e t es h.0 (entry_in es j t q))))
one_place (e ∷ es) (suc i) zero t h p q =
    let same : e ≡ t = cc in absurd (not_itself e (subst (λ (z : List ℕ). slice_cmp nat_cmp e z ≡ Less) (sym same) (less_in e t es h.0 (entry_in es i t p))))
one_place (e ∷ es) (suc i) (suc j) t h p q = ap suc (one_place es i j t h.1 p q)

place_of : (es : List (List ℕ)) (n m : ℤ) (t : List ℕ) → IsStrictlySortedBy (slice_cmp nat_cmp) es → dictionary_entry es n ≡ Some t → dictionary_entry es m ≡ Some t → n ≡ m
place_of es (pos i) (pos j) t h p q = ap pos (one_place es i j t h p q)
place_of es (pos i) (negsuc j) t h p q = cc
place_of es (negsuc i) m t h p q = cc

one_places : (es texts : List (List ℕ)) (a b : List ℤ) → IsStrictlySortedBy (slice_cmp nat_cmp) es → AreNamed es a texts → AreNamed es b texts → a ≡ b
one_places es [] [] [] h p q = refl
one_places es [] [] (m ∷ b) h p q = cc
one_places es [] (n ∷ a) b h p q = cc
one_places es (t ∷ ts) [] b h p q = cc
one_places es (t ∷ ts) (n ∷ a) [] h p q = cc
one_places es (t ∷ ts) (n ∷ a) (m ∷ b) h p q =
    let x : dictionary_entry es n ≡ Some t = cc in
    let y : dictionary_entry es m ≡ Some t = cc in
    let xs : map (dictionary_entry es) a ≡ map Some ts = cc in
    let ys : map (dictionary_entry es) b ≡ map Some ts = cc in
    let first : n ≡ m = place_of es n m t h x y in
    let rest : a ≡ b = one_places es ts a b h xs ys in
    λ i. first i ∷ rest i

-- ---- one column

-- with the same marks, DATA, LENGTH and DICTIONARY_DATA
abbrev filled : Encoding → List ℕ → List ℕ → List ℕ → List ℕ → Written
filled e marks content lengths dictionary_data = record { encoding = e; marks = marks; content = content; lengths = lengths; dictionary_data = dictionary_data }

one_bits : (w v : Written) (a b : List Bool) → w.marks ≡ v.marks → a ≡ b → WritesBooleans w a → WritesBooleans v b → w ≡ v
one_bits w v a b m e p q =
    let content = one_bit_text b w.content v.content (subst (λ xs. IsBitTextOf xs w) e p.content_is) q.content_is in
    p.others ∙ (λ i. filled plain (m i) (content i) [] []) ∙ sym q.others
  where
    IsBitTextOf : List Bool → Written → Type 0
    IsBitTextOf xs u = AreMarksIf false xs u.content

one_bytes : (w v : Written) (a b : List ℕ) → w.marks ≡ v.marks → a ≡ b → HasBytes w a → HasBytes v b → w ≡ v
one_bytes w v a b m e p q =
    let r : HasBytes w b = subst (λ xs. HasBytes w xs) e p in
    let content = one_byte_text b w.content v.content r.content_is q.content_is in
    r.others ∙ (λ i. filled plain (m i) (content i) [] []) ∙ sym q.others

one_numbers : (rle : Rle) (w v : Written) (a b : List ℤ) → w.marks ≡ v.marks → a ≡ b → HasNumbers rle w a → HasNumbers rle v b → w ≡ v
one_numbers rle w v a b m e p q =
    let content = one_ints rle Signed a b w.content v.content e p.content_is q.content_is in
    p.others ∙ (λ i. filled (direct rle) (m i) (content i) [] []) ∙ sym q.others

one_groups : (rle : Rle) (w v : Written) (a b : List (List ℕ)) → w.marks ≡ v.marks → a ≡ b → HasStrings rle w a → HasStrings rle v b → w ≡ v
one_groups rle w v a b m e p q =
    let content : w.content ≡ v.content = p.content_is ∙ ap concatenated e ∙ sym q.content_is in
    let lengths = one_ints rle Unsigned (map size a) (map size b) w.lengths v.lengths (ap (map size) e) p.lengths_are q.lengths_are in
    p.others ∙ (λ i. filled (direct rle) (m i) (content i) (lengths i) []) ∙ sym q.others

one_sizes : (rle : Rle) (w v : Written) (a : List ℤ) → w.marks ≡ v.marks → HasSizes rle w a → HasSizes rle v a → w ≡ v
one_sizes rle w v a m p q =
    let lengths = one_ints rle Unsigned a a w.lengths v.lengths refl p.lengths_are q.lengths_are in
    p.others ∙ (λ i. filled (direct rle) (m i) [] (lengths i) []) ∙ sym q.others

one_words : (rle : Rle) (w v : Written) (entries texts : List (List ℕ)) → w.marks ≡ v.marks → IsStrictlySortedBy (slice_cmp nat_cmp) entries → HasDictionary rle w entries texts → HasDictionary rle v entries texts → w ≡ v
one_words rle w v entries texts m ascend p q =
    let places = one_places entries texts p.places q.places ascend p.named q.named in
    let content = one_ints rle Unsigned p.places q.places w.content v.content places p.content_is q.content_is in
    let lengths = one_ints rle Unsigned (map size entries) (map size entries) w.lengths v.lengths refl p.lengths_are q.lengths_are in
    let dictionary_data : w.dictionary_data ≡ v.dictionary_data = p.dictionary_data_is ∙ sym q.dictionary_data_is in
    let encoded : w.encoding ≡ v.encoding = p.encoded ∙ sym q.encoded in
    λ i. filled (encoded i) (m i) (content i) (lengths i) (dictionary_data i)

texts_if : (t : Bool) (rle : Rle) (w v : Written) (entries texts : List (List ℕ)) → w.marks ≡ v.marks → IsStrictlySortedBy (slice_cmp nat_cmp) entries → HasTextsIf t rle w entries texts → HasTextsIf t rle v entries texts → w ≡ v
texts_if true rle w v entries texts m ascend p q = one_words rle w v entries texts m ascend p q
texts_if false rle w v entries texts m ascend p q = one_groups rle w v texts texts m refl p q

one_texts : (rle : Rle) (w v : Written) (a b : List (List ℕ)) → w.marks ≡ v.marks → a ≡ b → HasTexts rle w a → HasTexts rle v b → w ≡ v
one_texts rle w v a b m e p q =
    let r : HasTexts rle w b = subst (λ xs. HasTexts rle w xs) e p in
    let same : r.entries ≡ q.entries = one_distinct b r.entries q.entries r.distinct q.distinct in
    let written : HasTextsIf (is_worth (length q.entries) (length b)) rle w q.entries b = subst (λ (es : List (List ℕ)). HasTextsIf (is_worth (length es) (length b)) rle w es b) same r.written in
    texts_if (is_worth (length q.entries) (length b)) rle w v q.entries b m q.distinct.ascend written q.written

one_scalar : (rle : Rle) (k : Scalar) (w v : Written) (vs : List Cell) → w.marks ≡ v.marks → WritesScalar rle w k vs → WritesScalar rle v k vs → w ≡ v
one_scalar rle kind.Boolean w v vs m p q = one_bits w v p.0 q.0 m (one_stood IsBool stood_bool p.0 q.0 vs p.1 q.1) p.2 q.2
one_scalar rle kind.Byte w v vs m p q = one_bytes w v p.0 q.0 m (one_stood IsByte stood_byte p.0 q.0 vs p.1 q.1) p.2 q.2
one_scalar rle kind.Short w v vs m p q = one_numbers rle w v p.0 q.0 m (one_stood (IsInt kind.Short) (stood_int kind.Short) p.0 q.0 vs p.1 q.1) p.2 q.2
one_scalar rle kind.Int w v vs m p q = one_numbers rle w v p.0 q.0 m (one_stood (IsInt kind.Int) (stood_int kind.Int) p.0 q.0 vs p.1 q.1) p.2 q.2
one_scalar rle kind.Long w v vs m p q = one_numbers rle w v p.0 q.0 m (one_stood (IsInt kind.Long) (stood_int kind.Long) p.0 q.0 vs p.1 q.1) p.2 q.2
one_scalar rle kind.Date w v vs m p q = one_numbers rle w v p.0 q.0 m (one_stood IsDate stood_date p.0 q.0 vs p.1 q.1) p.2 q.2
one_scalar rle kind.String w v vs m p q = one_texts rle w v p.0 q.0 m (one_stood IsText stood_text p.0 q.0 vs p.1 q.1) p.2 q.2
one_scalar rle kind.Binary w v vs m p q = one_groups rle w v p.0 q.0 m (one_stood IsBinary stood_binary p.0 q.0 vs p.1 q.1) p.2 q.2

one_values : (rle : Rle) (s : Shape) (w v : Written) (vs : List Cell) → w.marks ≡ v.marks → WritesValues rle w s vs → WritesValues rle v s vs → w ≡ v
one_values rle (scalar k o) w v vs m p q = one_scalar rle k w v vs m p q
one_values rle (list_of s o) w v vs m p q = one_sizes rle w v (map (λ x. size (parts x)) vs) m p q
one_values rle (map_of key value o) w v vs m p q = one_sizes rle w v (map (λ x. size (pairs_in x)) vs) m p q
one_values rle (struct_of fs o) w v vs m p q = p ∙ (λ i. filled plain (m i) [] [] []) ∙ sym q

one_column : (rle : Rle) (s : Shape) (column : List Cell) (w v : Written) → IsWrittenColumn rle s column w → IsWrittenColumn rle s column v → w ≡ v
one_column rle s column w v p q =
    let marks = marks_if (list_all (λ m. m) (map is_value column)) (map is_value column) w.marks v.marks p.marks q.marks in
    one_values rle s w v (values column) marks p.written q.written

-- ---- the columns

pub one_columns : (rle : Rle) (s : Shape) (rows : List Cell) (c : ℕ) (ws vs : List Written) → length ws ≡ length vs → AreWrittenColumns rle s rows c ws → AreWrittenColumns rle s rows c vs → ws ≡ vs
one_columns rle s rows c [] [] l p q = refl
one_columns rle s rows c [] (v ∷ vs) l p q = absurd (omega (arith, l))
one_columns rle s rows c (w ∷ ws) [] l p q = absurd (omega (arith, l))
one_columns rle s rows c (w ∷ ws) (v ∷ vs) l p q =
    let first : w ≡ v = one_column rle (shape_at s c) (cells s c rows) w v p.0 q.0 in
    let rest : ws ≡ vs = one_columns rle s rows (suc c) ws vs (omega (arith, l)) p.1 q.1 in
    λ i. first i ∷ rest i
