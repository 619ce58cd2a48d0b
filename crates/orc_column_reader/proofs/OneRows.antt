-- Streams spell at most one list of so many cells.
use Rattle.std.proofs.Common.{◌≡◌, ℕ, suc, ◌+◌, ℤ, Bool, true, false, List, [], ◌∷◌, map, length, refl, sym, ap, ◌∙◌, subst, arith, append-nil}
use Rattle.std.specs.List.{AllByRecursion, AllZip}
use Rattle.std.proofs.lemmas.List.{length-map}
use Rattle.orc_values.specs.Cells.{Cell, is_value, values}
use Rattle.orc_values.specs.Shapes.{Shape, scalar, list_of, map_of, struct_of, Fields, no_field, field, width}
use Rattle.orc_values.specs.declared.kind.Scalar.{Scalar}
use Rattle.orc_values.specs.declared.kind.Scalar.TheVariants as kind
use Rattle.orc_values.specs.Trues.{trues}
use Rattle.orc_rle.specs.declared.sign.Sign.{Sign}
use Rattle.orc_rle.specs.declared.sign.Sign.TheVariants.{Signed, Unsigned}
use Rattle.orc_rle.proofs.StreamLemmas.{one_stream}
use Rattle.orc_rle.specs.declared.sign.Rle.{Rle}
use Rattle.orc_column_reader.specs.Spellings.{Nullable, Standing, size, concatenated, Sized, Within, Paired, zip_cons, Fielded}
use Rattle.orc_column_reader.specs.Numbers.{is_run, AreNumbers}
use Rattle.orc_column_reader.specs.Bytes.{AreBytes}
use Rattle.orc_rle.specs.ByteRun.{IsByteRun}
use Rattle.orc_rle.proofs.ByteLaws.{one_byte_run, byte_run_some}
use Rattle.orc_rle.specs.BitStream.{IsBitStream}
use Rattle.orc_column_reader.specs.Columns.{IsBool, IsByte, IsInt, IsDate, IsText, IsBinary, IsEntry, IsList, IsMap, IsRecord}
use Rattle.orc_column_reader.specs.Stripe.{Streams, version, Marks, Is, IsDictionary, SpellsScalar, SpellsTexts, SpellsInts, SpellsTree, SpellsFields, SpellsCells, has_dictionary}
use Rattle.orc_values.specs.Limits.{most_cells}
use Rattle.orc_column_reader.proofs.Fronts.{same_pairs, length-zip, stand_length, one_standing, same_groups, joined_length, length-values}
use Rattle.orc_column_reader.proofs.NumbersLemmas.{laws_of}
use Rattle.orc_column_reader.proofs.BitsLemmas.{one_bit_stream}
use Rattle.orc_column_reader.proofs.ReaderLemmas.{one_bool, one_byte, one_int, one_date, one_text, one_binary, one_word, one_list, one_map, one_record}
use Rattle.orc_values.proofs.Together.{same_cells}

abbrev pub One : {X : Type 0} → (List X → Type 0) → Type 0
One {X = X} spelled = (a b : List X) → spelled a → spelled b → length a ≡ length b → a ≡ b

one_numbers : (v : Rle) (sign : Sign) (bytes : List ℕ) → One (AreNumbers v sign bytes)
one_numbers v sign bytes a b p q l = one_stream (is_run v sign) (laws_of v sign).one (laws_of v sign).some bytes a b p q

pub one_marks : (bytes : List ℕ) → One (Marks bytes)
one_marks [] a b p q l = p ∙ (rw l refl ∙ sym q)
one_marks (x ∷ bytes) a b p q l = one_bit_stream (x ∷ bytes) a b l p q

pub one_nullable : (marks : List Bool → Type 0) (found : List Cell → Type 0) → One marks → One found → One (Nullable marks found)
one_nullable marks found m f a b p q l =
    let e = m (map is_value a) (map is_value b) p.0 q.0 (length-map a is_value ∙ l ∙ sym (length-map b is_value)) in
    same_cells a b e (f (values a) (values b) p.1 q.1 (length-values a ∙ ap trues e ∙ sym (length-values b)))

pub one_standings : {X : Type 0} (stands : X → Cell → Type 0) (spelled : List X → Type 0) → ((x : X) (y z : Cell) → stands x y → stands x z → y ≡ z) → One spelled → One (Standing stands spelled)
one_standings stands spelled f one a b p q l =
    let e = one p.0 q.0 p.2 q.2 (stand_length stands p.0 a p.1 ∙ l ∙ sym (stand_length stands q.0 b q.1)) in
    one_standing stands f q.0 a b (subst (λ t. AllZip stands t a) e p.1) q.1

pub one_grouped : {X : Type 0} (sizes : List ℤ → Type 0) (elements : List X → Type 0) → One sizes → One elements → One (Sized sizes elements)
one_grouped sizes elements s f a b p q l =
    let e = s (map size a) (map size b) p.0 q.0 (length-map a size ∙ l ∙ sym (length-map b size)) in
    let j = f (concatenated a) (concatenated b) p.1 q.1 (joined_length a b e) in
    (same_groups a b [] [] e (append-nil (concatenated a) ∙ j ∙ sym (append-nil (concatenated b)))).0

pub one_fielded : {X : Type 0} (first : List X → Type 0) (others : List (List X) → Type 0) → One first → One others → ((h : List X) (t : List (List X)) → length h ≡ length t → length (zip_cons h t) ≡ length h) → One (Fielded first others)
one_fielded first others f o z a b p q l =
    let n = sym (z p.heads p.tails p.alike) ∙ sym (ap length p.parts) ∙ l ∙ ap length q.parts ∙ z q.heads q.tails q.alike in
    let h = f p.heads q.heads p.first_spelled q.first_spelled n in
    let t = o p.tails q.tails p.others_spelled q.others_spelled (sym p.alike ∙ n ∙ q.alike) in
    p.parts ∙ ap (λ s. zip_cons s p.tails) h ∙ ap (λ s. zip_cons q.heads s) t ∙ sym q.parts

pub one_paired : {X Y : Type 0} (first : List X → Type 0) (second : List Y → Type 0) → One first → One second → One (Paired first second)
one_paired {X = X} {Y = Y} first second f g a b p q l =
    let h : X × Y → X = λ t. t.0 in
    let k : X × Y → Y = λ t. t.1 in
    same_pairs a b (f (map h a) (map h b) p.0 q.0 (length-map a h ∙ l ∙ sym (length-map b h))) (g (map k a) (map k b) p.1 q.1 (length-map a k ∙ l ∙ sym (length-map b k)))

pub one_within : {X : Type 0} (room : ℕ) (elements : List X → Type 0) → One elements → One (Within room elements)
one_within room elements one a b p q l = one a b p.1 q.1 l

one_is : (bytes : List ℕ) → One (Is bytes)
one_is bytes a b p q l = p ∙ sym q

one_groups : (x : Streams) (lengths bytes : List ℕ) → One (Sized (AreNumbers (version x) Unsigned lengths) (Is bytes))
one_groups x lengths bytes = one_grouped (AreNumbers (version x) Unsigned lengths) (Is bytes) (one_numbers (version x) Unsigned lengths) (one_is bytes)

pub one_dictionary : (x : Streams) (a b : List (List ℕ)) → IsDictionary x a → IsDictionary x b → a ≡ b
one_dictionary x a b p q = one_groups x (x.stream 2) (x.stream 3) a b p.spelled q.spelled (p.counted ∙ sym q.counted)

one_texts : (x : Streams) (dictionary : Bool) → One (SpellsTexts x dictionary)
one_texts x true a b p q l =
    let e = one_dictionary x p.0 q.0 p.1 q.1 in
    one_standings (IsEntry q.0) (AreNumbers (version x) Unsigned (x.stream 1)) (one_word q.0) (one_numbers (version x) Unsigned (x.stream 1)) a b (subst (λ t. Standing (IsEntry t) (AreNumbers (version x) Unsigned (x.stream 1)) a) e p.2) q.2 l
one_texts x false a b p q l = one_standings IsText (Sized (AreNumbers (version x) Unsigned (x.stream 2)) (Is (x.stream 1))) one_text (one_groups x (x.stream 2) (x.stream 1)) a b p q l

one_ints : (k : Scalar) (x : Streams) → One (SpellsInts k x)
one_ints k x = one_standings (IsInt k) (AreNumbers (version x) Signed (x.stream 1)) (one_int k) (one_numbers (version x) Signed (x.stream 1))

one_bits : (bytes : List ℕ) → One (IsBitStream bytes)
one_bits bytes a b p q l = one_bit_stream bytes a b l p q

one_bytes : (bytes : List ℕ) → One (AreBytes bytes)
one_bytes bytes a b p q l = one_stream IsByteRun one_byte_run byte_run_some bytes a b p q

one_scalar : (k : Scalar) (x : Streams) → One (SpellsScalar k x)
one_scalar kind.Boolean x = one_standings IsBool (IsBitStream (x.stream 1)) one_bool (one_bits (x.stream 1))
one_scalar kind.Byte x = one_standings IsByte (AreBytes (x.stream 1)) one_byte (one_bytes (x.stream 1))
one_scalar kind.Short x = one_ints kind.Short x
one_scalar kind.Int x = one_ints kind.Int x
one_scalar kind.Long x = one_ints kind.Long x
one_scalar kind.Date x = one_standings IsDate (AreNumbers (version x) Signed (x.stream 1)) one_date (one_numbers (version x) Signed (x.stream 1))
one_scalar kind.Binary x = one_standings IsBinary (Sized (AreNumbers (version x) Unsigned (x.stream 2)) (Is (x.stream 1))) one_binary (one_groups x (x.stream 2) (x.stream 1))
one_scalar kind.String x = one_texts x (has_dictionary x)

pub one_empty : One {X = List Cell} (λ structs. AllByRecursion (λ cells. cells ≡ []) structs)
one_empty [] [] p q l = refl
one_empty [] (b ∷ bs) p q l = absurd (omega (arith, l))
one_empty (a ∷ rest) [] p q l = absurd (omega (arith, l))
one_empty (a ∷ rest) (b ∷ bs) p q l = ap (λ t. t ∷ rest) (p.0 ∙ sym q.0) ∙ ap (λ t. b ∷ t) (one_empty rest bs p.1 q.1 (omega (arith, l)))

mutual
  one_tree : (s : Shape) (x : ℕ → Streams) → One (SpellsTree s x)
  one_tree (scalar k o) x = one_scalar k (x 0)
  one_tree (list_of s o) x = one_standings IsList (Sized (AreNumbers (version (x 0)) Unsigned ((x 0).stream 2)) (Within most_cells (SpellsCells s (λ c. x (suc c))))) one_list
      (one_grouped (AreNumbers (version (x 0)) Unsigned ((x 0).stream 2)) (Within most_cells (SpellsCells s (λ c. x (suc c)))) (one_numbers (version (x 0)) Unsigned ((x 0).stream 2))
      (one_within most_cells (SpellsCells s (λ c. x (suc c))) (one_nullable (Marks ((x 1).stream 0)) (SpellsTree s (λ c. x (suc c))) (one_marks ((x 1).stream 0)) (one_tree s (λ c. x (suc c))))))
  one_tree (map_of k v o) x =
      let keys = SpellsCells k (λ c. x (suc c)) in
      let seconds = SpellsCells v (λ c. x (suc (width k + c))) in
      one_standings IsMap (Sized (AreNumbers (version (x 0)) Unsigned ((x 0).stream 2)) (Within most_cells (Paired keys seconds))) one_map
      (one_grouped (AreNumbers (version (x 0)) Unsigned ((x 0).stream 2)) (Within most_cells (Paired keys seconds)) (one_numbers (version (x 0)) Unsigned ((x 0).stream 2))
      (one_within most_cells (Paired keys seconds) (one_paired keys seconds
      (one_nullable (Marks ((x 1).stream 0)) (SpellsTree k (λ c. x (suc c))) (one_marks ((x 1).stream 0)) (one_tree k (λ c. x (suc c))))
      (one_nullable (Marks ((x (suc (width k + 0))).stream 0)) (SpellsTree v (λ c. x (suc (width k + c)))) (one_marks ((x (suc (width k + 0))).stream 0)) (one_tree v (λ c. x (suc (width k + c))))))))
  one_tree (struct_of fs o) x = one_standings IsRecord (SpellsFields fs (λ c. x (suc c))) one_record (one_fields fs (λ c. x (suc c)))

  one_fields : (fs : Fields) (x : ℕ → Streams) → One (SpellsFields fs x)
  one_fields no_field x = one_empty
  one_fields (field name s fs) x = one_fielded (SpellsCells s x) (SpellsFields fs (λ c. x (width s + c))) (one_nullable (Marks ((x 0).stream 0)) (SpellsTree s x) (one_marks ((x 0).stream 0)) (one_tree s x)) (one_fields fs (λ c. x (width s + c))) length-zip

pub one_cells : (s : Shape) (x : ℕ → Streams) → One (SpellsCells s x)
one_cells s x = one_nullable (Marks ((x 0).stream 0)) (SpellsTree s x) (one_marks ((x 0).stream 0)) (one_tree s x)
