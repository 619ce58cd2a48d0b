-- Readers at the start of their streams spell what the streams spell.
use Rattle.std.proofs.Common.{◌≡◌, ℕ, suc, ◌+◌, ℤ, Bool, true, false, Option, Some, None, List, [], ◌∷◌, ◌++◌, map, take, drop, sym, ap, ◌∙◌, subst, arith}
use Rattle.orc_values.specs.Cells.{Cell, is_value, values}
use Rattle.orc_values.specs.Shapes.{Shape, scalar, list_of, map_of, struct_of, Fields, no_field, field, width}
use Rattle.orc_values.specs.declared.kind.Scalar.{Scalar}
use Rattle.orc_values.specs.declared.kind.Scalar.TheVariants as kind
use Rattle.orc_rle.specs.declared.sign.Sign.{Sign}
use Rattle.orc_rle.specs.declared.sign.Sign.TheVariants.{Signed, Unsigned}
use Rattle.orc_rle.specs.declared.sign.Rle.{Rle}
use Rattle.orc_column_reader.specs.declared.bits.Bits.{Bits}
use Rattle.orc_column_reader.specs.declared.bytes.RunLengthBytes.{RunLengthBytes}
use Rattle.orc_column_reader.specs.declared.numbers.Numbers.{Numbers}
use Rattle.orc_column_reader.specs.declared.entry.Entry.{Entry}
use Rattle.orc_column_reader.specs.declared.column.ValueSource.{ValueSource}
use Rattle.orc_column_reader.specs.declared.column.ColumnReader.{ColumnReader}
use Rattle.orc_column_reader.specs.Spellings.{Nullable, Standing, size, concatenated, Sized, Within, Paired, Fielded}
use Rattle.orc_column_reader.specs.Numbers.{AreNumbers, NumbersLeft}
use Rattle.orc_rle.specs.BitStream.{IsBitStream}
use Rattle.orc_column_reader.specs.Bytes.{AreBytes, BytesLeft}
use Rattle.orc_column_reader.specs.Bits.{BitsLeft}
use Rattle.orc_column_reader.proofs.BitsLemmas.{are_bits, held_bits}
use Rattle.orc_column_reader.specs.Octets.{OctetsLeft}
use Rattle.orc_column_reader.specs.Columns.{MarksLeft, StringsLeft, TextsLeft, ScalarLeft, ValuesLeft, FieldsLeft, CellsLeft, entry_bytes, IsBool, IsByte, IsInt, IsDate, IsText, IsBinary, IsEntry, IsList, IsMap, IsRecord}
use Rattle.orc_column_reader.specs.Stripe.{Streams, version, has_dictionary, Marks, Is, IsDictionary, SpellsTexts, SpellsInts, SpellsScalar, SpellsTree, SpellsFields, SpellsCells}
use Rattle.orc_values.specs.Limits.{most_cells}
use Rattle.orc_column_reader.specs.Starting.{NumbersStart, BytesStart, BitsStart, MarksStart, StringsStart, TextsStart, ScalarStart, TreeStart, FieldsStart}
use Rattle.std.specs.declared.vec.Vec.{Vec}
use Rattle.std.specs.declared.alloc.Global.{Global}
use Rattle.orc_column_reader.proofs.OneRows.{one_dictionary}

-- what is spelled here is spelled there, and the other way round
pub record Alike {X : Type 0} (a b : List X → Type 0) : Type 0 where
  pub to : (xs : List X) → a xs → b xs
  pub from : (xs : List X) → b xs → a xs

standing_alike : {X Y : Type 0} (stands : X → Y → Type 0) (a b : List X → Type 0) → Alike a b → Alike (Standing stands a) (Standing stands b)
standing_alike stands a b p = record { to = λ xs r. (r.0, r.1, p.to r.0 r.2); from = λ xs r. (r.0, r.1, p.from r.0 r.2) }

grouped_alike : {X : Type 0} (a b : List ℤ → Type 0) (c d : List X → Type 0) → Alike a b → Alike c d → Alike (Sized a c) (Sized b d)
grouped_alike a b c d p q = record { to = λ xs r. (p.to (map size xs) r.0, q.to (concatenated xs) r.1); from = λ xs r. (p.from (map size xs) r.0, q.from (concatenated xs) r.1) }

nullable_alike : (a b : List Bool → Type 0) (c d : List Cell → Type 0) → Alike a b → Alike c d → Alike (Nullable a c) (Nullable b d)
nullable_alike a b c d p q = record { to = λ xs r. (p.to (map is_value xs) r.0, q.to (values xs) r.1); from = λ xs r. (p.from (map is_value xs) r.0, q.from (values xs) r.1) }

within_alike : {X : Type 0} (m n : ℕ) (c d : List X → Type 0) → m ≡ n → Alike c d → Alike (Within m c) (Within n d)
within_alike m n c d e q = record { to = λ xs r. (omega (arith, r.0, e), q.to xs r.1); from = λ xs r. (omega (arith, r.0, e), q.from xs r.1) }

paired_alike : {X Y : Type 0} (a b : List X → Type 0) (c d : List Y → Type 0) → Alike a b → Alike c d → Alike (Paired a c) (Paired b d)
paired_alike {X = X} {Y = Y} a b c d p q =
    let f : X × Y → X = λ t. t.0 in
    let g : X × Y → Y = λ t. t.1 in
    record { to = λ xs r. (p.to (map f xs) r.0, q.to (map g xs) r.1); from = λ xs r. (p.from (map f xs) r.0, q.from (map g xs) r.1) }

fielded_alike : {X : Type 0} (a b : List X → Type 0) (c d : List (List X) → Type 0) → Alike a b → Alike c d → Alike (Fielded a c) (Fielded b d)
fielded_alike a b c d p q = record {
  to = λ xs r. record { heads = r.heads; tails = r.tails; alike = r.alike; parts = r.parts; first_spelled = p.to r.heads r.first_spelled; others_spelled = q.to r.tails r.others_spelled };
  from = λ xs r. record { heads = r.heads; tails = r.tails; alike = r.alike; parts = r.parts; first_spelled = p.from r.heads r.first_spelled; others_spelled = q.from r.tails r.others_spelled };
}

pub numbers_alike : (v : Rle) (sign : Sign) (bytes : List ℕ) (r : Numbers) → NumbersStart v sign bytes r → Alike (NumbersLeft r) (AreNumbers v sign bytes)
numbers_alike v sign bytes r s =
    let d : drop r.used r.run.values ≡ [] = ap (λ n. drop n r.run.values) s.unused ∙ s.no_run in
    let b : drop r.at r.bytes.now ≡ bytes = ap (λ n. drop n r.bytes.now) s.at_start ∙ s.bytes_are in
    record {
      to = λ all h.
          let k = subst (λ w. AreNumbers w r.sign (drop r.at r.bytes.now) h.0) s.version_is h.2 in
          let l = subst (λ g. AreNumbers v g (drop r.at r.bytes.now) h.0) s.sign_is k in
          let m = subst (λ t. AreNumbers v sign t h.0) b l in
          subst (λ t. AreNumbers v sign bytes t) (sym (h.1 ∙ ap (λ t. t ++ h.0) d)) m;
      from = λ all h.
          let k = subst (λ t. AreNumbers v sign t all) (sym b) h in
          let l = subst (λ g. AreNumbers v g (drop r.at r.bytes.now) all) (sym s.sign_is) k in
          let m = subst (λ w. AreNumbers w r.sign (drop r.at r.bytes.now) all) (sym s.version_is) l in
          (all, sym (ap (λ t. t ++ all) d), m);
    }

bytes_alike : (bytes : List ℕ) (r : RunLengthBytes) → BytesStart bytes r → Alike (BytesLeft r) (AreBytes bytes)
bytes_alike bytes r s =
    let d : drop r.used r.run.values ≡ [] = ap (λ n. drop n r.run.values) s.unused ∙ s.no_run in
    let b : drop r.at r.bytes.now ≡ bytes = ap (λ n. drop n r.bytes.now) s.at_start ∙ s.bytes_are in
    record {
      to = λ all h. subst (λ t. AreBytes bytes t) (sym (h.1 ∙ ap (λ t. t ++ h.0) d)) (subst (λ t. AreBytes t h.0) b h.2);
      from = λ all h. (all, sym (ap (λ t. t ++ all) d), subst (λ t. AreBytes t all) (sym b) h);
    }

bits_alike : (bytes : List ℕ) (r : Bits) → BitsStart bytes r → Alike (BitsLeft r) (IsBitStream bytes)
bits_alike bytes r s =
    let a = bytes_alike bytes r.bytes s.runs in
    record {
      to = λ all h. are_bits bytes h.packed r.held r.left h.spare all s.none_left (a.to h.packed h.spelled) h.few h.digits_are;
      from = λ all h.
          let k = held_bits h.packed r.held r.left all s.none_left h.held in
          record { packed = h.packed; spelled = a.from h.packed h.runs; spare = k.spare; few = k.few; digits_are = k.digits_are };
    }

pub marks_alike : (bytes : List ℕ) (r : Option Bits) → MarksStart bytes r → Alike (MarksLeft r) (Marks bytes)
marks_alike [] None s = record { to = λ all h. h; from = λ all h. h }
marks_alike [] (Some bits) s = absurd s
marks_alike (b ∷ bs) None s = absurd s
marks_alike (b ∷ bs) (Some bits) s = bits_alike (b ∷ bs) bits s

octets_alike : (bytes rest : List ℕ) → rest ≡ bytes → Alike (Is rest) (Is bytes)
octets_alike bytes rest e = record { to = λ all h. h ∙ e; from = λ all h. h ∙ sym e }

groups_alike : (x : Streams) (r : ValueSource) → StringsStart x r → Alike (StringsLeft r) (Sized (AreNumbers (version x) Unsigned (x.stream 2)) (Is (x.stream 1)))
groups_alike x r s = grouped_alike (NumbersLeft r.numbers) (AreNumbers (version x) Unsigned (x.stream 2)) (OctetsLeft r.octets) (Is (x.stream 1)) (numbers_alike (version x) Unsigned (x.stream 2) r.numbers s.0) (octets_alike (x.stream 1) r.octets.rest.now s.1)

words_alike : (x : Streams) (entries : List (List ℕ)) (r : ValueSource) → IsDictionary x entries → NumbersStart (version x) Unsigned (x.stream 1) r.numbers → Alike (Standing (IsEntry entries) (NumbersLeft r.numbers)) (SpellsTexts x true)
words_alike x entries r d s =
    let n = numbers_alike (version x) Unsigned (x.stream 1) r.numbers s in
    record {
      to = λ all h. (entries, d, (h.0, h.1, n.to h.0 h.2));
      from = λ all h.
          let e = one_dictionary x h.0 entries h.1 d in
          let k = subst (λ t. Standing (IsEntry t) (AreNumbers (version x) Unsigned (x.stream 1)) all) e h.2 in
          (k.0, k.1, n.from k.0 k.2);
    }

texts_alike : (x : Streams) (dictionary : Bool) (entries : Option (Vec Entry Global)) (r : ValueSource) → TextsStart dictionary x entries r → Alike (TextsLeft entries r) (SpellsTexts x dictionary)
texts_alike x true None r s = absurd s
texts_alike x true (Some entries) r s = words_alike x (map entry_bytes entries.items) r s.0 s.1
texts_alike x false None r s = standing_alike IsText (StringsLeft r) (Sized (AreNumbers (version x) Unsigned (x.stream 2)) (Is (x.stream 1))) (groups_alike x r s)
texts_alike x false (Some entries) r s = absurd s

ints_alike : (k : Scalar) (x : Streams) (r : ValueSource) → NumbersStart (version x) Signed (x.stream 1) r.numbers → Alike (Standing (IsInt k) (NumbersLeft r.numbers)) (SpellsInts k x)
ints_alike k x r s = standing_alike (IsInt k) (NumbersLeft r.numbers) (AreNumbers (version x) Signed (x.stream 1)) (numbers_alike (version x) Signed (x.stream 1) r.numbers s)

pub scalar_alike : (k : Scalar) (x : Streams) (r : ValueSource) → ScalarStart k x r → Alike (ScalarLeft k r) (SpellsScalar k x)
scalar_alike kind.Boolean x r s = standing_alike IsBool (BitsLeft r.bits) (IsBitStream (x.stream 1)) (bits_alike (x.stream 1) r.bits s)
scalar_alike kind.Byte x r s = standing_alike IsByte (BytesLeft r.bytes) (AreBytes (x.stream 1)) (bytes_alike (x.stream 1) r.bytes s)
scalar_alike kind.Short x r s = ints_alike kind.Short x r s
scalar_alike kind.Int x r s = ints_alike kind.Int x r s
scalar_alike kind.Long x r s = ints_alike kind.Long x r s
scalar_alike kind.Date x r s = standing_alike IsDate (NumbersLeft r.numbers) (AreNumbers (version x) Signed (x.stream 1)) (numbers_alike (version x) Signed (x.stream 1) r.numbers s)
scalar_alike kind.Binary x r s = standing_alike IsBinary (StringsLeft r) (Sized (AreNumbers (version x) Unsigned (x.stream 2)) (Is (x.stream 1))) (groups_alike x r s)
scalar_alike kind.String x r s = texts_alike x (has_dictionary x) r.entries r s

mutual
  pub tree_alike : (s : Shape) (x : ℕ → Streams) (rs : List ColumnReader) → TreeStart s x rs → Alike (CellsLeft s rs) (SpellsCells s x)
  tree_alike s x [] h = absurd h
  tree_alike (scalar k o) x (r ∷ rs) h =
      nullable_alike (MarksLeft r.present) (Marks ((x 0).stream 0)) (ScalarLeft k r.source) (SpellsScalar k (x 0)) (marks_alike ((x 0).stream 0) r.present h.0) (scalar_alike k (x 0) r.source h.1)
  tree_alike (list_of s o) x (r ∷ rs) h =
      nullable_alike (MarksLeft r.present) (Marks ((x 0).stream 0)) (ValuesLeft (list_of s o) r.source rs) (SpellsTree (list_of s o) x) (marks_alike ((x 0).stream 0) r.present h.0.0)
      (standing_alike IsList (Sized (NumbersLeft r.source.numbers) (Within r.source.room (CellsLeft s rs))) (Sized (AreNumbers (version (x 0)) Unsigned ((x 0).stream 2)) (Within most_cells (SpellsCells s (λ c. x (suc c)))))
      (grouped_alike (NumbersLeft r.source.numbers) (AreNumbers (version (x 0)) Unsigned ((x 0).stream 2)) (Within r.source.room (CellsLeft s rs)) (Within most_cells (SpellsCells s (λ c. x (suc c))))
      (numbers_alike (version (x 0)) Unsigned ((x 0).stream 2) r.source.numbers h.0.1.0) (within_alike r.source.room most_cells (CellsLeft s rs) (SpellsCells s (λ c. x (suc c))) h.0.1.1 (tree_alike s (λ c. x (suc c)) rs h.1))))
  tree_alike (map_of k v o) x (r ∷ rs) h =
      let sizes = AreNumbers (version (x 0)) Unsigned ((x 0).stream 2) in
      let left = Paired (CellsLeft k (take (width k) rs)) (CellsLeft v (drop (width k) rs)) in
      let spelled = Paired (SpellsCells k (λ c. x (suc c))) (SpellsCells v (λ c. x (suc (width k + c)))) in
      nullable_alike (MarksLeft r.present) (Marks ((x 0).stream 0)) (ValuesLeft (map_of k v o) r.source rs) (SpellsTree (map_of k v o) x) (marks_alike ((x 0).stream 0) r.present h.0.0)
      (standing_alike IsMap (Sized (NumbersLeft r.source.numbers) (Within r.source.room left)) (Sized sizes (Within most_cells spelled))
      (grouped_alike (NumbersLeft r.source.numbers) sizes (Within r.source.room left) (Within most_cells spelled)
      (numbers_alike (version (x 0)) Unsigned ((x 0).stream 2) r.source.numbers h.0.1.0) (within_alike r.source.room most_cells left spelled h.0.1.1
      (paired_alike (CellsLeft k (take (width k) rs)) (SpellsCells k (λ c. x (suc c))) (CellsLeft v (drop (width k) rs)) (SpellsCells v (λ c. x (suc (width k + c))))
      (tree_alike k (λ c. x (suc c)) (take (width k) rs) h.1) (tree_alike v (λ c. x (suc (width k + c))) (drop (width k) rs) h.2)))))
  tree_alike (struct_of fs o) x (r ∷ rs) h =
      nullable_alike (MarksLeft r.present) (Marks ((x 0).stream 0)) (ValuesLeft (struct_of fs o) r.source rs) (SpellsTree (struct_of fs o) x) (marks_alike ((x 0).stream 0) r.present h.0.0)
      (standing_alike IsRecord (FieldsLeft fs rs) (SpellsFields fs (λ c. x (suc c))) (fields_alike fs (λ c. x (suc c)) rs h.1))

  pub fields_alike : (fs : Fields) (x : ℕ → Streams) (rs : List ColumnReader) → FieldsStart fs x rs → Alike (FieldsLeft fs rs) (SpellsFields fs x)
  fields_alike no_field x rs h = record { to = λ all r. r; from = λ all r. r }
  fields_alike (field name s fs) x rs h =
      fielded_alike (CellsLeft s (take (width s) rs)) (SpellsCells s x) (FieldsLeft fs (drop (width s) rs)) (SpellsFields fs (λ c. x (width s + c))) (tree_alike s x (take (width s) rs) h.0) (fields_alike fs (λ c. x (width s + c)) (drop (width s) rs) h.1)
