-- Booleans, by the digits that are left.
use Rattle.std.proofs.Common.{◌≡◌, ℕ, zero, suc, ◌+◌, ◌*◌, ◌/◌, ◌%◌, ◌^◌, ◌<◌, ◌≤◌, Bool, true, false, List, [], ◌∷◌, ◌++◌, length, map, refl, sym, ap, ◌∙◌, subst, arith, length-append}
use Rattle.std.proofs.Math.Nat.{pow-succ', pow-le-pow_right, div-div-eq-div-mul, div-one, div-eq_of_lt}
use Rattle.std.proofs.lemmas.List.{length-map}
use Rattle.orc_bits.specs.Packed.{bits, digits, packed_len, IsPacked}
use Rattle.orc_bits.proofs.PackedLemmas.{length-bits, length-digits}
use Rattle.orc_rle.specs.BitStream.{digit, IsBitStream}
use Rattle.orc_rle.proofs.ByteLaws.{stream_bytes, one_byte_run, byte_run_some}
use Rattle.orc_rle.specs.ByteRun.{IsByteRun}
use Rattle.orc_rle.proofs.BitLaws.{one_held}
use Rattle.orc_rle.proofs.BitLemmas.{digits_one, digits_fit}
use Rattle.orc_rle.proofs.StreamLemmas.{one_stream}
use Rattle.orc_column_reader.specs.declared.bits.Bits.{Bits}
use Rattle.orc_column_reader.specs.declared.bytes.RunLengthBytes.{RunLengthBytes}
use Rattle.orc_column_reader.specs.Bits.{BitsLeft, BitsFirst}
use Rattle.orc_column_reader.specs.Bytes.{AreBytes, BytesLeft, BytesFirst}
use Rattle.orc_column_reader.specs.Fronts.{Leaves, Precedes, Lacks}

-- the highest digit of several, and the others
pub bits_head : (n w : ℕ) → bits n (suc w) ≡ (n / 2 ^ w % 2) ∷ bits n w
unfolding bits
bits_head n zero = ap (λ (m : ℕ). m % 2 ∷ []) (sym (div-one n))
bits_head n (suc w) =
    let half : n / 2 / 2 ^ w ≡ n / 2 ^ suc w = div-div-eq-div-mul n 2 (2 ^ w) ∙ ap (λ (m : ℕ). n / m) (sym (pow-succ' 2 w)) in
    ap (λ (t : List ℕ). t ++ (n % 2) ∷ []) (bits_head (n / 2) w ∙ ap (λ (m : ℕ). m % 2 ∷ bits (n / 2) w) half)

-- a byte has no digit above the eighth
pub no_higher : (b n : ℕ) → b < 256 → 8 ≤ n → digit false ≡ b / 2 ^ n % 2
no_higher b n small high =
    let most : 2 ^ 8 ≤ 2 ^ n = pow-le-pow_right {n = 2} (omega arith) high in
    let none : b / 2 ^ n ≡ 0 = div-eq_of_lt (omega (arith, small, most)) in
    ap (λ (m : ℕ). m % 2) (sym none)

digit_same : (a b : Bool) → digit a ≡ digit b → a ≡ b
digit_same true true e = refl
digit_same false false e = refl
digit_same true false e = absurd (omega (arith, e))
digit_same false true e = absurd (omega (arith, e))

heads_of : (a b : ℕ) (x y : List ℕ) → a ∷ x ≡ b ∷ y → (a ≡ b) × (x ≡ y)
heads_of a b x y e = (cc, cc)

-- ---- one boolean is read

pub next_digit : (r : Bits) (w : ℕ) (d : Bool) → r.left ≡ suc w → digit d ≡ r.held / 2 ^ w % 2 → Leaves (BitsLeft r) (BitsLeft (record { bytes = r.bytes; held = r.held; left = w })) (d ∷ [])
next_digit r w d is dig =
    let first : bits r.held r.left ≡ digit d ∷ bits r.held w = ap (bits r.held) is ∙ bits_head r.held w ∙ ap (λ (m : ℕ). m ∷ bits r.held w) (sym dig) in
    record {
      found = λ rest q. record {
        packed = q.packed;
        spelled = q.spelled;
        spare = q.spare;
        few = q.few;
        digits_are = ap (λ (t : List ℕ). t ++ digits 8 q.packed) first ∙ ap (λ (t : List ℕ). digit d ∷ t) q.digits_are;
      };
      only = λ all p le. digit_taken r w d first all p le;
    }
  where
    digit_taken : (r : Bits) (w : ℕ) (d : Bool) → bits r.held r.left ≡ digit d ∷ bits r.held w → (all : List Bool) → BitsLeft r all → 1 ≤ length all
        → (rest : List Bool) × (all ≡ d ∷ rest) × BitsLeft (record { bytes = r.bytes; held = r.held; left = w }) rest
    digit_taken r w d first [] p le = absurd (omega (arith, le))
    digit_taken r w d first (a ∷ all) p le =
        let e = heads_of (digit d) (digit a) (bits r.held w ++ digits 8 p.packed) (map digit all ++ p.spare) (sym (ap (λ (t : List ℕ). t ++ digits 8 p.packed) first) ∙ p.digits_are) in
        (all, ap (λ (t : Bool). t ∷ all) (sym (digit_same d a e.0)), record { packed = p.packed; spelled = p.spelled; spare = p.spare; few = p.few; digits_are = e.1 })

pub no_digit : (held left : ℕ) (rest : List ℕ) → left ≡ 0 → bits held left ++ rest ≡ rest
unfolding bits
no_digit held left rest is = rw is refl

digits_more : (b : ℕ) (bs : List ℕ) → digits 8 (b ∷ bs) ≡ bits b 8 ++ digits 8 bs
unfolding digits
digits_more b bs = refl

pub no_digits : digits 8 [] ≡ []
unfolding digits
no_digits = refl

-- the first digit of a byte that is read
pub first_digit : (r : Bits) (b : RunLengthBytes) (byte : ℕ) (d : Bool) → r.left ≡ 0 → Leaves (BytesLeft r.bytes) (BytesLeft b) (byte ∷ []) → digit d ≡ byte / 2 ^ 7 % 2
    → Leaves (BitsLeft r) (BitsLeft (record { bytes = b; held = byte; left = 7 })) (d ∷ [])
first_digit r b byte d none l dig =
    let first : bits byte 8 ≡ digit d ∷ bits byte 7 = bits_head byte 7 ∙ ap (λ (m : ℕ). m ∷ bits byte 7) (sym dig) in
    record {
      found = λ rest q. record {
        packed = byte ∷ q.packed;
        spelled = l.found q.packed q.spelled;
        spare = q.spare;
        few = q.few;
        digits_are = no_digit r.held r.left (digits 8 (byte ∷ q.packed)) none ∙ digits_more byte q.packed ∙ ap (λ (t : List ℕ). t ++ digits 8 q.packed) first ∙ ap (λ (t : List ℕ). digit d ∷ t) q.digits_are;
      };
      only = λ all p le. byte_taken r b byte d none l first all p.packed p.spelled p.spare p.few p.digits_are le;
    }
  where
    byte_taken : (r : Bits) (b : RunLengthBytes) (byte : ℕ) (d : Bool) → r.left ≡ 0 → Leaves (BytesLeft r.bytes) (BytesLeft b) (byte ∷ []) → bits byte 8 ≡ digit d ∷ bits byte 7
        → (all : List Bool) (packed : List ℕ) → BytesLeft r.bytes packed → (spare : List ℕ) → length spare < 8 → bits r.held r.left ++ digits 8 packed ≡ map digit all ++ spare → 1 ≤ length all
        → (rest : List Bool) × (all ≡ d ∷ rest) × BitsLeft (record { bytes = b; held = byte; left = 7 }) rest
    byte_taken r b byte d none l first [] packed sp spare few e le = absurd (omega (arith, le))
    byte_taken r b byte d none l first (a ∷ all) [] sp spare few e le =
        let k = sym no_digits ∙ sym (no_digit r.held r.left (digits 8 []) none) ∙ e in absurd cc
    byte_taken r b byte d none l first (a ∷ all) (x ∷ packed) sp spare few e le =
        let i = l.only (x ∷ packed) sp (omega arith) in
        let s = heads_of x byte packed i.0 i.1 in
        let f : digits 8 (x ∷ packed) ≡ digit d ∷ (bits byte 7 ++ digits 8 i.0) =
        ap (digits 8) i.1 ∙ digits_more byte i.0 ∙ ap (λ (t : List ℕ). t ++ digits 8 i.0) first in
        let h = heads_of (digit d) (digit a) (bits byte 7 ++ digits 8 i.0) (map digit all ++ spare) (sym f ∙ sym (no_digit r.held r.left (digits 8 (x ∷ packed)) none) ∙ e) in
        (all, ap (λ (t : Bool). t ∷ all) (sym (digit_same d a h.0)), record { packed = i.0; spelled = i.2; spare = spare; few = few; digits_are = h.1 })

pub no_byte : (r : Bits) → r.left ≡ 0 → Lacks (BytesLeft r.bytes) 1 → Lacks (BitsLeft r) 1
no_byte r none lacks = λ all p le. lacks p.packed p.spelled (omega (arith, le, length-bits r.held r.left, none, length-digits 8 p.packed, ap length p.digits_are, length-append (map digit all) p.spare, length-map all digit, length-append (bits r.held r.left) (digits 8 p.packed)))

pub digit_first : (r : Bits) (w : ℕ) (d : Bool) → r.left ≡ suc w → digit d ≡ r.held / 2 ^ w % 2 → Precedes (BitsFirst r) (BitsFirst (record { bytes = r.bytes; held = r.held; left = w })) (d ∷ [])
digit_first r w d is dig =
    let first : bits r.held r.left ≡ digit d ∷ bits r.held w = ap (bits r.held) is ∙ bits_head r.held w ∙ ap (λ (m : ℕ). m ∷ bits r.held w) (sym dig) in
    λ rest q. record {
      packed = q.packed;
      bytes = q.bytes;
      more = q.more;
      digits_are = ap (λ (t : List ℕ). t ++ digits 8 q.packed) first ∙ ap (λ (t : List ℕ). digit d ∷ t) q.digits_are;
    }

pub byte_first : (r : Bits) (b : RunLengthBytes) (byte : ℕ) (d : Bool) → r.left ≡ 0 → Precedes (BytesFirst r.bytes) (BytesFirst b) (byte ∷ []) → digit d ≡ byte / 2 ^ 7 % 2
    → Precedes (BitsFirst r) (BitsFirst (record { bytes = b; held = byte; left = 7 })) (d ∷ [])
byte_first r b byte d none l dig =
    let first : bits byte 8 ≡ digit d ∷ bits byte 7 = bits_head byte 7 ∙ ap (λ (m : ℕ). m ∷ bits byte 7) (sym dig) in
    λ rest q. record {
      packed = byte ∷ q.packed;
      bytes = l q.packed q.bytes;
      more = q.more;
      digits_are = no_digit r.held r.left (digits 8 (byte ∷ q.packed)) none ∙ digits_more byte q.packed ∙ ap (λ (t : List ℕ). t ++ digits 8 q.packed) first ∙ ap (λ (t : List ℕ). digit d ∷ t) q.digits_are;
    }

-- ---- nothing is left but spare digits

pub bits_ended : (r : Bits) → r.left < 8 → BytesLeft r.bytes [] → BitsLeft r []
bits_ended r few h = record {
  packed = [];
  spelled = h;
  spare = bits r.held r.left ++ digits 8 [];
  few = omega (arith, few, length-bits r.held r.left, length-digits 8 [], length-append (bits r.held r.left) (digits 8 []));
  digits_are = refl;
}

pub bits_whole : (r : Bits) → 8 ≤ r.left → BitsLeft r [] → ⊥
bits_whole r many p = omega (arith, many, p.few, ap length p.digits_are, length-bits r.held r.left, length-append (bits r.held r.left) (digits 8 p.packed))

packed_none : (packed : List ℕ) (left : ℕ) → left + 8 * length packed < 8 → packed ≡ []
packed_none [] left h = refl
packed_none (x ∷ packed) left h = absurd (omega (arith, h))

pub bits_bytes : (r : Bits) → BitsLeft r [] → BytesLeft r.bytes []
bits_bytes r p =
    let e = packed_none p.packed r.left (omega (arith, p.few, ap length p.digits_are, length-bits r.held r.left, length-digits 8 p.packed, length-append (bits r.held r.left) (digits 8 p.packed))) in
    subst (BytesLeft r.bytes) e p.spelled

-- ---- from the start of a stream

pub are_bits : (bytes packed : List ℕ) (held left : ℕ) (spare : List ℕ) (all : List Bool) → left ≡ 0 → AreBytes bytes packed → length spare < 8 → bits held left ++ digits 8 packed ≡ map digit all ++ spare → IsBitStream bytes all
are_bits bytes packed held left spare all none stream few e =
    let d : digits 8 packed ≡ map digit all ++ spare = sym (no_digit held left (digits 8 packed) none) ∙ e in
    record {
      packed = packed;
      runs = stream;
      held = record {
        small = stream_bytes bytes packed stream;
        fit = digits_fit all;
        len = omega (arith, few, ap length d, length-digits 8 packed, length-append (map digit all) spare, length-map all digit);
        spare = spare;
        digits_are = d ∙ ap (λ (t : List ℕ). t ++ spare) (sym (digits_one all));
      };
    }

spare_few : (packed spare : List ℕ) (all : List Bool) → length packed ≡ packed_len 1 (length (map digit all)) → digits 8 packed ≡ map digit all ++ spare → length spare < 8
spare_few packed spare all len d = omega (arith, len, ap length d, length-digits 8 packed, length-append (map digit all) spare)

pub record Held (held left : ℕ) (packed : List ℕ) (all : List Bool) : Type 0 where
  pub spare : List ℕ
  pub few : length spare < 8
  pub digits_are : bits held left ++ digits 8 packed ≡ map digit all ++ spare

pub held_bits : (packed : List ℕ) (held left : ℕ) (all : List Bool) → left ≡ 0 → IsPacked packed 1 (map digit all) → Held held left packed all
held_bits packed held left all none h =
    let d : digits 8 packed ≡ map digit all ++ h.spare = h.digits_are ∙ ap (λ (t : List ℕ). t ++ h.spare) (digits_one all) in
    record { spare = h.spare; few = spare_few packed h.spare all h.len d; digits_are = no_digit held left (digits 8 packed) none ∙ d }

pub one_bit_stream : (bytes : List ℕ) (v w : List Bool) → length v ≡ length w → IsBitStream bytes v → IsBitStream bytes w → v ≡ w
one_bit_stream bytes v w len p q =
    let same = one_stream IsByteRun one_byte_run byte_run_some bytes q.packed p.packed q.runs p.runs in
    one_held p.packed v w len p.held (subst (λ (t : List ℕ). IsPacked t 1 (map digit w)) same q.held)
