-- Laws of streams of booleans (ORC specification, "Boolean Run Length Encoding").
-- Bytes are a stream of one list of so many booleans; what is written has one text, and it is a stream of the booleans.
use Rattle.std.proofs.Common.{◌≡◌, ℕ, List, [], ◌∷◌, length, map, Bool, true, false, refl, sym, ap, subst, ◌∙◌, arith}
use Rattle.std.proofs.lemmas.List.{length-map}
use Rattle.orc_bits.specs.Packed.{packed_len, IsPacked}
use Rattle.orc_bits.proofs.PackedLaws.{one_packed, one_packed_text}
use Rattle.orc_rle.specs.Cut.{IsWritten}
use Rattle.orc_rle.specs.ByteRun.{byte_rule}
use Rattle.orc_rle.proofs.ByteLaws.{one_byte_text, bytes_written}
use Rattle.orc_rle.specs.BitStream.{digit, IsBitStream, IsBitText}

-- so many booleans take so many bytes
pub held_len : (packed : List ℕ) (values : List Bool)
    → IsPacked packed 1 (map digit values) → length packed ≡ packed_len 1 (length values)
held_len packed values h = h.len ∙ ap (packed_len 1) (length-map values digit)

one_digit : (a b : Bool) → digit a ≡ digit b → a ≡ b
one_digit true true e = refl
one_digit false false e = refl
one_digit true false e = absurd (omega (arith, e))
one_digit false true e = absurd (omega (arith, e))

one_map : (v w : List Bool) → map digit v ≡ map digit w → v ≡ w
one_map [] [] e = refl
one_map [] (b ∷ w) e = let h = ap (λ (t : List ℕ). length t) e in absurd (omega (arith, h))
one_map (a ∷ v) [] e = let h = ap (λ (t : List ℕ). length t) e in absurd (omega (arith, h))
one_map (a ∷ v) (b ∷ w) e =
    let head : digit a ≡ digit b = cc in
    let tail : map digit v ≡ map digit w = cc in
    let first = one_digit a b head in
    let rest = one_map v w tail in
    cc

-- bytes hold one list of so many booleans
pub one_held : (packed : List ℕ) (v w : List Bool)
    → length v ≡ length w → IsPacked packed 1 (map digit v) → IsPacked packed 1 (map digit w) → v ≡ w
one_held packed v w len h k =
    let same = one_packed 1 packed packed [] [] (map digit v) (map digit w) (length-map v digit ∙ (len ∙ sym (length-map w digit))) h k refl in
    one_map v w same.values

-- booleans have one text
pub one_bit_text : (values : List Bool) (a b : List ℕ) → IsBitText values a → IsBitText values b → a ≡ b
one_bit_text values a b p q =
    let same = one_packed_text 1 p.packed q.packed (map digit values) p.held q.held in
    one_byte_text q.packed a b (subst (λ (t : List ℕ). IsWritten byte_rule t a) same p.written) q.written

-- what was written is a stream of the booleans
pub bits_written : (values : List Bool) (bytes : List ℕ) → IsBitText values bytes → IsBitStream bytes values
bits_written values bytes h = record { packed = h.packed; runs = bytes_written h.packed bytes h.written; held = h.held.packed }
