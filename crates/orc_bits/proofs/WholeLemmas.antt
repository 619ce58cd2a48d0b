-- Numbers of whole bytes.
use Rattle.std.proofs.Common.{◌≡◌, ℕ, ◌+◌, ◌-◌, ◌*◌, ◌/◌, ◌%◌, ◌^◌, ◌<◌, ◌≤◌, ◌++◌, List, length, take, drop, set, refl, sym, ap, ◌∙◌, subst, arith, length-drop, take-add, [], append-nil}
use Rattle.std.proofs.lemmas.Nat.{mul-le, shr-shr}
use Rattle.std.proofs.Math.Seq.{take-append_seam}
use Rattle.std.proofs.lemmas.List.{length-take-le, take_more_set}
use Rattle.orc_bits.specs.Packed.{bits, digits, packed_len, AllFit, SpellsPacked, IsPacked, IsPackedText}
use Rattle.orc_bits.proofs.PackedLemmas.{cut, digits-push, digits-append, AllFit-front}

-- the bytes of number i
abbrev pub whole_text : ℕ → ℕ → List ℕ → List ℕ
whole_text size i bytes = take (size * (i + 1) - size * i) (drop (size * i) bytes)

pub whole_len : (size i n : ℕ) (bytes : List ℕ) → i < n → size * n ≡ length bytes → length (whole_text size i bytes) ≡ size
whole_len size i n bytes lt there =
    let m : size * (i + 1) ≤ size * n = mul-le size (i + 1) size n (omega arith) (omega arith) in
    length-take-le (size * (i + 1) - size * i) (drop (size * i) bytes) (omega (arith, m, there, length-drop (size * i) bytes)) ∙ omega arith

whole_next : (size i : ℕ) (bytes : List ℕ) → take (size * i) bytes ++ whole_text size i bytes ≡ take (size * (i + 1)) bytes
whole_next size i bytes =
    let e : size * i + (size * (i + 1) - size * i) ≡ size * (i + 1) = omega arith in
    sym (take-add (size * i) (size * (i + 1) - size * i) bytes) ∙ ap (λ k. take k bytes) e

pub whole_fits : (size i n v : ℕ) (bytes : List ℕ) → i < n → size * n ≡ length bytes → v < 2 ^ (8 * length (whole_text size i bytes)) → v < 2 ^ (8 * size)
whole_fits size i n v bytes lt there h = subst (λ k. v < 2 ^ (8 * k)) (whole_len size i n bytes lt there) h

pub whole_more : (size i v : ℕ) (out bytes : List ℕ) → i < length out → size * length out ≡ length bytes
    → bits v (8 * length (whole_text size i bytes)) ≡ digits 8 (whole_text size i bytes)
    → digits (8 * size) (take i out) ≡ digits 8 (take (size * i) bytes)
    → digits (8 * size) (take (i + 1) (set out i v)) ≡ digits 8 (take (size * (i + 1)) bytes)
whole_more size i v out bytes lt there is before =
    let len = whole_len size i (length out) bytes lt there in
    ap (digits (8 * size)) (take_more_set out i v lt) ∙ digits-push (8 * size) (take i out) v
    ∙ (λ j. before j ++ bits v (8 * sym len j))
    ∙ ap (λ t. digits 8 (take (size * i) bytes) ++ t) is
    ∙ sym (digits-append 8 (take (size * i) bytes) (whole_text size i bytes))
    ∙ ap (digits 8) (whole_next size i bytes)

-- they stand packed, with no spare digits
pub whole_packed : (size : ℕ) (bytes text rest out : List ℕ) → AllFit 8 bytes → bytes ≡ text ++ rest → length text ≡ size * length out
    → SpellsPacked 8 text (8 * size) out → IsPacked (take (packed_len (8 * size) (length out)) bytes) (8 * size) out
whole_packed size bytes text rest out small parts len is =
    let e : packed_len (8 * size) (length out) ≡ length text = omega (arith, len) in
    let t : take (packed_len (8 * size) (length out)) bytes ≡ text = ap (λ n. take n bytes) e ∙ ap (take (length text)) parts ∙ take-append_seam text rest in
    subst (λ front. IsPacked front (8 * size) out) (sym t) (record {
      small = AllFit-front 8 text rest (subst (AllFit 8) parts small);
      fit = is.0;
      len = sym e;
      spare = [];
      digits_are = sym is.1 ∙ sym (append-nil (digits (8 * size) out));
    })

-- ---- as they are written

-- one more byte of a number is there
pub byte_more : (number left i : ℕ) (out : List ℕ) → i < length out → 8 ≤ left
    → digits 8 (take i out) ≡ bits (number / 2 ^ left) (8 * i)
    → digits 8 (take (i + 1) (set out i (number / 2 ^ (left - 8) % 256))) ≡ bits (number / 2 ^ (left - 8)) (8 * (i + 1))
byte_more number left i out lt le before =
    let rest = number / 2 ^ (left - 8) in
    let e : (left - 8) + 8 ≡ left = omega arith in
    let high : rest / 2 ^ 8 ≡ number / 2 ^ left = shr-shr number (left - 8) 8 ∙ ap (λ k. number / 2 ^ k) e in
    let w : 8 * (i + 1) ≡ 8 * i + 8 = omega arith in
    rw (take_more_set out i (rest % 256) lt, digits-push 8 (take i out) (rest % 256), w, cut rest 8 (8 * i), before, high) refl

-- bytes with the digits of the numbers, and no spare ones
pub spells_text : (w : ℕ) (values out : List ℕ) → AllFit w values → length out ≡ packed_len w (length values) → SpellsPacked w values 8 out → IsPackedText out w values
spells_text w values out fit len is = record {
  packed = record { small = is.0; fit = fit; len = len; spare = []; digits_are = is.1 ∙ sym (append-nil (digits w values)) };
  zero_digits = tt;
}
