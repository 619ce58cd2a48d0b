-- What the writer makes are bytes, numbers below 256 (ORC specification, "Integer Run Length Encoding, version 2").
use Rattle.std.proofs.Common.{List, ℤ, ℕ, ◌≤◌, ◌<◌, length, arith, ◌*◌, ◌+◌, ◌-◌, ◌/◌, ◌^◌, ◌++◌, sym, subst, ◌∷◌, [], inl, inr, zero, suc, replicate}
use Rattle.std.proofs.lemmas.Bool.{lt-ltb, cases_lt, le-ltb}
use Rattle.std.specs.List.{AllByRecursion}
use Rattle.byteorder.specs.Endian.{big_bytes}
use Rattle.orc_bits.proofs.PackedLemmas.{AllFit-append}
use Rattle.orc_bits.specs.Packed.{AllFit}
use Rattle.orc_bits.specs.Varint.{IsChain}
use Rattle.orc_bits.specs.Width.{width_at}
use Rattle.orc_rle.specs.declared.sign.Sign.{Sign}
use Rattle.orc_rle.specs.declared.sign.Sign.TheVariants.{Signed}
use Rattle.orc_rle.specs.Cut.{IsPiece}
use Rattle.orc_rle.specs.DeltaText.{IsEvenText, IsSizedText, IsDeltaText}
use Rattle.orc_rle.specs.DirectText.{IsDirectText}
use Rattle.orc_rle.specs.Header.{header}
use Rattle.orc_rle.specs.PatchedText.{entries_of, reaching, signed_number, ArePatches, IsPatchedText}
use Rattle.orc_rle.specs.RepeatText.{IsRepeatText}
use Rattle.orc_rle.specs.Values.{IsSpelledShortest}
use Rattle.orc_rle.specs.WrittenTwo.{rule_two}

big_bytes_small : (size number : ℕ) → AllFit 8 (big_bytes size number)
big_bytes_small zero number = tt
big_bytes_small (suc zero) number = (omega arith, tt)
big_bytes_small (suc (suc size)) number = (omega arith, big_bytes_small (suc size) number)

chain_small : (bytes : List ℕ) → IsChain bytes → AllFit 8 bytes
chain_small [] h = tt
chain_small (b ∷ []) h = (omega (arith, h), tt)
chain_small (b ∷ c ∷ bytes) h = (h.0.1, chain_small (c ∷ bytes) h.1)

spelled_small : (sign : Sign) (values : List ℤ) (text : List ℕ) → IsSpelledShortest sign values text → AllFit 8 text
spelled_small sign [] text h = subst (λ (t : List ℕ). AllFit 8 t) (sym h) tt
spelled_small sign (v ∷ values) text h =
    subst (λ (t : List ℕ). AllFit 8 t) (sym h.5) (AllFit-append 8 h.1 h.2 (chain_small h.1 h.4.varint.chain) (spelled_small sign values h.2 h.6))

header_small : (form code count : ℕ) → form < 4 → code < 32 → count ≤ 512 → AllFit 8 (header form code count)
header_small form code count few is_code most = (omega (arith, few, is_code, most), (omega arith, tt))

repeat_small : (sign : Sign) (piece : List ℤ) (text : List ℕ) → IsRepeatText sign piece text → AllFit 8 text
repeat_small sign piece text p =
    subst (λ (t : List ℕ). AllFit 8 t) (sym p.text_is) (omega (arith, p.small, p.most), big_bytes_small p.size p.number)

direct_small : (sign : Sign) (chunk : List ℤ) (text : List ℕ)
    → length chunk ≤ 512 → IsDirectText sign chunk text → AllFit 8 text
direct_small sign chunk text most p =
    subst (λ (t : List ℕ). AllFit 8 t) (sym p.text_is)
    (AllFit-append 8 (header 1 p.code (length chunk)) p.packed (header_small 1 p.code (length chunk) (omega arith) p.width.is.code_is.is_code most) p.packed_is.packed.small)

even_small : (sign : Sign) (chunk : List ℤ) (text : List ℕ)
    → length chunk ≤ 512 → IsEvenText sign chunk text → AllFit 8 text
even_small sign chunk text most p =
    let value = spelled_small sign (p.first ∷ []) p.value p.value_is in
    let delta = spelled_small Signed (p.step ∷ []) p.delta p.delta_is in
    subst (λ (t : List ℕ). AllFit 8 t) (sym p.text_is)
    (AllFit-append 8 (header 3 0 (length chunk)) (p.value ++ p.delta) (header_small 3 0 (length chunk) (omega arith) (omega arith) most) (AllFit-append 8 p.value p.delta value delta))

sized_small : (sign : Sign) (chunk : List ℤ) (text : List ℕ)
    → length chunk ≤ 512 → IsSizedText sign chunk text → AllFit 8 text
sized_small sign chunk text most p =
    let value = spelled_small sign (p.first ∷ []) p.value p.value_is in
    let delta = spelled_small Signed (p.step ∷ []) p.delta p.delta_is in
    let sizes = AllFit-append 8 p.delta p.packed delta p.packed_is.packed.small in
    subst (λ (t : List ℕ). AllFit 8 t) (sym p.text_is)
    (AllFit-append 8 (header 3 p.code (length chunk)) (p.value ++ (p.delta ++ p.packed)) (header_small 3 p.code (length chunk) (omega arith) p.width.is.code_is.is_code most)
    (AllFit-append 8 p.value (p.delta ++ p.packed) value sizes))

delta_small : (sign : Sign) (chunk : List ℤ) (text : List ℕ)
    → length chunk ≤ 512 → IsDeltaText sign chunk text → AllFit 8 text
delta_small sign chunk text most (inl p) = even_small sign chunk text most p
delta_small sign chunk text most (inr p) = sized_small sign chunk text most p

-- gaps are cut, so they fit a byte
fit_join : (a b : List (ℕ × ℕ))
    → AllByRecursion (λ e. e.0 < 2 ^ 8) a
    → AllByRecursion (λ e. e.0 < 2 ^ 8) b
    → AllByRecursion (λ e. e.0 < 2 ^ 8) (a ++ b)
fit_join [] b p q = q
fit_join (x ∷ a) b p q = (p.0, fit_join a b p.1 q)

abbrev filler : ℕ × ℕ
filler = (255, 0)

fillers_fit : (k : ℕ) → AllByRecursion (λ e. e.0 < 2 ^ 8) (replicate k filler)
fillers_fit zero = tt
fillers_fit (suc k) = (omega arith, fillers_fit k)

gaps_small : (w gap : ℕ) (ns : List ℕ) → AllByRecursion (λ e. e.0 < 2 ^ 8) (entries_of w gap ns)
gaps_small w gap [] = tt
gaps_small w gap (n ∷ ns) =
    elim (cases_lt n (2 ^ w)) [
      | inl lt ↦ rw (lt-ltb n (2 ^ w) lt) (gaps_small w (gap + 1) ns)
      | inr ge ↦
          let last : gap - 255 * ((gap - 1) / 255) < 2 ^ 8 = omega arith in
          rw (le-ltb n (2 ^ w) ge) (fit_join (reaching gap (n / 2 ^ w)) (entries_of w 1 ns) (fit_join (replicate ((gap - 1) / 255) filler) ((gap - 255 * ((gap - 1) / 255), n / 2 ^ w) ∷ []) (fillers_fit ((gap - 1) / 255)) (last, tt)) (gaps_small w 1 ns))
    ]

pub gap_digits_few : (numbers : List ℕ) (code patch_code gap_digits : ℕ) (entries : List (ℕ × ℕ))
    → ArePatches numbers code entries patch_code gap_digits → (1 ≤ gap_digits) × (gap_digits ≤ 8)
gap_digits_few numbers code patch_code gap_digits entries p =
    let fit : AllByRecursion (λ e. e.0 < 2 ^ 8) entries = subst (λ (es : List (ℕ × ℕ)). AllByRecursion (λ e. e.0 < 2 ^ 8) es) (sym p.entries_are) (gaps_small (width_at code) 0 numbers) in
    (p.gap_width.is.0, p.gap_width.least 8 (omega arith, fit))

patched_small : (chunk : List ℤ) (text : List ℕ) → length chunk ≤ 512 → IsPatchedText chunk text → AllFit 8 text
patched_small chunk text most p =
    let es = p.entries_are in
    let base_text = big_bytes p.size (signed_number p.size p.base) in
    let gaps = (gap_digits_few p.numbers p.code p.patch_code p.gap_digits p.entries es).1 in
    let size : p.size ≤ 8 = p.size_is.least 8 (omega arith, omega (arith, p.small)) in
    let third : (p.size - 1) * 32 + p.patch_code < 2 ^ 8 = omega (arith, size, es.patch_width.is.0) in
    let fourth : (p.gap_digits - 1) * 32 + length p.entries < 2 ^ 8 = omega (arith, gaps, es.few) in
    let parts = AllFit-append 8 p.packed p.patches p.packed_is.packed.small p.patches_are.packed.small in
    let body = AllFit-append 8 base_text (p.packed ++ p.patches) (big_bytes_small p.size (signed_number p.size p.base)) parts in
    subst (λ (t : List ℕ). AllFit 8 t) (sym p.text_is)
    (AllFit-append 8 (header 2 p.code (length chunk)) (((p.size - 1) * 32 + p.patch_code) ∷ ((p.gap_digits - 1) * 32 + length p.entries) ∷ (base_text ++ (p.packed ++ p.patches)))
    (header_small 2 p.code (length chunk) (omega arith) es.is_code most) (third, (fourth, body)))

-- the text of a piece is bytes
pub piece_small : (sign : Sign) (piece rest : List ℤ) (text : List ℕ)
    → IsPiece (rule_two sign) piece rest text → AllFit 8 text
piece_small sign piece rest text (inl (cut, inl p)) = repeat_small sign piece text p
piece_small sign piece rest text (inl (cut, inr p)) = even_small sign piece text cut.is.many p.1
piece_small sign piece rest text (inr (cut, inl p)) = delta_small sign piece text cut.many p.0
piece_small sign piece rest text (inr (cut, inr (inl p))) = direct_small sign piece text cut.many p.0
piece_small sign piece rest text (inr (cut, inr (inr p))) = patched_small piece text cut.many p.0
