-- Values have one text of each form, and one shortest text
-- (ORC specification, "Integer Run Length Encoding, version 2").
use Rattle.std.proofs.Common.{ℕ, List, ◌≡◌, subst, ℤ, ◌∙◌, refl, sym, ◌∷◌, ◌+ℤ◌, ap, length, suc, ◌-◌, arith, [], pos, zero, negsuc, inl, inr, ◌<◌, replicate, ◌≤◌, ◌^◌, get_or, ◌+◌, ◌*◌, map, ◌%◌}
use Rattle.std.proofs.Math.IntN.{neg_ℤ, +ℤ_idr, +ℤ_assoc}
use Rattle.std.specs.List.{Contains, AllByRecursion}
use Rattle.orc_bits.proofs.PackedLaws.{one_packed_text}
use Rattle.orc_bits.specs.Packed.{IsPackedText}
use Rattle.orc_bits.specs.Width.{width_at, IsLeastWidth}
use Rattle.orc_rle.specs.declared.sign.Sign.{Sign}
use Rattle.orc_rle.specs.declared.sign.Sign.TheVariants.{Signed}
use Rattle.orc_rle.specs.AlignedWidth.{HoldsAll}
use Rattle.orc_rle.specs.Delta.{moved, walk}
use Rattle.orc_rle.specs.DeltaText.{IsEven, IsEvenText, IsDirected, IsSizedText, IsDeltaText}
use Rattle.orc_rle.specs.DirectText.{IsDirectText}
use Rattle.orc_rle.specs.Least.{IsLeast}
use Rattle.orc_rle.specs.laws.LeastLaws.{one_least, one_numbers}
use Rattle.orc_rle.specs.Patched.{raised}
use Rattle.orc_rle.specs.laws.PatchedLaws.{length-raised, same_width}
use Rattle.orc_rle.specs.PatchedText.{IsPatchedText, ArePatches, magnitude}
use Rattle.orc_rle.specs.laws.PatchedValuesLaws.{get_or-raised}
use Rattle.orc_rle.specs.RepeatText.{IsRepeatText}
use Rattle.orc_rle.specs.RunOne.{progression}
use Rattle.orc_rle.specs.Values.{IsSpelledShortest, Stands}
use Rattle.orc_rle.specs.laws.WrittenLaws.{SameSteps, cancel, one_spelled, one_number}
use Rattle.orc_rle.specs.WrittenTwo.{IsEqualText, IsShortestText}

-- numbers have one width and one packed text
record SamePacked (code other : ℕ) (a b : List ℕ) : Type 0 where
  code_is : code ≡ other
  text_is : a ≡ b

same_packed : (from code other : ℕ) (ns ms a b : List ℕ)
    → ns ≡ ms → IsLeast (HoldsAll from ns) code → IsLeast (HoldsAll from ms) other
    → IsPackedText a (width_at code) ns → IsPackedText b (width_at other) ms → SamePacked code other a b
same_packed from code other ns ms a b e p q s t =
    let code_is = one_least (HoldsAll from ms) code other (subst (λ (k : List ℕ). IsLeast (HoldsAll from k) code) e p) q in
    let s1 = subst (λ (k : List ℕ). IsPackedText a (width_at code) k) e s in
    let s2 = subst (λ (c : ℕ). IsPackedText a (width_at c) ms) code_is s1 in
    record { code_is = code_is; text_is = one_packed_text (width_at other) a b ms s2 t }

pub one_direct : (sign : Sign) (chunk : List ℤ) (a b : List ℕ)
    → IsDirectText sign chunk a → IsDirectText sign chunk b → a ≡ b
one_direct sign chunk a b p q =
    let same = same_packed 1 p.code q.code p.numbers q.numbers p.packed q.packed (one_numbers sign chunk p.numbers q.numbers p.stand q.stand) p.width q.width p.packed_is q.packed_is in
    p.text_is ∙ ((rw (same.code_is, same.text_is) refl) ∙ sym q.text_is)

pub same_start : (chunk x y : List ℤ) (a d b e : ℤ)
    → chunk ≡ a ∷ (a +ℤ d) ∷ x → chunk ≡ b ∷ (b +ℤ e) ∷ y → SameSteps a d b e
same_start chunk x y a d b e p q =
    let both : a ∷ (a +ℤ d) ∷ x ≡ b ∷ (b +ℤ e) ∷ y = sym p ∙ q in
    let first : a ≡ b = cc in
    let second : a +ℤ d ≡ b +ℤ e = cc in
    record { first = first; step = cancel a d e (second ∙ ap (λ (t : ℤ). t +ℤ e) (sym first)) }

pub even_start : (chunk : List ℤ) (a d : ℤ) → IsEven chunk a d → (rest : List ℤ) × (chunk ≡ a ∷ (a +ℤ d) ∷ rest)
even_start chunk a d p =
    let len : length chunk ≡ suc (suc (length chunk - 2)) = omega (arith, p.two) in
    (progression ((a +ℤ d) +ℤ d) d (length chunk - 2), p.values_are ∙ ap (progression a d) len)

same_text : (sign : Sign) (v w : ℤ) (a b : List ℕ)
    → v ≡ w → IsSpelledShortest sign (v ∷ []) a → IsSpelledShortest sign (w ∷ []) b → a ≡ b
same_text sign v w a b e p q = one_spelled sign (w ∷ []) a b (subst (λ (t : ℤ). IsSpelledShortest sign (t ∷ []) a) e p) q

pub one_even : (sign : Sign) (chunk : List ℤ) (a b : List ℕ) → IsEvenText sign chunk a → IsEvenText sign chunk b → a ≡ b
one_even sign chunk a b p q =
    let x = even_start chunk p.first p.step p.even in
    let y = even_start chunk q.first q.step q.even in
    let start = same_start chunk x.0 y.0 p.first p.step q.first q.step x.1 y.1 in
    let value = same_text sign p.first q.first p.value q.value start.first p.value_is q.value_is in
    let delta = same_text Signed p.step q.step p.delta q.delta start.step p.delta_is q.delta_is in
    p.text_is ∙ ((rw (value, delta) refl) ∙ sym q.text_is)

one_negative : (m n : ℕ) → neg_ℤ (pos m) ≡ neg_ℤ (pos n) → m ≡ n
one_negative zero zero e = refl
one_negative zero (suc n) e = absurd cc
one_negative (suc m) zero e = absurd cc
one_negative (suc m) (suc n) e = cc

-- a step in a direction leads to one value for one size
moved_one : (step from : ℤ) (m n : ℕ) → moved step from m ≡ moved step from n → m ≡ n
moved_one (pos s) from m n e = let h : pos m ≡ pos n = cancel from (pos m) (pos n) e in cc
moved_one (negsuc s) from m n e = one_negative m n (cancel from (neg_ℤ (pos m)) (neg_ℤ (pos n)) e)

one_walk : (step from : ℤ) (ms ns : List ℕ) → walk step from ms ≡ walk step from ns → ms ≡ ns
one_walk step from [] [] e = refl
one_walk step from [] (n ∷ ns) e = absurd cc
one_walk step from (m ∷ ms) [] e = absurd cc
one_walk step from (m ∷ ms) (n ∷ ns) e =
    let moves : moved step from m ≡ moved step from n = cc in
    let head = moved_one step from m n moves in
    let rests : walk step (moved step from m) ms ≡ walk step (moved step from n) ns = cc in
    let tail = one_walk step (moved step from n) ms ns (subst (λ (k : ℕ). walk step (moved step from k) ms ≡ walk step (moved step from n) ns) head rests) in
    cc

pub one_sizes : (chunk : List ℤ) (a d b e : ℤ) (ms ns : List ℕ)
    → a ≡ b → d ≡ e → IsDirected chunk a d ms → IsDirected chunk b e ns → ms ≡ ns
one_sizes chunk a d b e ms ns first step p q =
    let left : chunk ≡ b ∷ (b +ℤ e) ∷ walk e (b +ℤ e) ms = p.values_are ∙ (rw (first, step) refl) in
    let both : b ∷ (b +ℤ e) ∷ walk e (b +ℤ e) ms ≡ b ∷ (b +ℤ e) ∷ walk e (b +ℤ e) ns = sym left ∙ q.values_are in
    one_walk e (b +ℤ e) ms ns cc

pub one_sized : (sign : Sign) (chunk : List ℤ) (a b : List ℕ)
    → IsSizedText sign chunk a → IsSizedText sign chunk b → a ≡ b
one_sized sign chunk a b p q =
    let start = same_start chunk _ _ p.first p.step q.first q.step p.directed.values_are q.directed.values_are in
    let sizes = one_sizes chunk p.first p.step q.first q.step p.sizes q.sizes start.first start.step p.directed q.directed in
    let value = same_text sign p.first q.first p.value q.value start.first p.value_is q.value_is in
    let delta = same_text Signed p.step q.step p.delta q.delta start.step p.delta_is q.delta_is in
    let same = same_packed 2 p.code q.code p.sizes q.sizes p.packed q.packed sizes p.width q.width p.packed_is q.packed_is in
    p.text_is ∙ ((rw (same.code_is, same.text_is, value, delta) refl) ∙ sym q.text_is)

pub one_delta : (sign : Sign) (chunk : List ℤ) (a b : List ℕ)
    → IsDeltaText sign chunk a → IsDeltaText sign chunk b → a ≡ b
one_delta sign chunk a b (inl p) (inl q) = one_even sign chunk a b p q
one_delta sign chunk a b (inl p) (inr q) = absurd (q.uneven p.first p.step p.even)
one_delta sign chunk a b (inr p) (inl q) = absurd (p.uneven q.first q.step q.even)
one_delta sign chunk a b (inr p) (inr q) = one_sized sign chunk a b p q

one_repeat : (sign : Sign) (piece : List ℤ) (a b : List ℕ)
    → IsRepeatText sign piece a → IsRepeatText sign piece b → a ≡ b
one_repeat sign piece a b p q =
    let len : length piece ≡ suc (length piece - 1) = omega (arith, p.few) in
    let x : piece ≡ p.value ∷ replicate (length piece - 1) p.value = p.values_are ∙ ap (λ (n : ℕ). replicate n p.value) len in
    let y : piece ≡ q.value ∷ replicate (length piece - 1) q.value = q.values_are ∙ ap (λ (n : ℕ). replicate n q.value) len in
    let both : p.value ∷ replicate (length piece - 1) p.value ≡ q.value ∷ replicate (length piece - 1) q.value = sym x ∙ y in
    let value : p.value ≡ q.value = cc in
    let number = one_number sign q.value p.number q.number (subst (λ (v : ℤ). Stands sign v p.number) value p.stands) q.stands in
    let size = one_least (λ n. (1 ≤ n) × (q.number < 256 ^ n)) p.size q.size (subst (λ (m : ℕ). IsLeast (λ n. (1 ≤ n) × (m < 256 ^ n)) p.size) number p.size_is) q.size_is in
    p.text_is ∙ ((rw (size, number) refl) ∙ sym q.text_is)

pub one_equal : (sign : Sign) (piece : List ℤ) (a b : List ℕ)
    → IsEqualText sign piece a → IsEqualText sign piece b → a ≡ b
one_equal sign piece a b (inl p) (inl q) = one_repeat sign piece a b p q
one_equal sign piece a b (inl p) (inr q) = absurd (omega (arith, p.most, q.0))
one_equal sign piece a b (inr p) (inl q) = absurd (omega (arith, p.0, q.most))
one_equal sign piece a b (inr p) (inr q) = one_even sign piece a b p.1 q.1

-- a base is so far above another whose numbers are of the same values
base_above : (a b : ℤ) (ms ns : List ℕ) → Contains ms 0 → raised a ms ≡ raised b ns → (m : ℕ) × (a ≡ b +ℤ pos m)
base_above a b ms ns c e =
    let k = c.0 in
    let len : length ms ≡ length ns = sym (length-raised a ms) ∙ (ap (λ (t : List ℤ). length t) e ∙ length-raised b ns) in
    let left = get_or-raised a ms c.0 c.1 in
    let right = get_or-raised b ns c.0 (omega (arith, len, c.1)) in
    (get_or ns c.0 0, sym (+ℤ_idr a) ∙ (ap (λ (n : ℕ). a +ℤ pos n) (sym c.2) ∙ (sym left ∙ (ap (λ (t : List ℤ). get_or t c.0 (pos 0)) e ∙ right))))

pub one_base : (a b : ℤ) (ms ns : List ℕ) → Contains ms 0 → Contains ns 0 → raised a ms ≡ raised b ns → a ≡ b
one_base a b ms ns p q e =
    let x = base_above a b ms ns p e in
    let y = base_above b a ns ms q (sym e) in
    let turn : b +ℤ pos (x.0 + y.0) ≡ b +ℤ pos 0 = sym (+ℤ_assoc b (pos x.0) (pos y.0)) ∙ (ap (λ (t : ℤ). t +ℤ pos y.0) (sym x.1) ∙ (sym y.1 ∙ sym (+ℤ_idr b))) in
    let none : pos (x.0 + y.0) ≡ pos 0 = cancel b (pos (x.0 + y.0)) (pos 0) turn in
    let sum : x.0 + y.0 ≡ 0 = cc in
    let zero_is : x.0 ≡ 0 = omega (arith, sum) in
    x.1 ∙ (ap (λ (n : ℕ). b +ℤ pos n) zero_is ∙ +ℤ_idr b)

pub one_raised : (base : ℤ) (ms ns : List ℕ) → raised base ms ≡ raised base ns → ms ≡ ns
one_raised base [] [] e = refl
one_raised base [] (n ∷ ns) e = absurd cc
one_raised base (m ∷ ms) [] e = absurd cc
one_raised base (m ∷ ms) (n ∷ ns) e =
    let values : base +ℤ pos m ≡ base +ℤ pos n = cc in
    let number : pos m ≡ pos n = cancel base (pos m) (pos n) values in
    let rests : raised base ms ≡ raised base ns = cc in
    let tail = one_raised base ms ns rests in
    cc

pub one_patched : (chunk : List ℤ) (a b : List ℕ) → IsPatchedText chunk a → IsPatchedText chunk b → a ≡ b
one_patched chunk a b p q =
    let pe = p.entries_are in
    let qe = q.entries_are in
    let base = one_base p.base q.base p.numbers q.numbers p.above.least q.above.least (sym p.above.values_are ∙ q.above.values_are) in
    let numbers = one_raised q.base p.numbers q.numbers (ap (λ (v : ℤ). raised v p.numbers) (sym base) ∙ (sym p.above.values_are ∙ q.above.values_are)) in
    let le = p.least q.code (q.entries, q.patch_code, q.gap_digits, subst (λ (ns : List ℕ). ArePatches ns q.code q.entries q.patch_code q.gap_digits) (sym numbers) qe) in
    let ge = q.least p.code (p.entries, p.patch_code, p.gap_digits, subst (λ (ns : List ℕ). ArePatches ns p.code p.entries p.patch_code p.gap_digits) numbers pe) in
    let code : p.code ≡ q.code = omega (arith, le, ge) in
    let entries : p.entries ≡ q.entries = pe.entries_are ∙ ((rw (code, numbers) refl) ∙ sym qe.entries_are) in
    let patch_code = one_least (λ c. (c < 32) × AllByRecursion (λ e. e.1 < 2 ^ width_at c) q.entries) p.patch_code q.patch_code
    (subst (λ (es : List (ℕ × ℕ)). IsLeast (λ c. (c < 32) × AllByRecursion (λ e. e.1 < 2 ^ width_at c) es) p.patch_code) entries pe.patch_width) qe.patch_width in
    let gap_digits = one_least (λ k. (1 ≤ k) × AllByRecursion (λ e. e.0 < 2 ^ k) q.entries) p.gap_digits q.gap_digits
    (subst (λ (es : List (ℕ × ℕ)). IsLeast (λ k. (1 ≤ k) × AllByRecursion (λ e. e.0 < 2 ^ k) es) p.gap_digits) entries pe.gap_width) qe.gap_width in
    let size = one_least (λ n. (1 ≤ n) × (magnitude q.base < 2 ^ (8 * n - 1))) p.size q.size (subst (λ (v : ℤ). IsLeast (λ n. (1 ≤ n) × (magnitude v < 2 ^ (8 * n - 1))) p.size) base p.size_is) q.size_is in
    let lows : map (λ n. n % 2 ^ width_at p.code) p.numbers ≡ map (λ n. n % 2 ^ width_at q.code) q.numbers = rw (code, numbers) refl in
    let packed = one_packed_text (width_at q.code) p.packed q.packed (map (λ n. n % 2 ^ width_at q.code) q.numbers)
    (subst (λ (c : ℕ). IsPackedText p.packed (width_at c) (map (λ n. n % 2 ^ width_at q.code) q.numbers)) code (subst (λ (ns : List ℕ). IsPackedText p.packed (width_at p.code) ns) lows p.packed_is)) q.packed_is in
    let widths : width_at p.entry_code ≡ width_at q.entry_code =
    same_width (q.gap_digits + width_at q.patch_code) p.entry_code q.entry_code (subst (λ (k : ℕ). IsLeastWidth (k + width_at q.patch_code) p.entry_code) gap_digits (subst (λ (c : ℕ). IsLeastWidth (p.gap_digits + width_at c) p.entry_code) patch_code p.entry_width)) q.entry_width in
    let packs : map (λ e. e.0 * 2 ^ width_at p.patch_code + e.1) p.entries ≡ map (λ e. e.0 * 2 ^ width_at q.patch_code + e.1) q.entries = rw (patch_code, entries) refl in
    let patches = one_packed_text (width_at q.entry_code) p.patches q.patches (map (λ e. e.0 * 2 ^ width_at q.patch_code + e.1) q.entries)
    (subst (λ (w : ℕ). IsPackedText p.patches w (map (λ e. e.0 * 2 ^ width_at q.patch_code + e.1) q.entries)) widths (subst (λ (ns : List ℕ). IsPackedText p.patches (width_at p.entry_code) ns) packs p.patches_are)) q.patches_are in
    p.text_is ∙ ((rw (size, code, patch_code, gap_digits, entries, base, packed, patches) refl) ∙ sym q.text_is)

-- the order of the forms leaves one
pub one_shortest_text : (sign : Sign) (chunk : List ℤ) (a b : List ℕ)
    → IsShortestText sign chunk a → IsShortestText sign chunk b → a ≡ b
one_shortest_text sign chunk a b (inl p) (inl q) = one_delta sign chunk a b p.0 q.0
one_shortest_text sign chunk a b (inl p) (inr (inl q)) = let less = q.1 a p.0 in let most = p.1 b q.0 in absurd (omega (arith, less, most))
one_shortest_text sign chunk a b (inl p) (inr (inr q)) = let less = q.1 a p.0 in let most = p.2 b q.0 in absurd (omega (arith, less, most))
one_shortest_text sign chunk a b (inr (inl p)) (inl q) = let less = p.1 b q.0 in let most = q.1 a p.0 in absurd (omega (arith, less, most))
one_shortest_text sign chunk a b (inr (inl p)) (inr (inl q)) = one_direct sign chunk a b p.0 q.0
one_shortest_text sign chunk a b (inr (inl p)) (inr (inr q)) = let less = q.2 a p.0 in let most = p.2 b q.0 in absurd (omega (arith, less, most))
one_shortest_text sign chunk a b (inr (inr p)) (inl q) = let less = p.1 b q.0 in let most = q.2 a p.0 in absurd (omega (arith, less, most))
one_shortest_text sign chunk a b (inr (inr p)) (inr (inl q)) = let less = p.2 b q.0 in let most = q.2 a p.0 in absurd (omega (arith, less, most))
one_shortest_text sign chunk a b (inr (inr p)) (inr (inr q)) = one_patched chunk a b p.0 q.0
