-- The digits of numbers as the digits of other numbers.
use Rattle.std.proofs.Common.{◌≡◌, ℕ, ◌+◌, ◌*◌, ◌/◌, ◌%◌, ◌^◌, ◌≤◌, List, [], ◌∷◌, ◌++◌, length, set, take, refl, sym, ap, ◌∙◌, arith, append_assoc, length-append}
use Rattle.std.proofs.lemmas.Nat.{mod_below, pow_pos, shr_below}
use borrow.Rule.Slice.PartMut.{put_mid}
use Rattle.std.proofs.Math.Seq.{take-append-add}
use Rattle.std.proofs.Math.Nat.{mul-add}
use Rattle.std.proofs.lemmas.Slice.{take-put_mid}
use Rattle.orc_bits.specs.Packed.{digits, packed_len, AllFit, SpellsPacked, IsPacked}
use Rattle.orc_bits.proofs.PackedLemmas.{cut, digits-append, length-digits, AllFit-append, AllFit-front}

-- the two halves of each number's digits
abbrev pub halves : ℕ → List ℕ → List ℕ
halves k [] = []
halves k (v ∷ vs) = v / 2 ^ k ∷ v % 2 ^ k ∷ halves k vs

digits-halves : (k : ℕ) (vs : List ℕ) → digits k (halves k vs) ≡ digits (k + k) vs
unfolding digits
digits-halves k [] = refl
digits-halves k (v ∷ vs) = rw (cut v k k, digits-halves k vs, append_assoc) refl

AllFit-halves : (k : ℕ) (vs : List ℕ) → AllFit (k + k) vs → AllFit k (halves k vs)
AllFit-halves k [] h = tt
AllFit-halves k (v ∷ vs) h = (shr_below v k k h.0, (mod_below v (2 ^ k) (pow_pos k), AllFit-halves k vs h.1))

pub Spells-halves : (k : ℕ) (vs : List ℕ) → AllFit (k + k) vs → SpellsPacked (k + k) vs k (halves k vs)
Spells-halves k vs h = (AllFit-halves k vs h, digits-halves k vs)

pub Spells-append : (u w : ℕ) (a b x y : List ℕ) → SpellsPacked u a w x → SpellsPacked u b w y → SpellsPacked u (a ++ b) w (x ++ y)
Spells-append u w a b x y p q = (AllFit-append w x y p.0 q.0, digits-append w x y ∙ (rw (p.1, q.1) (sym (digits-append u a b))))

-- numbers that are spelled by others, which are spelled in two parts
pub Spells-parts : (t u w : ℕ) (numbers a b x y : List ℕ) → SpellsPacked t numbers u (a ++ b) → SpellsPacked u a w x → SpellsPacked u b w y → SpellsPacked t numbers w (x ++ y)
Spells-parts t u w numbers a b x y h p q = let both = Spells-append u w a b x y p q in (both.0, both.1 ∙ h.1)

pub Spells-none : (u w count : ℕ) (out : List ℕ) → SpellsPacked u [] w (take (count * 0) out)
unfolding digits
Spells-none u w count out = let z : count * 0 ≡ 0 = omega arith in rw z (tt, refl)

pub one_set : (out : List ℕ) (a : ℕ) → length out ≡ 1 → set out 0 a ≡ a ∷ []
one_set [] a e = absurd (omega (arith, e))
one_set (x ∷ []) a e = refl
one_set (x ∷ y ∷ out) a e = absurd (omega (arith, e))

pub both_set : (out : List ℕ) (a b : ℕ) → length out ≡ 2 → set (set out 0 a) 1 b ≡ a ∷ b ∷ []
both_set [] a b e = absurd (omega (arith, e))
both_set (x ∷ []) a b e = absurd (omega (arith, e))
both_set (x ∷ y ∷ []) a b e = refl
both_set (x ∷ y ∷ z ∷ out) a b e = absurd (omega (arith, e))

-- the values of some more numbers stand behind those that are there
pub Spells-more : (u w at count end : ℕ) (all text more out values : List ℕ) → at ≤ length out → end ≡ at + length values → all ≡ text ++ more
    → SpellsPacked u text w (take at out) → SpellsPacked u more w values → SpellsPacked u all w (take end (put_mid at count out values))
Spells-more u w at count end all text more out values le e cut p q = rw (cut, take-put_mid at count out values end e le) (Spells-append u w text more (take at out) values p q)

-- the values of whole bytes, and then those of the bytes behind them
pub join : (w n k : ℕ) (bytes text rest front back : List ℕ) → AllFit 8 bytes → bytes ≡ text ++ rest → length front + length back ≡ n → k ≡ length back
    → SpellsPacked 8 text w front → IsPacked (take (packed_len w k) rest) w back → IsPacked (take (packed_len w n) bytes) w (front ++ back)
join w n k bytes text rest front back small whole total same h packed =
    let p = rw same at packed in
    let tail = take (packed_len w (length back)) rest in
    let times : w * length front ≡ 8 * length text = sym (length-digits w front) ∙ (ap length h.1 ∙ length-digits 8 text) in
    let mul : w * (length front + length back) ≡ w * length front + w * length back = mul-add w (length front) (length back) in
    let split : packed_len w n ≡ length text + packed_len w (length back) = rw (← total, mul) (omega (arith, times)) in
    let cut : take (packed_len w n) bytes ≡ text ++ tail = rw (whole, split) (take-append-add text rest (packed_len w (length back))) in
    let sizes : packed_len w n ≡ packed_len w (length (front ++ back)) = ap (packed_len w) (sym total ∙ sym (length-append front back)) in
    rw cut (record {
      small = AllFit-append 8 text tail (AllFit-front 8 text rest (rw whole at small)) p.small;
      fit = AllFit-append w front back h.0 p.fit;
      len = length-append text tail ∙ (ap (λ (m : ℕ). length text + m) p.len ∙ (sym split ∙ sizes));
      spare = p.spare;
      digits_are = digits-append 8 text tail ∙ (rw (← h.1, p.digits_are, digits-append w front back, append_assoc) refl);
    })
