-- Packed bytes begin no others of as many values, and stand for one list of values.
use Rattle.std.proofs.Common.{◌≡◌, ℕ, zero, suc, ◌/◌, ◌%◌, ◌^◌, ◌<◌, List, [], ◌∷◌, ◌++◌, length, refl, sym, ap, ◌∙◌, arith, append_assoc, length-append}
use Rattle.std.proofs.Math.Nat.{pow-suc}
use Rattle.std.proofs.lemmas.List.{same_from_push}
use Rattle.orc_bits.specs.Packed.{bits, digits, packed_len, AllFit, IsPacked, IsPackedText}
use Rattle.std.specs.List.{AllByRecursion}
use Rattle.orc_bits.proofs.VarintLaws.{SameFront}
use Rattle.orc_bits.proofs.PackedLemmas.{length-bits, length-digits}

pub same_length : (a b x y : List ℕ) → length a ≡ length b → a ++ x ≡ b ++ y → SameFront a b x y
same_length [] [] x y l e = record { front = refl; rest = e }
same_length [] (d ∷ b) x y l e = absurd (omega (arith, l))
same_length (c ∷ a) [] x y l e = absurd (omega (arith, l))
same_length (c ∷ a) (d ∷ b) x y l e =
    let h : c ≡ d = cc in
    let r = same_length a b x y (omega (arith, l)) cc in
    let front = r.front in
    record { front = cc; rest = r.rest }

pub one_bits : (w m n : ℕ) → m < 2 ^ w → n < 2 ^ w → bits m w ≡ bits n w → m ≡ n
unfolding bits
one_bits zero m n p q e = omega (arith, p, q)
one_bits (suc w) m n p q e =
    let s = same_from_push (bits (m / 2) w) (bits (n / 2) w) (m % 2) (n % 2) e in
    let h = one_bits w (m / 2) (n / 2) (omega (arith, pow-suc 2 w)) (omega (arith, pow-suc 2 w)) s.0 in
    omega (arith, h, s.1)

pub one_digits : (w : ℕ) (vs ws a b : List ℕ) → length vs ≡ length ws → AllFit w vs → AllFit w ws → digits w vs ++ a ≡ digits w ws ++ b → vs ≡ ws
unfolding digits
one_digits w [] [] a b l p q e = refl
one_digits w [] (u ∷ ws) a b l p q e = absurd (omega (arith, l))
one_digits w (v ∷ vs) [] a b l p q e = absurd (omega (arith, l))
one_digits w (v ∷ vs) (u ∷ ws) a b l p q e =
    let e' : bits v w ++ (digits w vs ++ a) ≡ bits u w ++ (digits w ws ++ b) = sym (append_assoc (bits v w) (digits w vs) a) ∙ (e ∙ append_assoc (bits u w) (digits w ws) b) in
    let s = same_length (bits v w) (bits u w) (digits w vs ++ a) (digits w ws ++ b) (length-bits v w ∙ sym (length-bits u w)) e' in
    let head = one_bits w v u p.0 q.0 s.front in
    let tail = one_digits w vs ws a b (omega (arith, l)) p.1 q.1 s.rest in
    cc

pub record SamePacked (a b x y vs ws : List ℕ) : Type 0 where
  pub front : a ≡ b
  pub rest : x ≡ y
  pub values : vs ≡ ws

pub one_packed : (w : ℕ) (a b x y vs ws : List ℕ) → length vs ≡ length ws → IsPacked a w vs → IsPacked b w ws → a ++ x ≡ b ++ y → SamePacked a b x y vs ws
one_packed w a b x y vs ws l p q e =
    let s = same_length a b x y (p.len ∙ (ap (packed_len w) l ∙ sym q.len)) e in
    let same : digits w vs ++ p.spare ≡ digits w ws ++ q.spare = sym p.digits_are ∙ (ap (digits 8) s.front ∙ q.digits_are) in
    record { front = s.front; rest = s.rest; values = one_digits w vs ws p.spare q.spare l p.fit q.fit same }

-- two lists of zeros of one length
same_zeros : (a b : List ℕ) → length a ≡ length b → AllByRecursion (λ d. d ≡ 0) a → AllByRecursion (λ d. d ≡ 0) b → a ≡ b
same_zeros [] [] l p q = refl
same_zeros [] (d ∷ b) l p q = absurd (omega (arith, l))
same_zeros (c ∷ a) [] l p q = absurd (omega (arith, l))
same_zeros (c ∷ a) (d ∷ b) l p q =
    let head : c ≡ d = p.0 ∙ sym q.0 in
    let tail = same_zeros a b (omega (arith, l)) p.1 q.1 in
    cc

pub one_packed_text : (w : ℕ) (a b vs : List ℕ) → IsPackedText a w vs → IsPackedText b w vs → a ≡ b
one_packed_text w a b vs p q =
    let len : length a ≡ length b = p.packed.len ∙ sym q.packed.len in
    let all = ap (λ (ds : List ℕ). length ds) p.packed.digits_are in
    let all' = ap (λ (ds : List ℕ). length ds) q.packed.digits_are in
    let spare : length p.packed.spare ≡ length q.packed.spare = omega (arith, len, all, all', length-digits 8 a, length-digits 8 b, length-append (digits w vs) p.packed.spare, length-append (digits w vs) q.packed.spare) in
    let zeros = same_zeros p.packed.spare q.packed.spare spare p.zero_digits q.zero_digits in
    let same : digits 8 a ≡ digits 8 b = p.packed.digits_are ∙ (ap (λ (ds : List ℕ). digits w vs ++ ds) zeros ∙ sym q.packed.digits_are) in
    one_digits 8 a b [] [] len p.packed.small q.packed.small (ap (λ (ds : List ℕ). ds ++ []) same)
