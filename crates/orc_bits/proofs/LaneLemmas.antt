-- Lanes of eight bytes, halved and interleaved.
use Rattle.std.proofs.Common.{◌≡◌, ℕ, ◌*◌, ◌/◌, ◌%◌, ◌-◌, ◌^◌, ◌≤◌, List, [], ◌∷◌, ◌++◌, length, replicate, refl, arith}
use Rattle.std.specs.Int.Bits.{bit_and}
use lib.Lanes.{zip2, pick_l}
use Rattle.orc_bits.proofs.PackedLemmas.{masked}
use Rattle.orc_bits.proofs.SpellsLemmas.{halves}

masked_byte : (n k : ℕ) → k ≤ 4 → bit_and n (1 * 2 ^ k % 256 - 1) ≡ n % 2 ^ k
masked_byte n k le = masked n k 8 (omega arith)

abbrev pub fronts : ℕ → List ℕ → List ℕ
fronts k v = zip2 (λ a b. a / 2 ^ b) v (replicate 8 k)

abbrev pub backs : ℕ → List ℕ → List ℕ
backs k v = zip2 bit_and v (replicate 8 (1 * 2 ^ k % 256 - 1))

pub interleaved : (k : ℕ) (v : List ℕ) → k ≤ 4 → length v ≡ 8
    → pick_l 0 (fronts k v ++ backs k v) (0 ∷ 8 ∷ 1 ∷ 9 ∷ 2 ∷ 10 ∷ 3 ∷ 11 ∷ 4 ∷ 12 ∷ 5 ∷ 13 ∷ 6 ∷ 14 ∷ 7 ∷ 15 ∷ []) ≡ halves k v
interleaved k (a ∷ b ∷ c ∷ d ∷ e ∷ f ∷ g ∷ h ∷ []) le p =
    rw (masked_byte a k le, masked_byte b k le, masked_byte c k le, masked_byte d k le, masked_byte e k le, masked_byte f k le, masked_byte g k le, masked_byte h k le) refl
interleaved k [] le p = absurd (omega (arith, p))
interleaved k (a ∷ []) le p = absurd (omega (arith, p))
interleaved k (a ∷ b ∷ []) le p = absurd (omega (arith, p))
interleaved k (a ∷ b ∷ c ∷ []) le p = absurd (omega (arith, p))
interleaved k (a ∷ b ∷ c ∷ d ∷ []) le p = absurd (omega (arith, p))
interleaved k (a ∷ b ∷ c ∷ d ∷ e ∷ []) le p = absurd (omega (arith, p))
interleaved k (a ∷ b ∷ c ∷ d ∷ e ∷ f ∷ []) le p = absurd (omega (arith, p))
interleaved k (a ∷ b ∷ c ∷ d ∷ e ∷ f ∷ g ∷ []) le p = absurd (omega (arith, p))
interleaved k (a ∷ b ∷ c ∷ d ∷ e ∷ f ∷ g ∷ h ∷ i ∷ v) le p = absurd (omega (arith, p))
