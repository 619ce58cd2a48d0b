-- Base 128 varints (Protocol Buffers encoding, "Base 128 Varints").
use Rattle.std.specs.Prelude.{◌≡◌, ℕ, ◌+◌, ◌*◌, ◌%◌, ◌^◌, ◌<◌, ◌≤◌, List, [], ◌∷◌, ◌++◌, length, take, slice_index, ◌/◌, zero, suc, cond, nat_lt}
use Rattle.std.specs.List.{AllByRecursion}
use Rattle.orc_bits.specs.declared.fault.BitFault.{BitFault}
use Rattle.orc_bits.specs.declared.fault.BitFault.TheVariants.{Short, TooLong, OutOfMemory}

-- the sum of the low seven bits of each byte, the byte at i times 128 ^ i
abbrev pub varint_value : List ℕ → ℕ
varint_value [] = 0
varint_value (b ∷ bs) = b % 128 + 128 * varint_value bs

-- another byte follows
abbrev pub GoesOn : ℕ → Type 0
GoesOn b = (128 ≤ b) × (b < 256)

-- all but the last are 128 or more
abbrev pub IsChain : List ℕ → Type 0
IsChain [] = ⊥
IsChain (b ∷ []) = b < 128
IsChain (b ∷ c ∷ bs) = GoesOn b × IsChain (c ∷ bs)

-- the bytes are a varint of n
pub record IsVarint (bytes : List ℕ) (n : ℕ) : Type 0 where
  pub chain : IsChain bytes
  pub len : length bytes ≤ 10
  pub value : n ≡ varint_value bytes
  pub fits : n < 2 ^ 64

-- no varint of the same number is shorter
pub record IsShortest (bytes : List ℕ) (n : ℕ) : Type 0 where
  pub varint : IsVarint bytes n
  pub shortest : (others : List ℕ) → IsVarint others n → length bytes ≤ length others

-- numbers that stand for bytes
abbrev pub AllBytes : List ℕ → Type 0
AllBytes bytes = AllByRecursion (λ b. b < 256) bytes

-- a varint stands in front
pub record HasVarint (bytes : List ℕ) : Type 0 where
  pub front : List ℕ
  pub rest : List ℕ
  pub number : ℕ
  pub parts : bytes ≡ front ++ rest
  pub is : IsVarint front number

-- why bytes have no varint in front: they end while each byte asks for another, or a tenth byte asks
-- for more than 64 bits
abbrev pub NoVarint : List ℕ → BitFault → Type 0
NoVarint bytes Short = (length bytes < 10) × AllByRecursion GoesOn bytes
NoVarint bytes TooLong = AllByRecursion GoesOn (take 9 bytes) × (9 < length bytes) × (1 < slice_index bytes 9)
NoVarint bytes OutOfMemory = ⊥

-- seven bits a byte, the lowest first, in one byte more than the count at most
abbrev pub groups : ℕ → ℕ → List ℕ
groups zero n = n ∷ []
groups (suc k) n = cond (nat_lt n 128) (n ∷ []) ((n % 128 + 128) ∷ groups k (n / 128))

-- the shortest varint of a number below 2 ^ 64
unfoldable pub varint_text : ℕ → List ℕ
varint_text n = groups 9 n
