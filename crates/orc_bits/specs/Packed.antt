-- Numbers as binary digits, one after the other, in bytes.
use Rattle.std.specs.Prelude.{◌≡◌, ℕ, zero, suc, ◌+◌, ◌*◌, ◌/◌, ◌%◌, ◌^◌, ◌<◌, List, [], ◌∷◌, ◌++◌, length}
use Rattle.std.specs.List.{AllByRecursion}

-- the w binary digits of n, the highest first
unfoldable pub bits : ℕ → ℕ → List ℕ
bits n zero = []
bits n (suc w) = bits (n / 2) w ++ (n % 2) ∷ []

-- the digits of numbers of one width, one number after the other
unfoldable pub digits : ℕ → List ℕ → List ℕ
digits w [] = []
digits w (v ∷ vs) = bits v w ++ digits w vs

-- the least number of bytes that holds n numbers of w digits
abbrev pub packed_len : ℕ → ℕ → ℕ
packed_len w n = (w * n + 7) / 8

-- each number is below 2 ^ w
abbrev pub AllFit : ℕ → List ℕ → Type 0
AllFit w vs = AllByRecursion (λ v. v < 2 ^ w) vs

-- values of w digits, whose digits one after the other are those of numbers of u digits
abbrev pub SpellsPacked : ℕ → List ℕ → ℕ → List ℕ → Type 0
SpellsPacked u numbers w values = AllFit w values × (digits w values ≡ digits u numbers)

-- the bytes are the least number that holds the values, and their digits begin with those of the values
pub record IsPacked (bytes : List ℕ) (w : ℕ) (values : List ℕ) : Type 0 where
  pub small : AllFit 8 bytes
  pub fit : AllFit w values
  pub len : length bytes ≡ packed_len w (length values)
  pub spare : List ℕ
  pub digits_are : digits 8 bytes ≡ digits w values ++ spare

-- the same with spare digits of 0
pub record IsPackedText (bytes : List ℕ) (w : ℕ) (values : List ℕ) : Type 0 where
  pub packed : IsPacked bytes w values
  pub zero_digits : AllByRecursion (λ d. d ≡ 0) packed.spare

-- new is old with the packed values at its end
abbrev pub AppendsPacked : ℕ → List ℕ → List ℕ → List ℕ → Type 0
AppendsPacked w values old new = (text : List ℕ) × IsPackedText text w values × (new ≡ old ++ text)
