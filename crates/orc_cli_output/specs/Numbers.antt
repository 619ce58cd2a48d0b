-- Numbers among the arguments of a command (own).
use Rattle.std.specs.Prelude.{◌≡◌, ℕ, ◌<◌, ◌^◌, List}
use Rattle.std.specs.Str.Parse.{IsNumeral, digits_value}

-- one or more decimal digits, and the number below 2^32 that they spell
pub record IsDecimalNumber (digits : List ℕ) (n : ℕ) : Type 0 where
  pub numeral : IsNumeral 10 digits
  pub value : n ≡ digits_value 10 digits
  pub fits : n < 2 ^ 32
