-- The widths of packed numbers (ORC v1, "Run Length Encoding", the table of encoded bit widths).
use Rattle.std.specs.Prelude.{ℕ, ◌+◌, ◌-◌, ◌*◌, ◌<◌, ◌≤◌, if◌then◌else◌, nat_lt}

-- the width of a code below 32: 1 to 24 for 0 to 23, then 26, 28, 30, 32, 40, 48, 56, 64
abbrev pub width_at : ℕ → ℕ
width_at code = if nat_lt code 24 then code + 1 else (if nat_lt code 28 then 2 * code - 22 else 8 * code - 184)

-- the code is of the least width that holds so many digits
pub record IsLeastWidth (digits code : ℕ) : Type 0 where
  pub is : code < 32
  pub holds : digits ≤ width_at code
  pub least : (other : ℕ) → other < 32 → digits ≤ width_at other → width_at code ≤ width_at other
