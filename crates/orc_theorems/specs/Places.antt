-- Groups of a file's rows (ORC specification, "Row Group Index").
use Rattle.std.specs.Prelude.{ℕ, ◌+◌, ◌*◌, ◌<◌, length, take}
use Rattle.orc_tail.specs.Stripes.{stripe_at, stripes_rows}
use Rattle.orc_tail.specs.declared.tail.Tail.{Tail}

-- the file's stride is above 0, and it has a stripe and a group in it with these numbers
pub record IsPlace (tail : Tail) (stripe group : ℕ) : Type 0 where
  pub indexed : 0 < tail.stride
  pub there : stripe < length tail.stripes
  pub begun : group * tail.stride < (stripe_at tail.stripes stripe).number_of_rows

-- the number of the file's rows before a group of a stripe
abbrev pub rows_before : Tail → ℕ → ℕ → ℕ
rows_before tail stripe group = stripes_rows (take stripe tail.stripes) + group * tail.stride
