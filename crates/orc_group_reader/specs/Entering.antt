-- Streams that are read from a position on (ORC specification, "Row Group Index").
use Rattle.std.specs.Prelude.{◌≡◌, ℕ, Bool, List, length, drop}
use Rattle.orc_rle.specs.BitStream.{IsBitStream}
use Rattle.orc_rle.specs.Stream.{IsStream}
use Rattle.orc_positions.specs.Position.{Begins}
use Rattle.orc_positions.specs.BitPosition.{BeginsBits}

-- The bytes have the length of another stream and are the same from the offset on.
pub record AgreeFrom (offset : ℕ) (bytes other : List ℕ) : Type 0 where
  pub long : length bytes ≡ length other
  pub same : drop offset bytes ≡ drop offset other

-- For every stream with which the bytes agree and in which the position names value n, that stream's values from n on
-- are left. So what the bytes have before the offset doesn't matter.
abbrev pub EntersRuns : {A : Type 0} → (List ℕ → List A → Type 0) → List ℕ → ℕ → ℕ → (List A → Type 0) → Type 0
EntersRuns {A = A} is_run bytes offset skip left =
    (other : List ℕ) (all : List A) (n : ℕ) → Begins is_run other offset skip n
    → IsStream is_run other all → AgreeFrom offset bytes other
    → left (drop n all)

-- for every stream of booleans with which the bytes agree and in which the position names boolean n, its booleans
-- from n on are left
abbrev pub EntersBits : List ℕ → ℕ → ℕ → ℕ → (List Bool → Type 0) → Type 0
EntersBits bytes offset skip bits left =
    (other : List ℕ) (all : List Bool) (n : ℕ) → BeginsBits other (length all) offset skip bits n
    → IsBitStream other all → AgreeFrom offset bytes other
    → left (drop n all)
