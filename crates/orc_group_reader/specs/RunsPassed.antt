-- The runs that a reader has passed which began at an offset (ORC specification, "Row Group Index").
use Rattle.std.specs.Prelude.{◌≡◌, ℕ, ◌+◌, List, ◌++◌, length, drop, ◌⊎◌}
use Rattle.orc_rle.specs.Stream.{IsStream}

-- there are runs from one place to another
pub record AreRunsTo {A : Type 0} (is_run : List ℕ → List A → Type 0) (bytes : List ℕ) (from to : ℕ) : Type 0 where
  pub front : List ℕ
  pub rest : List ℕ
  pub values : List A
  pub parts : drop from bytes ≡ front ++ rest
  pub stream : IsStream is_run front values
  pub to_is : to ≡ from + length front

-- a run begins at the start and ends at the end, after others from the offset on
pub record BeginsLast {A : Type 0} (is_run : List ℕ → List A → Type 0) (bytes : List ℕ)
    (offset start end : ℕ) : Type 0 where
  pub front : List ℕ
  pub text : List ℕ
  pub rest : List ℕ
  pub before : List A
  pub last : List A
  pub parts : drop offset bytes ≡ front ++ (text ++ rest)
  pub stream : IsStream is_run front before
  pub run : is_run text last
  pub start_is : start ≡ offset + length front
  pub end_is : end ≡ start + length text

-- the last run from the offset to the end begins at the start; if there is none, all three are the same place
abbrev pub IsLastRun : {A : Type 0} → (List ℕ → List A → Type 0) → List ℕ → ℕ → ℕ → ℕ → Type 0
IsLastRun is_run bytes offset start end =
    ((start ≡ offset) × (end ≡ offset)) ⊎ BeginsLast is_run bytes offset start end
