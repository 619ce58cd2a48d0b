-- Where the runs of a stream begin, and how many values come before each (ORC specification, "Row Group Index").
use Rattle.std.specs.Prelude.{◌≡◌, ℕ, ◌⊎◌, List, ◌++◌, length, drop}
use Rattle.orc_positions.specs.declared.run_start.RunStart.{RunStart}
use Rattle.orc_positions.specs.Position.{Begins}

-- a stream's start, where no run has been measured yet
abbrev pub start_of_stream : RunStart
start_of_stream = record { offset = 0; before = 0; len = 0; count = 0 }

-- the run at the offset has `len` bytes and `count` values; or it hasn't been measured, and both are 0
abbrev pub IsExtent : {A : Type 0} → (List ℕ → List A → Type 0) → List ℕ → ℕ → ℕ → ℕ → Type 0
IsExtent {A = A} is_run bytes offset len count =
    ((len ≡ 0) × (count ≡ 0))
    ⊎ ((text : List ℕ) × (rest : List ℕ) × (values : List A) × is_run text values
    × (drop offset bytes ≡ text ++ rest)
    × (len ≡ length text)
    × (count ≡ length values))

-- A run of the stream begins at the offset, or the stream ends there. `before` values come before it, and it has
-- `len` bytes and `count` values, or both are 0.
pub record IsRunStart {A : Type 0} (is_run : List ℕ → List A → Type 0) (bytes : List ℕ)
    (run_start : RunStart) : Type 0 where
  pub begins : Begins is_run bytes run_start.offset 0 run_start.before
  pub extent : IsExtent is_run bytes run_start.offset run_start.len run_start.count
