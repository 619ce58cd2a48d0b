-- What is put into an output of text, behind all that was put there before (own).
use Rattle.std.specs.Prelude.{ℕ, List, ◌++◌}

-- these bytes are
abbrev pub Puts : {T : Type 0} → (T → List ℕ → Type 0) → T → T → List ℕ → Type 0
Puts holds old new bytes = (before : List ℕ) → holds old before → holds new (before ++ bytes)

-- some bytes are
abbrev pub PutsSome : {T : Type 0} → (T → List ℕ → Type 0) → T → T → Type 0
PutsSome holds old new = (before : List ℕ) → holds old before → (more : List ℕ) × holds new (before ++ more)
