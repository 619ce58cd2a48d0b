-- What is left of a stream of runs (ORC specification, "Run Length Encoding").
use Rattle.std.specs.Prelude.{◌≡◌, ℕ, List, ◌++◌}
use Rattle.orc_rle.specs.Stream.{IsStream, RunsLeft}

-- the values come first in the bytes, in runs, whatever follows
abbrev pub RunsBegin : {A : Type 0} → (List ℕ → List A → Type 0) → List ℕ → List A → Type 0
RunsBegin {A = A} is_run bytes values =
    (front : List ℕ) × (back : List ℕ) × (more : List A)
    × (bytes ≡ front ++ back)
    × IsStream is_run front (values ++ more)

-- the values come first in what is left of a stream, whatever follows
abbrev pub RunsFirst : {A : Type 0} → (List ℕ → List A → Type 0) → List A → List ℕ → List A → Type 0
RunsFirst {A = A} is_run pending rest values =
    (front : List ℕ) × (back : List ℕ) × (more : List A)
    × (rest ≡ front ++ back)
    × RunsLeft is_run pending front (values ++ more)
