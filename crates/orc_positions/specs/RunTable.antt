-- The places of a stream's runs, in which positions are looked up (ORC specification, "Row Group Index").
use Rattle.std.specs.Prelude.{◌≡◌, ℕ, ◌+◌, ◌*◌, ◌<◌, ◌≤◌, List, [], ◌∷◌, length, get_or}
use Rattle.orc_rle.specs.Stream.{AreRuns}

-- the offset at which each run begins, and the one at which the last run ends
abbrev pub offsets_of : {A : Type 0} → ℕ → List (List ℕ × List A) → List ℕ
offsets_of at [] = at ∷ []
offsets_of at (run ∷ runs) = at ∷ offsets_of (at + length run.0) runs

-- the number of values before each of these places
abbrev pub counts_of : {A : Type 0} → ℕ → List (List ℕ × List A) → List ℕ
counts_of before [] = before ∷ []
counts_of before (run ∷ runs) = before ∷ counts_of (before + length run.1) runs

-- what a clause sees of a table of places
pub record Places : Type 0 where
  pub offsets : List ℕ
  pub counts : List ℕ

-- each number is above those before it
abbrev pub Rises : List ℕ → Type 0
Rises numbers = (i j : ℕ) → i < j → j < length numbers → get_or numbers i 0 < get_or numbers j 0

-- these are the places of the stream's runs and of its end
pub record ArePlaces {A : Type 0} (is_run : List ℕ → List A → Type 0) (bytes : List ℕ) (places : Places) : Type 0 where
  pub runs : List (List ℕ × List A)
  pub values : List A
  pub stream : AreRuns is_run runs bytes values
  pub offsets_are : places.offsets ≡ offsets_of 0 runs
  pub counts_are : places.counts ≡ counts_of 0 runs

-- the offset is one of the places, and the number of values before it plus `skip` is n
abbrev pub Names : Places → ℕ → ℕ → ℕ → Type 0
Names places offset skip n =
    (i : ℕ) × (i < length places.offsets)
    × (get_or places.offsets i 0 ≡ offset)
    × (get_or places.counts i 0 + skip ≡ n)

-- the offset is one of the places of byte runs, and n is `bits`, at most 8, plus eight for each byte before the
-- offset or skipped
abbrev pub NamesBit : Places → ℕ → ℕ → ℕ → ℕ → Type 0
NamesBit places offset skip bits n = (whole : ℕ) × (bits ≤ 8) × (n ≡ 8 * whole + bits) × Names places offset skip whole
