-- What is wrong with values that streams do store (ORC specification, "Column Encodings"). `first` holds for the
-- numbers that come first in a stream, whatever follows.
use Rattle.std.specs.Prelude.{◌≡◌, ℕ, ◌<◌, ℤ, pos, negsuc, nat_lt, Bool, true, false, Option, Some, None, List, ◌++◌, length, map, sum, slice_get, ◌⊎◌}
use Rattle.std.specs.List.{AllByRecursion}
use Rattle.std.specs.Str.{is_utf8}
use Rattle.orc_column_reader.specs.RunFaults.{Integers, AreIntegersOf, IntegersFirst}
use Rattle.orc_column_reader.specs.Spellings.{size, concatenated}

-- not all of the numbers that come first pass
abbrev pub NotAll : (ℤ → Bool) → (List ℤ → Type 0) → Type 0
NotAll passes first = (numbers : List ℤ) × first numbers × (AllByRecursion (λ n. passes n ≡ true) numbers → ⊥)

-- whether an integer is an index of a dictionary with that many entries
abbrev pub is_index : ℕ → ℤ → Bool
is_index entries (pos i) = nat_lt i entries
is_index entries (negsuc i) = false

-- whether an entry is UTF-8, if there is one
abbrev pub is_text : Option (List ℕ) → Bool
is_text None = true
is_text (Some bytes) = is_utf8 bytes

-- whether the entry with this index is UTF-8, if there is one
abbrev pub names_text : List (List ℕ) → ℤ → Bool
names_text entries (pos i) = is_text (slice_get entries i)
names_text entries (negsuc i) = true

-- the lengths that come first cut the bytes into strings that aren't all UTF-8
abbrev pub CutsNoText : (List ℤ → Type 0) → List ℕ → Type 0
CutsNoText first bytes =
    (byte_strings : List (List ℕ)) × (rest : List ℕ)
    × first (map size byte_strings)
    × (bytes ≡ concatenated byte_strings ++ rest)
    × (AllByRecursion (λ g. is_utf8 g ≡ true) byte_strings → ⊥)

-- the lengths that come first add up to more than `most`
abbrev pub PassTogether : (List ℤ → Type 0) → ℕ → Type 0
PassTogether first most = (lengths : List ℕ) × first (map pos lengths) × (most < sum lengths)

-- all lengths add up to less than `count`
abbrev pub StayBelow : (List ℤ → Type 0) → ℕ → Type 0
StayBelow all count = (lengths : List ℕ) × all (map pos lengths) × (sum lengths < count)

-- there are fewer bytes than the lengths that come first add up to, or more than all lengths add up to
abbrev pub HasOtherLength : Integers → List ℕ → Type 0
HasOtherLength lengths bytes =
    PassTogether (IntegersFirst lengths) (length bytes) ⊎ StayBelow (AreIntegersOf lengths) (length bytes)
