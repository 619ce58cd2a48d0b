-- Dictionaries of texts as they are written (ORC specification, "String, Char, and VarChar Columns").
use Rattle.std.specs.Prelude.{◌≡◌, ℕ, ◌*◌, ◌&&◌, nat_lt, nat_le, Bool, ℤ, pos, negsuc, Option, Some, None, List, map, slice_get}
use Rattle.std.specs.List.{Contains}
use Rattle.std.specs.List.Sorted.{IsStrictlySortedBy}
use Rattle.std.specs.Ordering.{nat_cmp}
use Rattle.std.specs.Cmp.Lexicographic.{slice_cmp}
use Rattle.orc_stripe_writer.specs.declared.byte_string.ByteString.{ByteString}

-- the bytes of strings
abbrev pub byte_strings : List ByteString → List (List ℕ)
byte_strings ps = map (λ (p : ByteString). p.0.now) ps

-- the entries are the texts, each once, in the order of unsigned bytes
pub record AreDistinct (texts entries : List (List ℕ)) : Type 0 where
  pub ascend : IsStrictlySortedBy (slice_cmp nat_cmp) entries
  pub there : (text : List ℕ) → Contains texts text → Contains entries text
  pub used : (text : List ℕ) → Contains entries text → Contains texts text

-- the entry at a place
abbrev pub dictionary_entry : List (List ℕ) → ℤ → Option (List ℕ)
dictionary_entry entries (pos i) = slice_get entries i
dictionary_entry entries (negsuc i) = None

-- the entries at these places are the texts
abbrev pub AreNamed : List (List ℕ) → List ℤ → List (List ℕ) → Type 0
AreNamed entries places texts = map (dictionary_entry entries) places ≡ map Some texts

-- A dictionary is written if there is a text and there are at least twice as many texts as entries.
abbrev pub is_worth : ℕ → ℕ → Bool
is_worth entries texts = nat_lt 0 texts && nat_le (2 * entries) texts
