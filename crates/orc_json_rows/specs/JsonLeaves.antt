-- Values of JSON under columns that contain no other (ORC specification, "Types"; a date is RFC 3339's full-date or a
-- number, and binary is hexadecimal digits).
use Rattle.std.specs.Prelude.{◌≡◌, ℕ, ℤ, List, Bool, true, false, Some, None, option_and_then, Ok, ◌||◌, ◌⊎◌, if◌then◌else◌}
use Rattle.hex.specs.Hex.{decode_of, encode_lower}
use Rattle.serde_json.specs.Data.{Data, null, boolean, number, string, array, object}
use Rattle.serde_json.specs.Find.{as_number, as_integer, of_integer}
use Rattle.orc_values.specs.declared.kind.Scalar.{Scalar}
use Rattle.orc_values.specs.declared.kind.Scalar.TheVariants as kind
use Rattle.orc_json_rows.specs.declared.json_fault.JsonFault.{JsonFault}
use Rattle.orc_json_rows.specs.declared.json_fault.JsonFault.TheVariants as fault
use Rattle.orc_values.specs.Cells.{Atom, bool, int, date, text, bytes, Cell, null as null_cell, leaf}
use Rattle.orc_json_rows.specs.Days.{has_text, day_text, IsDayText}
use Rattle.orc_values.specs.Fits.{atom_fits}
use Rattle.orc_values.specs.Kinds.{is_kind}

-- a number that serde_json holds as one of 64 bits, with a sign or without
abbrev pub IsInteger : Data → ℤ → Type 0
IsInteger d z = option_and_then as_integer (as_number d) ≡ Some z

-- hexadecimal digits, in either case
abbrev pub IsHex : List ℕ → List ℕ → Type 0
IsHex s bs = decode_of s ≡ Ok bs

-- the value of JSON spells the atom
abbrev pub SpellsAtom : Data → Atom → Type 0
SpellsAtom d (bool b) = d ≡ boolean b
SpellsAtom d (int z) = IsInteger d z
SpellsAtom d (date n) = IsInteger d n ⊎ ((s : List ℕ) × (d ≡ string s) × IsDayText s n)
SpellsAtom d (text s) = d ≡ string s
SpellsAtom d (bytes bs) = (s : List ℕ) × (d ≡ string s) × IsHex s bs

-- and that atom is a value of the kind
abbrev pub LeafSpells : Scalar → Data → Atom → Type 0
LeafSpells k d a = SpellsAtom d a × (atom_fits k a ≡ true)

-- null spells the null cell under every kind
abbrev pub ScalarSpells : Scalar → Data → Cell → Type 0
ScalarSpells k d null_cell = d ≡ null
ScalarSpells k d (leaf a) = LeafSpells k d a
ScalarSpells k d _ = ⊥

-- ---- why a value is refused; null never is

-- whether a value of this kind is spelled by a number
abbrev pub takes_numbers : Scalar → Bool
takes_numbers kind.Byte = true
takes_numbers kind.Short = true
takes_numbers kind.Int = true
takes_numbers kind.Long = true
takes_numbers kind.Date = true
takes_numbers _ = false

-- whether a value of this kind is spelled by a string
abbrev pub takes_strings : Scalar → Bool
takes_strings k = is_kind kind.String k || is_kind kind.Binary k || is_kind kind.Date k

-- a value of another type of JSON than those that the kind takes, or a number that is no integer
abbrev pub IsMisfit : Scalar → Data → Type 0
IsMisfit k null = ⊥
IsMisfit k (boolean b) = is_kind kind.Boolean k ≡ false
IsMisfit k (number n) = (takes_numbers k ≡ false) ⊎ (as_integer n ≡ None)
IsMisfit k (string s) = takes_strings k ≡ false
IsMisfit k (array ds) = Unit {0}
IsMisfit k (object ms) = Unit {0}

-- an integer that is neither a number nor a date of the kind, which takes numbers
abbrev pub IsOutOfRange : Scalar → Data → Type 0
IsOutOfRange k d =
    (takes_numbers k ≡ true)
    × ((z : ℤ) × IsInteger d z × (atom_fits k (int z) ≡ false) × (atom_fits k (date z) ≡ false))

-- a string under a date that is no date's text
abbrev pub IsBadDate : Scalar → Data → Type 0
IsBadDate k d = (is_kind kind.Date k ≡ true) × ((s : List ℕ) × (d ≡ string s) × ((n : ℤ) → IsDayText s n → ⊥))

-- a string under binary that isn't hexadecimal digits
abbrev pub IsBadHex : Scalar → Data → Type 0
IsBadHex k d = (is_kind kind.Binary k ≡ true) × ((s : List ℕ) × (d ≡ string s) × ((bs : List ℕ) → IsHex s bs → ⊥))

-- Memory may run out with any value. The other faults are of texts and of objects.
abbrev pub LeafFault : Scalar → Data → JsonFault → Type 0
LeafFault k d fault.WrongShape = IsMisfit k d
LeafFault k d fault.Range = IsOutOfRange k d
LeafFault k d fault.BadDate = IsBadDate k d
LeafFault k d fault.BadHex = IsBadHex k d
LeafFault k d fault.OutOfMemory = Unit {0}
LeafFault k d _ = ⊥

-- ---- printing

-- a date as its text, and as a number where it has none
abbrev pub date_json : ℤ → Data
date_json n = if has_text n then string (day_text n) else number (of_integer n)

-- a single value as JSON
abbrev pub atom_json : Atom → Data
atom_json (bool b) = boolean b
atom_json (int z) = number (of_integer z)
atom_json (date n) = date_json n
atom_json (text s) = string s
atom_json (bytes bs) = string (encode_lower bs)

-- a cell that contains no other, and is not null
abbrev pub IsLeaf : Cell → Type 0
IsLeaf (leaf a) = Unit {0}
IsLeaf _ = ⊥

-- the value of JSON is that of the leaf
abbrev pub LeafPrints : Cell → Data → Type 0
LeafPrints (leaf a) d = d ≡ atom_json a
LeafPrints _ d = ⊥
