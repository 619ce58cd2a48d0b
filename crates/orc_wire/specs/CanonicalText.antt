-- The canonical text of a message, in words: ascending numbers, shortest varints, packed lists (Protocol
-- Buffers encoding, "Serialization Stability"; the order and the forms are ORC's usual ones).
use Rattle.std.specs.Prelude.{◌≡◌, ℕ, ◌+◌, ◌*◌, List, [], ◌∷◌, length, ◌++◌, Option, Some, None, Bool, true, false}
use Rattle.orc_bits.specs.Varint.{varint_text}
use Rattle.orc_wire.specs.Fields.{Payload, varint, eight, four, sized, wire}

-- the shortest text of a field
abbrev pub payload_text : Payload → List ℕ
payload_text (varint v) = varint_text v
payload_text (eight b) = b
payload_text (four b) = b
payload_text (sized b) = varint_text (length b) ++ b

-- a field's text: its key, then what it carries
abbrev pub field_text : ℕ → Payload → List ℕ
field_text n payload = varint_text (n * 8 + wire payload) ++ payload_text payload

-- a field with a number
abbrev pub number_text : ℕ → ℕ → List ℕ
number_text n v = field_text n (varint v)

-- a field with the length of the bytes, and the bytes
abbrev pub sized_text : ℕ → List ℕ → List ℕ
sized_text n bytes = field_text n (sized bytes)

-- a field with bytes, or nothing if there are no bytes
abbrev pub some_text : ℕ → List ℕ → List ℕ
some_text n [] = []
some_text n (b ∷ bytes) = sized_text n (b ∷ bytes)

-- a field if there is a value, else nothing
abbrev pub known_text : {V : Type 0} → (V → Payload) → ℕ → Option V → List ℕ
known_text payload n None = []
known_text payload n (Some v) = field_text n (payload v)

-- a field for each item
abbrev pub list_text : {V : Type 0} → (V → Payload) → ℕ → List V → List ℕ
list_text payload n [] = []
list_text payload n (v ∷ vs) = field_text n (payload v) ++ list_text payload n vs

-- a field with the message's text, or nothing if there is no message or its text is empty
abbrev pub shown_text : {C : Type 0} → (C → List ℕ) → ℕ → Option C → List ℕ
shown_text inner n None = []
shown_text inner n (Some c) = some_text n (inner c)

-- shortest varints, one after the other
abbrev pub varints_text : List ℕ → List ℕ
varints_text [] = []
varints_text (n ∷ ns) = varint_text n ++ varints_text ns

-- a packed list, or nothing for an empty one
abbrev pub packed_text : ℕ → List ℕ → List ℕ
packed_text n ns = some_text n (varints_text ns)

-- 1 for true
abbrev pub flag_number : Bool → ℕ
flag_number true = 1
flag_number false = 0

-- the bytes begin with the front
pub record IsFront (front bytes : List ℕ) : Type 0 where
  pub more : List ℕ
  pub parts : bytes ≡ front ++ more

-- each front of the old bytes is a front of the new bytes
abbrev pub KeepsFront : List ℕ → List ℕ → Type 0
KeepsFront old new = (front : List ℕ) → IsFront front old → IsFront front new
