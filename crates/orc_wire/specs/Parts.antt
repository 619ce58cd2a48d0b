-- What one field gives to a member, and why it is refused (Protocol Buffers encoding, "Packed Repeated
-- Fields", "Submessages").
use Rattle.std.specs.Prelude.{◌≡◌, ℕ, ◌+◌, ◌-◌, ◌<◌, ◌≤◌, List, [], ◌∷◌, length, ◌++◌, ◌⊎◌, Option, Some, None}
use Rattle.orc_bits.specs.Varint.{IsVarint, NoVarint}
use Rattle.orc_bits.specs.declared.fault.BitFault.{BitFault}
use Rattle.orc_wire.specs.declared.fault.WireFault.{WireFault}
use Rattle.orc_wire.specs.declared.fault.WireFault.TheVariants.{ValueRange, RepeatedMessage}
use Rattle.orc_wire.specs.Fields.{Payload, varint, eight, four, sized, Item, fault_at}
use Rattle.orc_wire.specs.Members.{Member}
use Rattle.orc_wire.specs.Spells.{number_in, bytes_of_field, Spells, Faults}

-- the number of the field is not below the limit
pub record IsTooLarge (limit : ℕ) (n : ℕ) (item : Item) (fault : WireFault) : Type 0 where
  pub value : ℕ
  pub is : number_in n item ≡ Some value
  pub large : limit ≤ value
  pub fails : fault ≡ ValueRange item.place

-- varints below the limit, joined
abbrev pub AreVarints : ℕ → List ℕ → List ℕ → Type 0
AreVarints limit [] bytes = bytes ≡ []
AreVarints limit (n ∷ ns) bytes =
    (front : List ℕ) × (rest : List ℕ) × IsVarint front n
    × (n < limit)
    × (bytes ≡ front ++ rest)
    × AreVarints limit ns rest

-- the bytes are varints below the limit
abbrev pub HasVarints : ℕ → List ℕ → Type 0
HasVarints limit bytes = (ns : List ℕ) × AreVarints limit ns bytes

-- the bytes begin with a varint that is not below the limit
pub record IsLargeVarint (limit : ℕ) (bytes : List ℕ) : Type 0 where
  pub front : List ℕ
  pub rest : List ℕ
  pub value : ℕ
  pub is : IsVarint front value
  pub large : limit ≤ value
  pub parts : bytes ≡ front ++ rest

-- what comes next is no varint, or one that is not below the limit
abbrev pub FailsNext : ℕ → List ℕ → ℕ → WireFault → Type 0
FailsNext limit bytes place fault =
    ((bytes ≡ [] → ⊥) × (why : BitFault) × NoVarint bytes why × (fault ≡ fault_at place why))
    ⊎ (IsLargeVarint limit bytes × (fault ≡ ValueRange place))

-- after valid varints comes what is no varint, or one that is not below the limit
pub record FailsWithin (limit : ℕ) (bytes : List ℕ) (place : ℕ) (fault : WireFault) : Type 0 where
  pub values : List ℕ
  pub front : List ℕ
  pub rest : List ℕ
  pub are : AreVarints limit values front
  pub parts : bytes ≡ front ++ rest
  pub fails : FailsNext limit rest place fault

-- new is old and the numbers that the bytes spell
pub record AppendsVarints (limit : ℕ) (old new bytes : List ℕ) : Type 0 where
  pub values : List ℕ
  pub are : AreVarints limit values bytes
  pub parts : new ≡ old ++ values

-- a packed list's field gives its numbers, and a plain one its number
abbrev pub PackedPart : ℕ → Payload → List ℕ → Type 0
PackedPart limit (varint v) ns = (v < limit) × (ns ≡ v ∷ [])
PackedPart limit (eight b) ns = ns ≡ []
PackedPart limit (four b) ns = ns ≡ []
PackedPart limit (sized b) ns = AreVarints limit ns b

-- why the payload is no number or list of numbers below the limit
abbrev pub PackedFails : ℕ → Payload → ℕ → WireFault → Type 0
PackedFails limit (varint v) place fault = (limit ≤ v) × (fault ≡ ValueRange place)
PackedFails limit (eight b) place fault = ⊥
PackedFails limit (four b) place fault = ⊥
PackedFails limit (sized b) place fault = FailsWithin limit b place fault

-- the place at which the content of a field begins
abbrev pub inside : Item → List ℕ → ℕ
inside item bytes = item.place + (length item.text - length bytes)

module _ {C : Type 0} (members : Member C) (required : ℕ) where
  -- the message that the bytes spell, if there are any
  abbrev pub MessageIn : ℕ → Item → Option (List ℕ) → Option C → Type 0
  MessageIn n item None p = p ≡ None
  MessageIn n item (Some b) p = (c : C) × (p ≡ Some c) × Spells members required (inside item b) b c

  -- why the bytes spell no message
  abbrev pub MessageFails : ℕ → Item → Option (List ℕ) → WireFault → Type 0
  MessageFails n item None fault = ⊥
  MessageFails n item (Some b) fault = Faults members required (inside item b) b fault

  -- why a field is refused: its bytes spell no message, or there was a message before
  abbrev pub OnlyFails : ℕ → Item → Option C → WireFault → Type 0
  OnlyFails n item None fault = MessageFails n item (bytes_of_field n item) fault
  OnlyFails n item (Some c) fault = (b : List ℕ) × (bytes_of_field n item ≡ Some b) × (fault ≡ RepeatedMessage item.place)

-- the message before, or the one that the field gives; not both
abbrev pub JoinsOnly : {V : Type 0} → Option V → Option V → Option V → Type 0
JoinsOnly None p v = v ≡ p
JoinsOnly (Some c) p v = (p ≡ None) × (v ≡ Some c)
