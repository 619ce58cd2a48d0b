-- What the fields of a message say, in the words of its table (Protocol Buffers encoding, "Message
-- Structure", "Last One Wins", "Repeated Elements"). A list of fields has its last field first.
use Rattle.std.specs.Prelude.{◌≡◌, ℕ, ◌<◌, ◌^◌, List, [], ◌∷◌, ◌++◌, Option, Some, None, cond, nat_le}
use Rattle.std.specs.Option.{option_or, option_map, option_to_list, IfSome}
use Rattle.std.specs.List.{AllByRecursion, AllZip}
use Rattle.orc_wire.specs.Fields.{Item}
use Rattle.orc_wire.specs.Members.{Member}
use Rattle.orc_wire.specs.Spells.{number_in, bytes_of_field, Spells}
use Rattle.orc_wire.specs.Parts.{inside}

-- the last value that a field gives
abbrev pub newest : {V : Type 0} → (Item → Option V) → List Item → Option V
newest f [] = None
newest f (item ∷ before) = option_or (f item) (newest f before)

-- the values that the fields give, in order
abbrev pub in_order : {V : Type 0} → (Item → Option V) → List Item → List V
in_order f [] = []
in_order f (item ∷ before) = in_order f before ++ option_to_list (f item)

-- the texts of the fields with numbers from n on, in their order
abbrev pub kept_texts : ℕ → List Item → List ℕ
kept_texts n [] = []
kept_texts n (item ∷ before) = kept_texts n before ++ cond (nat_le n item.number) item.text []

-- each number with that field number has 32 bits
abbrev pub AreSmall : ℕ → List Item → Type 0
AreSmall n fields = AllByRecursion (λ item. IfSome (number_in n item) (λ m. m < 2 ^ 32)) fields

-- the parts, the last of which stands first, joined in their order
abbrev pub joined_parts : {V : Type 0} → List (List V) → List V
joined_parts [] = []
joined_parts (part ∷ before) = joined_parts before ++ part

-- each field gives its part
abbrev pub GivesParts : {P : Type 0} → (Item → P → Type 0) → List Item → List P → Type 0
GivesParts gives = AllZip gives

-- all parts of a list are joined in order
pub record JoinsParts {V : Type 0} (gives : Item → List V → Type 0)
    (fields : List Item) (values : List V) : Type 0 where
  pub parts : List (List V)
  pub are : GivesParts gives fields parts
  pub joined : values ≡ joined_parts parts

-- the values that are there, in their order; the last part stands first
abbrev pub some_parts : {V : Type 0} → List (Option V) → List V
some_parts [] = []
some_parts (part ∷ before) = some_parts before ++ option_to_list part

-- what each field gives, if anything, in order
pub record JoinsSome {V : Type 0} (gives : Item → Option V → Type 0)
    (fields : List Item) (values : List V) : Type 0 where
  pub parts : List (Option V)
  pub are : GivesParts gives fields parts
  pub joined : values ≡ some_parts parts

-- a field with field number n and bytes, and these bytes
abbrev pub with_field_bytes : ℕ → Item → Option (Item × List ℕ)
with_field_bytes n item = option_map (λ b. (item, b)) (bytes_of_field n item)

-- exactly one field with field number n has bytes, and they spell the message
pub record IsOnly {C : Type 0} (members : Member C) (required n : ℕ) (fields : List Item) (content : C) : Type 0 where
  pub item : Item
  pub bytes : List ℕ
  pub one : in_order (with_field_bytes n) fields ≡ (item, bytes) ∷ []
  pub spells : Spells members required (inside item bytes) bytes content

-- no field with field number n has bytes, or exactly one
abbrev pub OnlyMessage : {C : Type 0} → Member C → ℕ → ℕ → List Item → Option C → Type 0
OnlyMessage members required n fields None = in_order (with_field_bytes n) fields ≡ []
OnlyMessage members required n fields (Some content) = IsOnly members required n fields content
