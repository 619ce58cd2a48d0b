-- What stands at the front of a text's tokens, and the value of `serde_json` that it stands for (RFC 8259, "Values", "Objects",
-- "Arrays").
use Rattle.std.specs.Prelude.{◌≡◌, ℕ, List, length, true, Option, Some, None, option_map}
use Rattle.json.specs.Token.{Token}
use Rattle.json.specs.Json as json
use Rattle.serde_json.specs.Data.{Data, null, boolean, number, string, object, Items, Members, no_members}
use Rattle.serde_json.specs.Read.{number_of, of_json, of_items, of_members}
use Rattle.orc_values.specs.Shapes.{Fields, names_of}
use Rattle.orc_values.specs.Cells.{Cells}
use Rattle.orc_json_rows.specs.FieldNames.{all_known}
use Rattle.orc_json_rows.specs.JsonRows.{FieldsSpell}

-- the value of a token that is one by itself: a string, a number, true, false or null
abbrev pub token_data : Token → Option Data
token_data (Token.string s) = Some (string s)
token_data (Token.number s) = option_map number (number_of s)
token_data (Token.boolean b) = Some (boolean b)
token_data Token.null = Some null
token_data _ = None

-- A value comes first, and of what it stands for the fact holds. Arrays and objects nest so deep in it at most.
pub record ValueFront (Is : Data → Type 0) (depth : ℕ) (old new : List Token) : Type 0 where
  pub text : json.Json
  pub value : Data
  pub read : json.value depth old ≡ Some (text, new)
  pub means : of_json text ≡ Some value
  pub is : Is value

-- the elements of an array come first, and its closing bracket
pub record ItemsFront (Are : Items → Type 0) (depth : ℕ) (old new : List Token) : Type 0 where
  pub text : json.Items
  pub values : Items
  pub read : json.items (json.value depth) (length old) old ≡ Some (text, new)
  pub means : of_items text ≡ Some values
  pub are : Are values

-- The members of an object come first, and its closing brace. They stand for what they leave, put in one after the other.
pub record MembersFront (Are : Members → Type 0) (depth : ℕ) (old new : List Token) : Type 0 where
  pub text : json.Members
  pub members : Members
  pub read : json.members (json.value depth) (length old) old ≡ Some (text, new)
  pub means : of_members text no_members ≡ Some members
  pub are : Are members

-- the members spell the fields' cells, and none has another key
abbrev pub MembersSpell : Fields → Members → Cells → Type 0
MembersSpell fs ms cs = (all_known (names_of fs) ms ≡ true) × FieldsSpell fs (object ms) cs
