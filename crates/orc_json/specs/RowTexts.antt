-- The row that a text of JSON spells, and why a text spells none (texts by RFC 8259, "JSON Grammar"; types by the ORC
-- specification, "Types").
use Rattle.std.specs.Prelude.{◌≡◌, ◌⊎◌, ℕ, List, Some, None, true, false, IsUtf8}
use Rattle.serde_json.specs.Data.{Data}
use Rattle.serde_json.specs.Read.{read as read_text}
use Rattle.orc_values.specs.Cells.{Cell}
use Rattle.orc_json_rows.specs.FieldNames.{is_distinct}
use Rattle.orc_json_rows.specs.JsonFaults.{FaultAt, Somewhere}
use Rattle.orc_json_rows.specs.JsonRows.{JsonSpells}
use Rattle.orc_values.specs.Shapes.{Shape}
use Rattle.orc_json_rows.specs.declared.json_fault.JsonFault.{JsonFault}
use Rattle.orc_json_rows.specs.declared.json_fault.JsonFault.TheVariants as fault

-- the text is one of JSON, whose value spells the row, under a schema of which no struct names a field twice
pub record TextSpells (s : Shape) (text : List ℕ) (row : Cell) : Type 0 where
  pub value : Data
  pub utf8 : IsUtf8 text
  pub read : read_text text ≡ Some value
  pub spells : JsonSpells s value row
  pub distinct : is_distinct s ≡ true

-- the text isn't UTF-8, or it is no text of JSON
abbrev pub IsNoJson : List ℕ → Type 0
IsNoJson text = IsUtf8 text → read_text text ≡ None

-- why a value spells no row: some struct of the schema names a field twice, or the fault is in the value
abbrev pub ValueFault : Shape → Data → JsonFault → Type 0
ValueFault s value why = ((why ≡ fault.DuplicateField) × (is_distinct s ≡ false)) ⊎ Somewhere (FaultAt why) s value

-- why a text spells no row: it is no text of JSON, or it is one, of a value that spells none
abbrev pub RowTextFault : Shape → List ℕ → JsonFault → Type 0
RowTextFault s text why =
    ((why ≡ fault.Syntax) × IsNoJson text)
    ⊎ ((value : Data) × IsUtf8 text × (read_text text ≡ Some value) × ValueFault s value why)
