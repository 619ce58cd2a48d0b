-- What `rows` prints of a file: a row a line, as compact JSON.
use Rattle.std.specs.Prelude.{◌≡◌, ◌≢◌, ℕ, ◌<◌, ◌≤◌, ◌-◌, List, [], ◌∷◌, ◌++◌, length, take, drop, true, false, ◌⊎◌, Option}
use Rattle.std.specs.List.{flat_map}
use Rattle.std.specs.Io.KnownBytes.{Appends}
use Rattle.serde_json.specs.Written.{compact_text}
use Rattle.orc_wire.specs.declared.stripe_info.StripeInfo.{StripeInfo}
use Rattle.orc_values.specs.Cells.{Cell}
use Rattle.orc_values.specs.Shapes.{Shape}
use Rattle.orc_json_rows.specs.FieldNames.{is_distinct}
use Rattle.orc_json_rows.specs.JsonPrinting.{json_of}
use Rattle.orc_json_rows.specs.declared.json_fault.JsonFault.TheVariants as json
use Rattle.orc_column_reader.specs.Stripe.{IsStripe}
use Rattle.orc_tail.specs.Stripes.{stripe_at, stripe_bytes}
use Rattle.orc_file_reader.specs.FileRows.{HasRows, StripeRefused}
use Rattle.orc_tail.specs.declared.tail.Tail.{Tail}
use Rattle.orc_tail.specs.declared.fault.FileFault.{FileFault}
use Rattle.orc_tail.specs.declared.fault.FileFault.TheVariants as file
use Rattle.orc_cli_output.specs.Output.{write_failed, IsOfSource}
use Rattle.orc_cli_output.specs.declared.fault.CliFault.{CliFault}
use Rattle.orc_cli_output.specs.declared.fault.CliFault.TheVariants.{Run, Types, Json, File}

-- a row's JSON, without blanks, and a line end
abbrev pub row_line : Shape → Cell → List ℕ
row_line s row = compact_text (json_of s row) ++ 10 ∷ []

-- the rows in order
abbrev pub row_lines : Shape → List Cell → List ℕ
row_lines s rows = flat_map (row_line s) rows

-- Rows have JSON where no struct of their schema names a field twice; where there are none, nothing is asked.
abbrev pub HaveJson : Shape → List Cell → Type 0
HaveJson s rows = (rows ≡ []) ⊎ (is_distinct s ≡ true)

-- the lines are those of a stripe with these bytes
pub record AreOfStripe (s : Shape) (info : StripeInfo) (bytes lines : List ℕ) : Type 0 where
  pub rows : List Cell
  pub stripe : IsStripe s info bytes rows
  pub have_json : HaveJson s rows
  pub lines_are : lines ≡ row_lines s rows

-- the lines are those of the stripes
pub record AreLinesOfStripes (s : Shape) (bytes : List ℕ) (infos : List StripeInfo) (lines : List ℕ) : Type 0 where
  pub rows : List Cell
  pub has_rows : HasRows s bytes infos rows
  pub have_json : HaveJson s rows
  pub lines_are : lines ≡ row_lines s rows

-- a stripe has rows, and these have no JSON
pub record HasNoJson (s : Shape) (info : StripeInfo) (bytes : List ℕ) : Type 0 where
  pub rows : List Cell
  pub stripe : IsStripe s info bytes rows
  pub some : rows ≢ []
  pub twice : is_distinct s ≡ false

-- Why the stripe with this number has no lines: it has no rows, or these have no JSON.
abbrev pub StripeStops : Shape → List ℕ → ℕ → StripeInfo → CliFault → Type 0
StripeStops s bytes n info fault =
    ((why : FileFault) × (fault ≡ File why) × StripeRefused s bytes n info why)
    ⊎ ((fault ≡ Json json.DuplicateField) × HasNoJson s info (stripe_bytes info bytes))

-- Why the lines of the stripe with this number aren't out, behind these that are; and of them a part is out where the
-- output failed.
abbrev pub EndsAt : Shape → List ℕ → ℕ → StripeInfo → List ℕ → Option (List ℕ) → Option (List ℕ) → CliFault → Type 0
EndsAt s bytes n info before old new fault =
    ((StripeStops s bytes n info fault ⊎ IsOfSource fault) × Appends old new before)
    ⊎ ((fault ≡ write_failed) × ((own : List ℕ) × AreOfStripe s info (stripe_bytes info bytes) own
    × ((count : ℕ) × (count < length own) × Appends old new (before ++ take count own))))

-- Why printing ends in a file with this tail, which began with the stripe of this number: the lines of some stripes
-- from there on are out, all of them, and of the next one there is a reason why its lines aren't.
pub record EndsIn (bytes : List ℕ) (tail : Tail) (first : ℕ)
    (old new : Option (List ℕ)) (fault : CliFault) : Type 0 where
  pub n : ℕ
  pub begun : first ≤ n
  pub some : n < length tail.stripes
  pub lines : List ℕ
  pub before : AreLinesOfStripes tail.schema bytes (take (n - first) (drop first tail.stripes)) lines
  pub ends : EndsAt tail.schema bytes n (stripe_at tail.stripes n) lines old new fault

-- the layers that refuse rows: that of JSON, and that of files
abbrev pub RefusesRows : CliFault → Type 0
RefusesRows (Run why) = ⊥
RefusesRows (Types why) = ⊥
RefusesRows (Json why) = Unit {0}
RefusesRows (File why) = Unit {0}

-- The layers whose want of memory `rows` answers: that of JSON, for a row's text, and that of files, which is the
-- program's own too.
abbrev pub IsWantOfRows : CliFault → Type 0
IsWantOfRows fault = (fault ≡ Json json.OutOfMemory) ⊎ (fault ≡ File file.OutOfMemory)
