-- The rows of one stripe that are printed, all of them or those from a group on: their lines, and why there are none (own).
use Rattle.std.specs.Prelude.{◌≡◌, ◌≢◌, ℕ, List, [], false, ◌⊎◌, Option, Some, None}
use Rattle.std.specs.Io.KnownBytes.{Appends}
use Rattle.orc_values.specs.Cells.{Cell}
use Rattle.orc_json_rows.specs.FieldNames.{is_distinct}
use Rattle.orc_json_rows.specs.declared.json_fault.JsonFault.TheVariants as json
use Rattle.orc_column_reader.specs.Stripe.{HasFooter, IsStripe}
use Rattle.orc_directory.specs.declared.fault.StripeFault.{StripeFault}
use Rattle.orc_directory.specs.declared.fault.StripeFault.TheVariants as stripe
use Rattle.orc_stripe_reader.specs.Opened.{Opened}
use Rattle.orc_tail.specs.Stripes.{stripe_at}
use Rattle.orc_tail.specs.declared.tail.Tail.{Tail}
use Rattle.orc_tail.specs.declared.fault.FileFault.TheVariants.{Stripe}
use Rattle.orc_file_reader.specs.FileRows.{IsNoStripe}
use Rattle.orc_cli_output.specs.Output.{write_failed, AppendsPart, IsWantOfMemory}
use Rattle.orc_cli_output.specs.declared.fault.CliFault.{CliFault}
use Rattle.orc_cli_output.specs.declared.fault.CliFault.TheVariants.{Json, File}
use Rattle.orc_cli_rows.specs.Rows.{row_lines, HaveJson, AreOfStripe, EndsAt}
use Rattle.orc_cli_rows.specs.FromGroup.{AreRowsFrom, StopsFrom, AreLinesFrom, EndsAtGroup}

-- ---- a stripe that is opened

-- its bytes have the footer that it was opened with
abbrev pub IsOpened : Opened → Type 0
IsOpened view = HasFooter view.schema view.info view.bytes view.footer

-- its rows, or those from a group on
abbrev pub AreRowsOf : Opened → Option ℕ → List Cell → Type 0
AreRowsOf view None rows = IsStripe view.schema view.info view.bytes rows
AreRowsOf view (Some group) rows = AreRowsFrom view group rows

-- why there are none
abbrev pub HasNoRows : Opened → Option ℕ → StripeFault → Type 0
HasNoRows view None why = IsNoStripe view.schema view.info view.bytes why
HasNoRows view (Some group) why = StopsFrom view group why

-- the lines of such rows, which have JSON
pub record AreLinesOf (view : Opened) (from : Option ℕ) (lines : List ℕ) : Type 0 where
  pub rows : List Cell
  pub are : AreRowsOf view from rows
  pub have_json : HaveJson view.schema rows
  pub lines_are : lines ≡ row_lines view.schema rows

-- there are rows, and these have no JSON
pub record HaveNoJson (view : Opened) (from : Option ℕ) : Type 0 where
  pub rows : List Cell
  pub are : AreRowsOf view from rows
  pub some : rows ≢ []
  pub twice : is_distinct view.schema ≡ false

-- the lines are out
abbrev pub IsPrinted : Opened → Option ℕ → Option (List ℕ) → Option (List ℕ) → Type 0
IsPrinted view from old new = (own : List ℕ) × AreLinesOf view from own × Appends old new own

-- why there are no lines of the stripe, which has this number, or memory for them was refused
abbrev pub HasNoLines : Opened → Option ℕ → ℕ → CliFault → Type 0
HasNoLines view from n fault =
    IsWantOfMemory fault
    ⊎ (((why : StripeFault) × (fault ≡ File (Stripe n why)) × (why ≢ stripe.OutOfMemory) × HasNoRows view from why)
    ⊎ ((fault ≡ Json json.DuplicateField) × HaveNoJson view from))

-- Why the lines aren't out: none of them; or a part, where the output failed.
abbrev pub EndsWithin : Opened → Option ℕ → ℕ → Option (List ℕ) → Option (List ℕ) → CliFault → Type 0
EndsWithin view from n old new fault =
    (HasNoLines view from n fault × Appends old new [])
    ⊎ ((fault ≡ write_failed) × ((own : List ℕ) × AreLinesOf view from own × AppendsPart old new own))

-- ---- a stripe of a file

-- the lines of the stripe with this number, which has these bytes
abbrev pub AreLinesAt : Tail → ℕ → List ℕ → Option ℕ → List ℕ → Type 0
AreLinesAt tail n bytes None lines = AreOfStripe tail.schema (stripe_at tail.stripes n) bytes lines
AreLinesAt tail n bytes (Some group) lines = AreLinesFrom tail n bytes group lines

-- why they aren't out
abbrev pub EndsAtStripe : List ℕ → Tail → ℕ → Option ℕ → Option (List ℕ) → Option (List ℕ) → CliFault → Type 0
EndsAtStripe bytes tail n None old new fault = EndsAt tail.schema bytes n (stripe_at tail.stripes n) [] old new fault
EndsAtStripe bytes tail n (Some group) old new fault = EndsAtGroup bytes tail n group old new fault
