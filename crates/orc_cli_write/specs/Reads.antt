-- Lines that are read one after another: what is taken from the front of the bytes, how a reader's failures are
-- counted, and why not all of the lines' rows are written.
use Rattle.std.specs.Prelude.{◌≡◌, ◌≢◌, ℕ, ◌+◌, List, [], ◌∷◌, ◌++◌, ◌⊎◌, Option, Some, Result, Ok, Err, Bool, true, false}
use Rattle.std.specs.Option.{IfSome}
use Rattle.orc_row_batch.specs.declared.options.Options.{Options}
use Rattle.orc_values.specs.Shapes.{Shape}
use Rattle.orc_values.specs.Cells.{Cell}
use Rattle.orc_types.specs.Schemas.{HasText}
use Rattle.orc_trees.specs.TextFaults.{TextFault}
use Rattle.orc_trees.specs.declared.fault.TypeFault.{TypeFault}
use Rattle.orc_file_writer.specs.Writing.{Progress, HasPushed, IsCutOff}
use Rattle.orc_cli_write.specs.Lines.{IsLine, AreLines, LinesSpell}
use Rattle.orc_cli_write.specs.Writes.{EndsUnder, LimitStands, OpenAtLine, StandsOpen}
use Rattle.orc_cli_output.specs.Output.{IsOfSource}
use Rattle.orc_cli_output.specs.declared.fault.CliFault.{CliFault}
use Rattle.orc_cli_output.specs.declared.fault.CliFault.TheVariants.{Types, File}
use Rattle.orc_tail.specs.declared.fault.FileFault.TheVariants as file
use Rattle.orc_cli_write.specs.declared.line_fault.LineFault.{LineFault}
use Rattle.orc_cli_write.specs.declared.line_fault.LineFault.TheVariants.{Failed, OutOfMemory}

-- a line with its end is taken from the front, or the last line, which has no end
abbrev pub TakesLine : List ℕ → List ℕ → List ℕ → Type 0
TakesLine bytes line rest = (bytes ≡ line ++ 10 ∷ rest) ⊎ ((bytes ≡ line) × (line ≢ []) × (rest ≡ []))

-- what reading a line returns and leaves of the bytes that remained: the line, or that no bytes remained
abbrev pub HasRead : Bool → List ℕ → List ℕ → Option (List ℕ) → Type 0
HasRead true bytes line left = (rest : List ℕ) × (left ≡ Some rest) × IsLine line × TakesLine bytes line rest
HasRead false bytes line left = bytes ≡ []

-- the count of failures after a line was read: it rises with `Failed`, and not for want of memory
abbrev pub line_failures : {T : Type 0} → Result T LineFault → ℕ → ℕ
line_failures (Ok _) before = before
line_failures (Err Failed) before = before + 1
line_failures (Err OutOfMemory) before = before

-- the error of `write` if a line can't be read
abbrev pub refusal_of : LineFault → CliFault
refusal_of Failed = File file.SourceFailed
refusal_of OutOfMemory = File file.OutOfMemory

-- the rows are those of the first n lines, for some n
pub record BeginWith (s : Shape) (bytes : List ℕ) (rows : List Cell) : Type 0 where
  pub ended : List (List ℕ)
  pub last : List ℕ
  pub lines : AreLines bytes ended last
  pub before : List (List ℕ)
  pub after : List (List ℕ)
  pub lines_are : ended ++ last ∷ [] ≡ before ++ after
  pub spell : LinesSpell s before rows

-- Why no file of this schema is written from lines that are read: for a reason for which none is written from lines
-- that are held, or because reading failed or there was no memory for a line, after the first n lines.
abbrev pub EndsReading : Shape → List ℕ → CliFault → List Cell → Type 0
EndsReading s bytes fault rows = EndsUnder s bytes fault rows ⊎ (IsOfSource fault × BeginWith s bytes rows)

-- after `SourceFailed` no more was written than the full stripes of the rows given to the writer
abbrev pub OpenAtSource : Options → Shape → Option (List ℕ) → Option (List ℕ) → CliFault → List Cell → Type 0
OpenAtSource options s first told fault rows = fault ≡ File file.SourceFailed → StandsOpen options s first told rows

-- what was written after an error of lines that are read, as after an error of a line or of the source
abbrev pub LeavesReading : Options → Shape → Progress → Option (List ℕ) → CliFault → List Cell → Type 0
LeavesReading options s old told fault own =
    (first : Option (List ℕ)) (rows : List Cell) → HasPushed old first rows
    → LimitStands options s fault (rows ++ own) × IsCutOff options s first told (rows ++ own)
    × OpenAtLine options s first told fault (rows ++ own)
    × OpenAtSource options s first told fault (rows ++ own)

-- Why writing lines that are read fails, and what was written then. `left` has the bytes that remained, if they are
-- known.
abbrev pub RefusesLines : Options → List ℕ → Option (List ℕ) → Option (List ℕ) → Option (List ℕ) → CliFault → Type 0
RefusesLines options text left old new fault =
    ((why : TypeFault) × (fault ≡ Types why) × TextFault text why × (new ≡ old))
    ⊎ ((s : Shape) × (rows : List Cell) × HasText s text × IfSome left (λ bytes. EndsReading s bytes fault rows)
    × LimitStands options s fault rows × IsCutOff options s old new rows × OpenAtLine options s old new fault rows
    × OpenAtSource options s old new fault rows)
