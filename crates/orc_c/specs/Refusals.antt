-- What each call makes of bytes in memory, and why it fails, by the definitions of the command that it calls (own).
use Rattle.std.specs.Prelude.{◌≡◌, ◌≢◌, ◌≤◌, ◌⊎◌, ℕ, List, [], length, sum, Option, Some, None}
use Rattle.std.specs.Borrow.{Bor}
use Rattle.std.specs.Str.{IsUtf8}
use Rattle.orc_rle.specs.declared.sign.Rle.{Rle}
use Rattle.orc_rle.specs.declared.sign.Rle.TheVariants.{One, Two}
use Rattle.orc_values.specs.Shapes.{Shape}
use Rattle.orc_values.specs.Cells.{Cell}
use Rattle.orc_types.specs.Schemas.{HasText}
use Rattle.orc_values.specs.Limits.{cell_limit}
use Rattle.orc_row_batch.specs.declared.options.Options.{Options}
use Rattle.orc_tail.specs.Tails.{IsTail}
use Rattle.orc_tail.specs.declared.tail.Tail.{Tail}
use Rattle.orc_tail.specs.declared.fault.FileFault.TheVariants as file
use Rattle.orc_file_reader.specs.FileRows.{FileIs}
use Rattle.orc_file_writer.specs.Writing.{WroteWholeFile}
use Rattle.orc_merger.specs.Outcomes.{IsAnswer, WroteMerge}
use Rattle.orc_merger.specs.declared.fault.MergeFault.{MergeFault}
use Rattle.orc_merger.specs.declared.fault.MergeFault.TheVariants as merge
use Rattle.orc_cli_output.specs.Output.{IsNotOpened, IsWantOfMemory, write_failed}
use Rattle.orc_cli_output.specs.declared.fault.CliFault.{CliFault}
use Rattle.orc_cli_output.specs.declared.fault.CliFault.TheVariants.{File}
use Rattle.orc_cli_check.specs.Lines.{IsNotChecked}
use Rattle.orc_cli_show.specs.Show.{show_lines}
use Rattle.orc_cli_rows.specs.Rows.{HaveJson}
use Rattle.orc_cli_rows.specs.Printed.{IsAsked, ArePrinted, RefusesPlace}
use Rattle.orc_cli_write.specs.Lines.{AreRowsOfLines}
use Rattle.orc_cli_write.specs.Writes.{RefusesWrite}
use Rattle.orc_c.specs.Inputs.{cut}
use Rattle.orc_c.specs.Memory.{ToldAs}
use Rattle.orc_c.specs.declared.fault.CallFault.TheVariants.{BadLengths, BadOptions, NotUtf8}
use Rattle.orc_c.specs.declared.fault.Fault.{Fault}
use Rattle.orc_c.specs.declared.fault.Fault.TheVariants.{Command, Merge, Call}

-- the fault is a command's, and this holds for it
abbrev pub OfCommand : (CliFault → Type 0) → Fault → Type 0
OfCommand Holds (Command fault) = Holds fault
OfCommand Holds (Merge fault) = ⊥
OfCommand Holds (Call fault) = ⊥

-- ---- orcm_check

-- why a file in memory isn't checked: its bytes or want of memory, and only want of memory if the bytes are a file
pub record NotChecked (bytes : List ℕ) (fault : CliFault) : Type 0 where
  pub why : IsNotChecked bytes fault
  pub source : fault ≢ File file.SourceFailed
  pub output : fault ≢ write_failed
  pub only : (tail : Tail) (rows : List Cell) → FileIs bytes tail rows → fault ≡ File file.OutOfMemory

-- ---- orcm_show

-- the lines show the tail of these bytes
abbrev pub IsOutline : List ℕ → List ℕ → Type 0
IsOutline bytes lines = (tail : Tail) × IsTail bytes tail × (lines ≡ show_lines tail)

-- why a file in memory isn't shown: its bytes or want of memory, and only want of memory if the bytes have a tail
pub record NotShown (bytes : List ℕ) (fault : CliFault) : Type 0 where
  pub why : IsNotOpened bytes fault
  pub source : fault ≢ File file.SourceFailed
  pub output : fault ≢ write_failed
  pub only : (tail : Tail) → IsTail bytes tail → IsWantOfMemory fault

-- ---- orcm_rows

-- the text that a caller's bytes are, or none if there are no bytes
abbrev pub IsTextIn : List ℕ → Option (Bor (List ℕ)) → Type 0
IsTextIn from None = from ≡ []
IsTextIn from (Some text) = (from ≢ []) × (text.now ≡ from)

-- what is printed of a file to an empty output, from the stripe and group on that a text names, if there is one
abbrev pub ArePrintedLines : List ℕ → Option (Bor (List ℕ)) → List ℕ → Type 0
ArePrintedLines bytes from lines = (start : _) × IsAsked from start × ArePrinted bytes start (Some []) (Some lines)

-- why rows of a file in memory aren't printed
pub record NotPrinted (bytes : List ℕ) (from : Option (Bor (List ℕ))) (fault : CliFault) : Type 0 where
  pub was : CliFault
  pub printed : List ℕ
  pub why : RefusesPlace bytes from (Some []) (Some printed) was
  pub told : ToldAs was fault
  pub source : fault ≢ File file.SourceFailed
  pub only : from ≡ None → (tail : Tail) (rows : List Cell) → FileIs bytes tail rows → HaveJson tail.schema rows
      → IsWantOfMemory fault

-- what is printed of a file from the stripe and group on that the caller's bytes name, if there are any
abbrev pub AreRowLines : List ℕ → List ℕ → List ℕ → Type 0
AreRowLines bytes from lines = (text : Option (Bor (List ℕ))) × IsTextIn from text × ArePrintedLines bytes text lines

-- why rows aren't printed from the stripe and group on that the caller's bytes name, if there are any
abbrev pub NotPrintedFrom : List ℕ → List ℕ → Fault → Type 0
NotPrintedFrom bytes from (Command fault) =
    (text : Option (Bor (List ℕ))) × IsTextIn from text × NotPrinted bytes text fault
NotPrintedFrom bytes from (Merge fault) = ⊥
NotPrintedFrom bytes from (Call BadLengths) = ⊥
NotPrintedFrom bytes from (Call BadOptions) = ⊥
NotPrintedFrom bytes from (Call NotUtf8) = IsUtf8 from → ⊥

-- ---- orcm_write

-- the version of integer runs that a number stands for
abbrev pub IsVersion : ℕ → Rle → Type 0
IsVersion number One = number ≡ 1
IsVersion number Two = number ≡ 2

-- there is no such version of integer runs, or a stripe can't have this number of rows
abbrev pub AreNoOptions : ℕ → ℕ → Type 0
AreNoOptions rle stripe_rows = ((version : Rle) → IsVersion rle version → ⊥) ⊎ ((stripe_rows ≡ 0) ⊎ (cell_limit ≤ stripe_rows))

-- the options that numbers stand for, or none if no file can be written with them
abbrev pub IsOptions : ℕ → ℕ → ℕ → Option Options → Type 0
IsOptions rle stride stripe_rows None = AreNoOptions rle stripe_rows
IsOptions rle stride stripe_rows (Some options) =
    IsVersion rle options.rle × (options.stride ≡ stride) × (options.stripe_rows ≡ stripe_rows)

-- the whole file of the rows that the lines spell
abbrev pub IsFileOf : List ℕ → Options → List ℕ → List ℕ → Type 0
IsFileOf schema options lines bytes =
    (s : Shape) × (rows : List Cell) × (tail : Tail) × HasText s schema × AreRowsOfLines s lines rows
    × WroteWholeFile options s tail (Some []) (Some bytes) rows

-- why no file is written from lines in memory
pub record NotWritten (schema : List ℕ) (options : Options) (lines : List ℕ) (fault : CliFault) : Type 0 where
  pub was : CliFault
  pub written : List ℕ
  pub why : RefusesWrite options schema lines (Some []) (Some written) was
  pub told : ToldAs was fault
  pub only : (s : Shape) (rows : List Cell) → HasText s schema → AreRowsOfLines s lines rows
      → (fault ≡ File file.Limit) ⊎ IsWantOfMemory fault

-- why no file is written from lines in memory, or the schema isn't UTF-8
abbrev pub NotWrittenOf : List ℕ → Options → List ℕ → Fault → Type 0
NotWrittenOf schema options lines (Command fault) = NotWritten schema options lines fault
NotWrittenOf schema options lines (Merge fault) = ⊥
NotWrittenOf schema options lines (Call BadLengths) = ⊥
NotWrittenOf schema options lines (Call BadOptions) = ⊥
NotWrittenOf schema options lines (Call NotUtf8) = IsUtf8 schema → ⊥

-- the whole file of the rows that the lines spell, with options that are given as numbers
abbrev pub IsFileOfLines : List ℕ → ℕ → ℕ → ℕ → List ℕ → List ℕ → Type 0
IsFileOfLines schema rle stride stripe_rows lines bytes =
    (options : Options) × IsOptions rle stride stripe_rows (Some options) × IsFileOf schema options lines bytes

-- why no file is written from lines, with options that are given as numbers
abbrev pub NotWrittenLines : List ℕ → ℕ → ℕ → ℕ → List ℕ → Fault → Type 0
NotWrittenLines schema rle stride stripe_rows lines fault =
    ((fault ≡ Call BadOptions) × AreNoOptions rle stripe_rows)
    ⊎ ((options : Options) × IsOptions rle stride stripe_rows (Some options)
    × NotWrittenOf schema options lines fault)

-- ---- orcm_merge

-- the merged file of these files, of fewer than 2^64 bytes
abbrev pub IsMergeOf : List (List ℕ) → List ℕ → Type 0
IsMergeOf files bytes = (tail : Tail) × WroteMerge files tail (Some []) (Some bytes)

-- why files in memory aren't merged
pub record NotMerged (files : List (List ℕ)) (fault : MergeFault) : Type 0 where
  pub why : IsAnswer files fault
  pub source : (i : ℕ) → fault ≢ merge.SourceFailed i
  pub output : fault ≢ merge.WriteFailed

-- the merged file of inputs that are stored one after the other
abbrev pub IsMergeOfCut : List ℕ → List ℕ → List ℕ → Type 0
IsMergeOfCut lengths inputs bytes = (sum lengths ≡ length inputs) × IsMergeOf (cut lengths inputs) bytes

-- the lengths don't add up to the number of bytes, or memory ran out
abbrev pub NotCut : List ℕ → List ℕ → Fault → Type 0
NotCut lengths inputs fault =
    ((fault ≡ Call BadLengths) × (sum lengths ≢ length inputs)) ⊎ (fault ≡ Merge merge.OutOfMemory)

-- why inputs that are stored one after the other aren't merged
abbrev pub NotMergedCut : List ℕ → List ℕ → Fault → Type 0
NotMergedCut lengths inputs fault =
    NotCut lengths inputs fault
    ⊎ ((why : MergeFault) × (sum lengths ≡ length inputs) × (fault ≡ Merge why) × NotMerged (cut lengths inputs) why)
