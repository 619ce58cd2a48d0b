-- What each command returns and writes, given what the place knows of its files. These are the clauses of the
-- command's call. An output that is printed to has got `old` before and `new` afterwards.
use Rattle.std.specs.Prelude.{◌≡◌, ◌≢◌, ◌<◌, ◌⊎◌, ℕ, ℤ, List, [], length, map, Option, Some, None, IfSome, Result, Ok, Err, IfOk, IfErr, OnOk, MatchResult, IsErrAnd, IsErrOf}
use Rattle.std.specs.Borrow.{Bor}
use Rattle.std.specs.Io.KnownBytes.{Appends, Keeps}
use Rattle.orc_rle.specs.declared.fault.RunFault.{RunFault}
use Rattle.orc_rle.specs.declared.sign.Rle.{Rle}
use Rattle.orc_rle.specs.declared.sign.Sign.{Sign}
use Rattle.orc_values.specs.Cells.{Cell}
use Rattle.orc_values.specs.Shapes.{Shape}
use Rattle.orc_types.specs.Schemas.{HasText}
use Rattle.orc_json_rows.specs.declared.json_fault.JsonFault.TheVariants as json
use Rattle.orc_row_batch.specs.declared.options.Options.{Options}
use Rattle.orc_file_reader.specs.FileRows.{FileIs}
use Rattle.orc_tail.specs.Tails.{IsTail}
use Rattle.orc_file_writer.specs.Writing.{WroteWholeFile}
use Rattle.orc_tail.specs.declared.fault.FileFault.{FileFault}
use Rattle.orc_tail.specs.declared.fault.FileFault.TheVariants as file
use Rattle.orc_tail.specs.declared.tail.Tail.{Tail}
use Rattle.orc_cli_output.specs.Output.{AppendsPart, IsNotOpened, IsOutputOrMemory, IsOutsideFile, IsWantOfMemory, write_failed}
use Rattle.orc_cli_output.specs.declared.fault.CliFault.{CliFault}
use Rattle.orc_cli_output.specs.declared.fault.CliFault.TheVariants.{File, Run, Json}
use Rattle.orc_cli_ints.specs.Ints.{number_line, DigitsSpellInts, StopsInts, IsNoHex, RefusesInts, IsWantOfInts}
use Rattle.orc_cli_rows.specs.Rows.{HaveJson, IsWantOfRows}
use Rattle.orc_cli_rows.specs.Printed.{IsAsked, IsNotAsked, ArePrinted, RefusesPlace}
use Rattle.orc_cli_show.specs.Show.{show_lines, IsWantOfShow}
use Rattle.orc_cli_check.specs.Lines.{finding_lines, IsFoundOf, IsSourceOrMemory, IsNotChecked, IsWantOfCheck}
use Rattle.orc_cli_write.specs.Lines.{AreRowsOfLines}
use Rattle.orc_cli_write.specs.Writes.{IsOfWriter, IsWantOfWrite}
use Rattle.orc_cli_write.specs.Reads.{RefusesLines}
use Rattle.orc_merger.specs.Faults.{IsDeviceFault, IsOfBytes, IsOfMerge}
use Rattle.orc_merger.specs.Outcomes.{IsAnswer, WroteMerge, WrotePart}
use Rattle.orc_merger.specs.declared.fault.MergeFault.{MergeFault}
use Rattle.orc_merger.specs.declared.fault.MergeFault.TheVariants as merge
use Rattle.orc_cli_commands.specs.declared.outcome.Outcome.{Outcome}
use Rattle.orc_cli_commands.specs.declared.outcome.Outcome.TheVariants.{Done, Found}

-- a success of the command is `Done`
abbrev pub IsDone : {E : Type 0} → Result Outcome E → Type 0
IsDone result = IfOk result (λ outcome. outcome ≡ Done)

-- the outcome is `Found` if the number of findings isn't 0, and `Done` if it is
abbrev pub IsOfNumber : ℕ → Outcome → Type 0
IsOfNumber n outcome = (n ≡ 0 → outcome ≡ Done) × (0 < n → outcome ≡ Found)

-- `ints` of these digits
pub record AnswersInts (rle : Rle) (sign : Sign) (text : List ℕ) (old new : Option (List ℕ))
    (result : Result Outcome CliFault) : Type 0 where
  pub done : IsDone result
  pub written : OnOk result ((values : List ℤ) × DigitsSpellInts rle sign text values × Appends old new (number_line values))
  pub only : (values : List ℤ) → DigitsSpellInts rle sign text values → IfErr result IsOutputOrMemory
  pub refused : IfErr result (RefusesInts rle sign text)
  pub no_hex : IsNoHex text → IsErrAnd result (λ e. (e ≡ Json json.BadHex) ⊎ IsWantOfMemory e)
  pub stops : (fault : RunFault) → StopsInts rle sign text fault
      → IsErrAnd result (λ e. (e ≡ Run fault) ⊎ IsWantOfMemory e)
  pub part : (values : List ℤ) → DigitsSpellInts rle sign text values → result ≡ Err write_failed
      → AppendsPart old new (number_line values)
  pub nothing : IfErr result (λ e. e ≢ write_failed → Keeps old new)
  pub layer : IfErr result (λ e. IsWantOfMemory e → IsWantOfInts e)

-- `rows` of a file that was found, from the stripe and group on that a text names; `failed` says that such sources
-- can fail
pub record AnswersRows (told : Option (List ℕ)) (from : Option (Bor (List ℕ))) (failed : Type 0)
    (old new : Option (List ℕ)) (result : Result Outcome CliFault) : Type 0 where
  pub done : IsDone result
  pub written : OnOk result (IfSome told (λ bytes. (start : _) × IsAsked from start
      × ArePrinted bytes start old new))
  pub only : from ≡ None → IfSome told (λ bytes. (tail : Tail) (rows : List Cell) → FileIs bytes tail rows
      → HaveJson tail.schema rows → IfErr result IsOutsideFile)
  pub refused : IfErr result (λ e. IfSome told (λ bytes. RefusesPlace bytes from old new e))
  pub unread : ((start : _) → IsAsked from start → ⊥)
      → MatchResult result (λ _. ⊥) (λ e. IsNotAsked from e × Keeps old new)
  pub source : IfErr result (λ e. e ≡ File file.SourceFailed → failed)
  pub layer : IfErr result (λ e. IsWantOfMemory e → IsWantOfRows e)

-- `show` of a file that was found; `failed` says that such sources can fail
pub record AnswersShow (told : Option (List ℕ)) (failed : Type 0) (old new : Option (List ℕ))
    (result : Result Outcome CliFault) : Type 0 where
  pub done : IsDone result
  pub written : OnOk result (IfSome told (λ bytes. (tail : Tail) × IsTail bytes tail
      × Appends old new (show_lines tail)))
  pub only : IfSome told (λ bytes. (tail : Tail) → IsTail bytes tail → IfErr result IsOutsideFile)
  pub refused : IfErr result (λ e. IfSome told (λ bytes. e ≢ write_failed → IsNotOpened bytes e))
  pub nothing : IfErr result (λ e. e ≢ write_failed → Keeps old new)
  pub part : IfErr result (λ e. e ≡ write_failed → IfSome told (λ bytes. (tail : Tail) × IsTail bytes tail
      × AppendsPart old new (show_lines tail)))
  pub source : IfErr result (λ e. e ≡ File file.SourceFailed → failed)
  pub layer : IfErr result (λ e. IsWantOfMemory e → IsWantOfShow e)

-- `check` of a file that was found, whose findings decide the outcome; `failed` says that such sources can fail
pub record AnswersCheck (told : Option (List ℕ)) (failed : Type 0) (old new : Option (List ℕ))
    (result : Result Outcome CliFault) : Type 0 where
  pub written : IfOk result (λ outcome. IfSome told (λ bytes. IsFoundOf bytes
      (λ found. IsOfNumber (length found) outcome × Appends old new (finding_lines found))))
  pub only : IfSome told (λ bytes. (tail : Tail) (rows : List Cell) → FileIs bytes tail rows
      → IfErr result (λ e. (e ≡ write_failed) ⊎ IsSourceOrMemory e))
  pub refused : IfErr result (λ e. IfSome told (λ bytes. e ≢ write_failed → IsNotChecked bytes e))
  pub nothing : IfErr result (λ e. e ≢ write_failed → Keeps old new)
  pub part : IfErr result (λ e. e ≡ write_failed → IfSome told (λ bytes. IsFoundOf bytes
      (λ found. AppendsPart old new (finding_lines found))))
  pub source : IfErr result (λ e. e ≡ File file.SourceFailed → failed)
  pub layer : IfErr result (λ e. IsWantOfMemory e → IsWantOfCheck e)

-- `write` of lines that were found, to a file that was made, whose bytes are `first` at the start and `made` at the
-- end
pub record AnswersWrite (schema : List ℕ) (options : Options) (lines : Option (List ℕ))
    (lines_failed output_failed : Type 0) (first made : Option (List ℕ))
    (result : Result Outcome CliFault) : Type 0 where
  pub done : IsDone result
  pub written : OnOk result ((s : Shape) × (rows : List Cell) × (tail : Tail) × HasText s schema
      × IfSome lines (λ bytes. AreRowsOfLines s bytes rows) × WroteWholeFile options s tail first made rows)
  pub only : IfSome lines (λ bytes. (s : Shape) (rows : List Cell) → HasText s schema → AreRowsOfLines s bytes rows
      → IfErr result (λ e. IsOfWriter e ⊎ (e ≡ File file.SourceFailed)))
  pub refused : IfErr result (RefusesLines options schema lines first made)
  pub source : IfErr result (λ e. e ≡ File file.SourceFailed → lines_failed)
  pub output : IfErr result (λ e. e ≡ write_failed → output_failed)
  pub layer : IfErr result (λ e. IsWantOfMemory e → IsWantOfWrite first made e)

-- `merge` of inputs that were found, in order, to a file that was made, whose bytes are `first` at the start and
-- `made` at the end
pub record AnswersMerge (inputs : List (Option (List ℕ))) (input_failed : ℕ → Type 0) (output_failed : Type 0)
    (first made : Option (List ℕ)) (result : Result Outcome MergeFault) : Type 0 where
  pub done : IsDone result
  pub merged : OnOk result ((files : List (List ℕ)) → inputs ≡ map Some files
      → (tail : Tail) × WroteMerge files tail first made)
  pub refused : IfErr result (λ e. (files : List (List ℕ)) → inputs ≡ map Some files → IsAnswer files e)
  pub nothing : IfErr result (λ e. (IsDeviceFault e → ⊥) → made ≡ first)
  pub some : IfErr result (λ e. (files : List (List ℕ)) → inputs ≡ map Some files → WrotePart files first made)
  pub memory : IsErrOf result merge.OutOfMemory → made ≡ first
  pub source : (i : ℕ) → IsErrOf result (merge.SourceFailed i) → input_failed i
  pub file : (i : ℕ) (why : FileFault) → IsErrOf result (merge.File i why) → IsOfBytes why
  pub named : IfErr result (IsOfMerge (length inputs))
  pub output : IsErrOf result merge.WriteFailed → output_failed
