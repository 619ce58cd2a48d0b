-- How a request ends, command by command: files are found or made first, and then the command runs.
use Rattle.std.specs.Prelude.{◌≡◌, ◌⊎◌, ℕ, List, [], ◌∷◌, map, Option, Some, None, IsSome, Result, Ok, Err}
use Rattle.std.specs.List.{All, Any}
use Rattle.std.specs.Borrow.{Bor}
use Rattle.std.specs.Io.KnownBytes.{Keeps}
use Rattle.orc_row_batch.specs.declared.options.Options.{Options}
use Rattle.orc_tail.specs.declared.fault.FileFault.TheVariants as file
use Rattle.orc_cli_output.specs.Output.{write_failed}
use Rattle.orc_cli_output.specs.declared.fault.CliFault.{CliFault}
use Rattle.orc_cli_output.specs.declared.fault.CliFault.TheVariants.{File}
use Rattle.orc_cli_args.specs.declared.command_line.Refusal.TheVariants.{Fault, NotUnderstood}
use Rattle.orc_cli_args.specs.declared.request.Request.{Request}
use Rattle.orc_cli_args.specs.declared.request.Request.TheVariants.{Ints, Rows, Show, Check, Write, Merge}
use Rattle.orc_merger.specs.declared.fault.MergeFault.{MergeFault}
use Rattle.orc_merger.specs.declared.fault.MergeFault.TheVariants.{WriteFailed as MergeWriteFailed}
use Rattle.orc_cli_commands.specs.declared.ending.Ending.{Ending}
use Rattle.orc_cli_commands.specs.declared.ending.Ending.TheVariants.{Refused, NotMerged}
use Rattle.orc_cli_commands.specs.declared.outcome.Outcome.{Outcome}
use Rattle.orc_cli_commands.specs.Places.{Finds, Makes, CanFail, CanFailAt}
use Rattle.orc_cli_commands.specs.Commands.{AnswersInts, AnswersRows, AnswersShow, AnswersCheck, AnswersWrite, AnswersMerge}

-- the request ends as the command does
abbrev pub EndsAs : (Result Outcome CliFault → Type 0) → Result Outcome Ending → Type 0
EndsAs Holds (Ok outcome) = Holds (Ok outcome)
EndsAs Holds (Err (Refused (Fault fault))) = Holds (Err fault)
EndsAs Holds (Err (Refused NotUnderstood)) = ⊥
EndsAs Holds (Err (NotMerged fault)) = ⊥

-- the request ends as the merge does
abbrev pub EndsMerge : (Result Outcome MergeFault → Type 0) → Result Outcome Ending → Type 0
EndsMerge Holds (Ok outcome) = Holds (Ok outcome)
EndsMerge Holds (Err (Refused refusal)) = ⊥
EndsMerge Holds (Err (NotMerged fault)) = Holds (Err fault)

-- the request fails with this fault of a layer
abbrev pub IsRefusedAs : Result Outcome Ending → CliFault → Type 0
IsRefusedAs result fault = result ≡ Err (Refused (Fault fault))

-- All inputs are found, and `Found` holds; or one isn't found, or there is no memory for all of them, and `NotFound`
-- holds. If the bytes of each are known, then all are found unless memory runs out. If the place lacks one, then not
-- all are found.
abbrev pub FindsAll : (List ℕ → Type 0) → (List ℕ → Option (List ℕ)) → List (List ℕ) → Type 0
    → (CliFault → Type 0) → Type 0
FindsAll lacks told paths Found NotFound =
    ((Any lacks paths → ⊥) × Found)
    ⊎ (((All (λ path. IsSome (told path)) paths → ⊥) × NotFound (File file.SourceFailed))
    ⊎ NotFound (File file.OutOfMemory))

-- the path is that of the file that the request makes
abbrev pub IsMadeBy : Request → List ℕ → Type 0
IsMadeBy (Write _ _ _ output) path = path ≡ output.now
IsMadeBy (Merge output _) path = path ≡ output.now
IsMadeBy _ path = ⊥

-- A place before the request: the bytes that it knows at paths, and the paths at which it lacks a file.
module _ (told : List ℕ → Option (List ℕ)) (lacks : List ℕ → Type 0) where
  -- a file is found, and the command runs; or it isn't found, and nothing is printed
  abbrev pub AnswersFile : Option (List ℕ) → Option (List ℕ) → Result Outcome Ending → List ℕ
      → (Result Outcome CliFault → Type 0) → Type 0
  AnswersFile old new result path Holds = Finds (lacks path) (told path) (EndsAs Holds result)
      (IsRefusedAs result (File file.SourceFailed) × Keeps old new)

  -- The place after the request: the bytes that it knows of files that were made, and that it is unchanged. The
  -- counts are those of failures of its files.
  module _ {L O : Type 0} (made : List ℕ → Option (List ℕ)) (unmade : Type 0) (input_failures : L → ℕ)
      (output_failures : O → ℕ) (result : Result Outcome Ending) where
    -- a file is made, and `Holds` holds for its first bytes, or it isn't closed; or no file is made
    abbrev pub AnswersMaking : List ℕ → Type 0 → (Option (List ℕ) → Type 0) → Type 0
    AnswersMaking path NotClosed Holds = Makes (lacks path) (told path)
        (λ first. Holds first ⊎ ((lacks path → ⊥) × NotClosed))
        (unmade × (IsRefusedAs result write_failed ⊎ IsRefusedAs result (File file.OutOfMemory)))

    -- a file is written from the lines of another one
    abbrev pub AnswersWriting : List ℕ → Options → List ℕ → List ℕ → Type 0
    AnswersWriting schema options from to = Finds (lacks from) (told from)
        (AnswersMaking to (IsRefusedAs result write_failed)
        (λ first. EndsAs (AnswersWrite schema options (told from) (CanFail input_failures) (CanFail output_failures)
        first (made to)) result))
        (unmade × (IsRefusedAs result (File file.SourceFailed) ⊎ IsRefusedAs result (File file.OutOfMemory)))

    -- files are joined into one
    abbrev pub AnswersJoining : List ℕ → List (List ℕ) → Type 0
    AnswersJoining to paths = FindsAll lacks told paths
        (AnswersMaking to (result ≡ Err (NotMerged MergeWriteFailed))
        (λ first. EndsMerge (AnswersMerge (map told paths) (CanFailAt input_failures) (CanFail output_failures)
        first (made to)) result))
        (λ fault. unmade × IsRefusedAs result fault)

-- How a request ends over a place. A request that makes no file leaves the place unchanged, and one that makes a file
-- prints nothing.
abbrev pub Answers : {I L O : Type 0} → (List ℕ → Option (List ℕ)) → (List ℕ → Type 0)
    → (List ℕ → Option (List ℕ)) → Type 0 → (I → ℕ) → (L → ℕ) → (O → ℕ)
    → Option (List ℕ) → Option (List ℕ) → Result Outcome Ending → Request → Type 0
Answers told lacks made unmade input lines output old new result (Ints rle sign hex) =
    unmade × EndsAs (AnswersInts rle sign hex.now old new) result
Answers told lacks made unmade input lines output old new result (Rows path from) =
    unmade × AnswersFile told lacks old new result path.now (AnswersRows (told path.now) from (CanFail input) old new)
Answers told lacks made unmade input lines output old new result (Show path) =
    unmade × AnswersFile told lacks old new result path.now (AnswersShow (told path.now) (CanFail input) old new)
Answers told lacks made unmade input lines output old new result (Check path) =
    unmade × AnswersFile told lacks old new result path.now (AnswersCheck (told path.now) (CanFail input) old new)
Answers told lacks made unmade input lines output old new result (Write schema options from to) =
    Keeps old new × AnswersWriting told lacks made unmade lines output result schema.now options from.now to.now
Answers told lacks made unmade input lines output old new result (Merge to paths) =
    Keeps old new × AnswersJoining told lacks made unmade input output result to.now (map (λ path. path.now) paths.now)
