-- An output that got nothing, and what a command answers, over what is the same.
use Rattle.std.proofs.Common.{◌≡◌, ℕ, List, Option, Some, None, Result, Ok, Err, ap, refl, subst}
use Rattle.std.specs.Io.KnownBytes.{Keeps}
use Rattle.orc_row_batch.specs.declared.options.Options.{Options}
use Rattle.orc_cli_output.specs.declared.fault.CliFault.{CliFault}
use Rattle.orc_merger.specs.declared.fault.MergeFault.{MergeFault}
use Rattle.orc_cli_commands.specs.declared.outcome.Outcome.{Outcome}
use Rattle.orc_cli_commands.specs.Commands.{AnswersWrite, AnswersMerge}

pub keeps_same : (told : Option (List ℕ)) → Keeps told told
keeps_same None = tt
keeps_same (Some bytes) = refl

pub write_of : (schema : List ℕ) (options : Options) (F O : Type 0) (first : Option (List ℕ)) (told lines made wrote : Option (List ℕ))
    (answer result : Result Outcome CliFault) → lines ≡ told → wrote ≡ made → answer ≡ result
    → AnswersWrite schema options lines F O first wrote answer → AnswersWrite schema options told F O first made result
write_of schema options F O first told lines made wrote answer result is_lines is_made is_result said =
    let one = subst (λ (x : Option (List ℕ)). AnswersWrite schema options x F O first wrote answer) is_lines said in
    let two = subst (λ (x : Option (List ℕ)). AnswersWrite schema options told F O first x answer) is_made one in
    subst (λ (x : Result Outcome CliFault). AnswersWrite schema options told F O first made x) is_result two

pub merge_of : (F : ℕ → Type 0) (O : Type 0) (first : Option (List ℕ)) (told inputs : List (Option (List ℕ))) (made wrote : Option (List ℕ))
    (answer result : Result Outcome MergeFault) → inputs ≡ told → wrote ≡ made → answer ≡ result
    → AnswersMerge inputs F O first wrote answer → AnswersMerge told F O first made result
merge_of F O first told inputs made wrote answer result is_inputs is_made is_result said =
    let one = subst (λ (x : List (Option (List ℕ))). AnswersMerge x F O first wrote answer) is_inputs said in
    let two = subst (λ (x : Option (List ℕ)). AnswersMerge told F O first x answer) is_made one in
    subst (λ (x : Result Outcome MergeFault). AnswersMerge told F O first made x) is_result two

-- the fault of a result, or another one
abbrev fault_or : {T E : Type 0} → E → Result T E → E
fault_or other (Ok x) = other
fault_or other (Err e) = e

-- two refusals with one fault, whatever would be answered else
pub same_fault : {T U E : Type 0} (one other : E) → ◌≡◌ {A = Result T E} (Err one) (Err other) → ◌≡◌ {A = Result U E} (Err one) (Err other)
same_fault one other is = ap Err (ap (fault_or one) is)
