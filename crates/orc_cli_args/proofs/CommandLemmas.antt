-- What a parse of the program's command line answers, and what it means for who reads words.
use Rattle.std.proofs.Common.{◌≡◌, ◌∙◌, ◌⊎◌, inl, inr, List, Result, Ok, Err, sym, subst, true, IfOk, IfErr}
use Rattle.clap.specs.Walk.{Text}
use Rattle.clap.specs.Simple.{App, HasMatchesOf}
use Rattle.clap.specs.Faults.{fault_of, is_simple_and_free}
use Rattle.clap.specs.Kinds.{FailsBy}
use Rattle.clap.specs.Values.{kind_of}
use Rattle.clap.specs.declared.error.Error.{Error}
use Rattle.clap.specs.declared.error.kind.ErrorKind.{ErrorKind}
use Rattle.clap.specs.declared.error.kind.ErrorKind.TheVariants.{DisplayHelp, DisplayVersion, OutOfMemory}
use Rattle.clap.specs.declared.parser.matches.ArgMatches.{ArgMatches}
use Rattle.orc_cli_parser.specs.Commands.{Choices, orcm}
use Rattle.orc_cli_args.specs.Commands.{IsFound, WordsFail, AsksText, IsNotAskedIn}
use Rattle.orc_cli_args.specs.declared.command_line.Refusal.TheVariants.{NotUnderstood}
use Rattle.orc_cli_parser.proofs.TableLemmas.{is_simple-orcm, is_free-orcm}

-- What a parse of the program's command line answers, in the words of its table.
module _ (app : App) (choices : Choices) (is : app ≡ orcm choices) (words : List Text) (result : Result ArgMatches Error) where
  of_kinds : (is_simple_and_free app ≡ true → FailsBy (fault_of app words) result) → FailsBy (fault_of (orcm choices) words) result
  of_kinds h = let P : App → Type 0 = λ a. is_simple_and_free a ≡ true → FailsBy (fault_of a words) result in subst P is h (is_free-orcm choices)

  of_matches : IfOk result (HasMatchesOf app words) → IfOk result (HasMatchesOf (orcm choices) words)
  of_matches h = let P : App → Type 0 = λ a. IfOk result (HasMatchesOf a words) in subst P is h

found_of_kinds : (choices : Choices) (words : List Text) (result : Result ArgMatches Error) → FailsBy (fault_of (orcm choices) words) result
    → IfOk result (HasMatchesOf (orcm choices) words) → IfOk result (IsFound words)
found_of_kinds choices words (Ok m) none h =
    let matches = h (is_simple-orcm choices) in record { choices = choices; faultless = none; own = matches.0; behind = matches.1 }
found_of_kinds choices words (Err e) kinds h = tt

refused_by_kinds : (choices : Choices) (words : List Text) (result : Result ArgMatches Error) → FailsBy (fault_of (orcm choices) words) result
    → IfErr result (λ e. (kind_of e ≡ OutOfMemory) ⊎ WordsFail words (kind_of e))
refused_by_kinds choices words (Ok m) none = tt
refused_by_kinds choices words (Err e) (inl memory) = inl memory
refused_by_kinds choices words (Err e) (inr among) = inr (choices, among)

pub parse_found : (app : App) (choices : Choices) → app ≡ orcm choices → (words : List Text) (result : Result ArgMatches Error)
    → (is_simple_and_free app ≡ true → FailsBy (fault_of app words) result) → IfOk result (HasMatchesOf app words) → IfOk result (IsFound words)
parse_found app choices is words result kinds matches =
    found_of_kinds choices words result (of_kinds app choices is words result kinds) (of_matches app choices is words result matches)

pub parse_refused : (app : App) (choices : Choices) → app ≡ orcm choices → (words : List Text) (result : Result ArgMatches Error)
    → (is_simple_and_free app ≡ true → FailsBy (fault_of app words) result) → IfErr result (λ e. (kind_of e ≡ OutOfMemory) ⊎ WordsFail words (kind_of e))
parse_refused app choices is words result kinds = refused_by_kinds choices words result (of_kinds app choices is words result kinds)

-- ---- what a fault's kind means for who reads words

asks_text : (words : List Text) (kind : ErrorKind) → (kind ≡ OutOfMemory) ⊎ WordsFail words kind
    → (kind ≡ DisplayHelp) ⊎ (kind ≡ DisplayVersion) → AsksText words
asks_text words kind (inl memory) (inl help) = let e : OutOfMemory ≡ DisplayHelp = sym memory ∙ help in cc
asks_text words kind (inl memory) (inr version) = let e : OutOfMemory ≡ DisplayVersion = sym memory ∙ version in cc
asks_text words kind (inr fault) (inl help) = inl (subst (WordsFail words) help fault)
asks_text words kind (inr fault) (inr version) = inr (subst (WordsFail words) version fault)

not_understood : (words : List Text) (kind : ErrorKind) → (kind ≡ OutOfMemory) ⊎ WordsFail words kind → (kind ≡ OutOfMemory → ⊥)
    → (kind ≡ DisplayHelp → ⊥) → (kind ≡ DisplayVersion → ⊥) → IsNotAskedIn words NotUnderstood
not_understood words kind (inl memory) some no_help no_version = absurd (some memory)
not_understood words kind (inr fault) some no_help no_version = (kind, fault, no_help, no_version)

-- the fault's kind, as who reads it has it
module _ (words : List Text) (kind of : ErrorKind) (is : kind ≡ of) (fault : (of ≡ OutOfMemory) ⊎ WordsFail words of) where
  read_kind : (kind ≡ OutOfMemory) ⊎ WordsFail words kind
  read_kind = let P : ErrorKind → Type 0 = λ k. (k ≡ OutOfMemory) ⊎ WordsFail words k in subst P (sym is) fault

  pub asks_text_of : (kind ≡ DisplayHelp) ⊎ (kind ≡ DisplayVersion) → AsksText words
  asks_text_of asked = asks_text words kind read_kind asked

  pub not_understood_of : (kind ≡ OutOfMemory → ⊥) → (kind ≡ DisplayHelp → ⊥) → (kind ≡ DisplayVersion → ⊥)
      → IsNotAskedIn words NotUnderstood
  not_understood_of some no_help no_version = not_understood words kind read_kind some no_help no_version
