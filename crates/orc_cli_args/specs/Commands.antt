-- What the parser's table finds in the words of a command line, and what they ask for.
use Rattle.std.specs.Prelude.{◌≡◌, ◌≢◌, List, [], ◌⊎◌}
use Rattle.clap.specs.Walk.{Text, rows_of}
use Rattle.clap.specs.Simple.{matches_of, subcommand_of, subcommand_rows_of}
use Rattle.clap.specs.Faults.{fault_of}
use Rattle.clap.specs.Kinds.{IsAmong}
use Rattle.clap.specs.Matches.{found_of}
use Rattle.clap.specs.declared.error.kind.ErrorKind.{ErrorKind}
use Rattle.clap.specs.declared.error.kind.ErrorKind.TheVariants.{DisplayHelp, DisplayVersion}
use Rattle.clap.specs.declared.parser.matches.ArgMatches.{ArgMatches}
use Rattle.orc_cli_output.specs.Output.{write_failed}
use Rattle.orc_cli_output.specs.declared.fault.CliFault.TheVariants.{File}
use Rattle.orc_tail.specs.declared.fault.FileFault.TheVariants as file
use Rattle.orc_cli_args.specs.declared.command_line.Asked.{Asked}
use Rattle.orc_cli_args.specs.declared.command_line.Asked.TheVariants as asked
use Rattle.orc_cli_args.specs.declared.command_line.Refusal.{Refusal}
use Rattle.orc_cli_args.specs.declared.command_line.Refusal.TheVariants.{Fault, NotUnderstood}
use Rattle.orc_cli_parser.specs.Commands.{Choices, orcm}

-- The words have no fault, and the parser finds these arguments in them: those of the program, and those of the
-- command.
pub record IsFound (words : List Text) (m : ArgMatches) : Type 0 where
  pub choices : Choices
  pub faultless : fault_of (orcm choices) words ≡ []
  pub own : rows_of (found_of m) ≡ matches_of (orcm choices) words
  pub behind : subcommand_rows_of m ≡ subcommand_of (orcm choices) words

-- the words have a fault of this kind
abbrev pub WordsFail : List Text → ErrorKind → Type 0
WordsFail words kind = (choices : Choices) × IsAmong kind (fault_of (orcm choices) words)

-- the words ask for help or the version
abbrev pub AsksText : List Text → Type 0
AsksText words = WordsFail words DisplayHelp ⊎ WordsFail words DisplayVersion

-- what the words ask for: a request with what is found in them, or a text
abbrev pub IsAskedIn : List Text → Asked → Type 0
IsAskedIn words (asked.Request m) = IsFound words m
IsAskedIn words asked.Text = AsksText words

-- Why nothing is done: the words have a fault, or memory ran out, or a text that the words ask for could not be
-- printed.
abbrev pub IsNotAskedIn : List Text → Refusal → Type 0
IsNotAskedIn words NotUnderstood =
    (kind : ErrorKind) × WordsFail words kind × (kind ≢ DisplayHelp) × (kind ≢ DisplayVersion)
IsNotAskedIn words (Fault fault) = (fault ≡ File file.OutOfMemory) ⊎ ((fault ≡ write_failed) × AsksText words)
