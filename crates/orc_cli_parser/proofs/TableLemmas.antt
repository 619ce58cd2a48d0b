-- The program's command line is one of which the parser's walk gives the matches, and no argument has a rule on another.
use Rattle.std.proofs.Common.{◌≡◌, refl, true}
use Rattle.clap.specs.Simple.{is_simple}
use Rattle.clap.specs.Faults.{is_simple_and_free}
use Rattle.clap.proofs.OnLiterals.{clap_on_literals}
use Rattle.orc_cli_parser.specs.Commands.{Choices, orcm}

pub is_simple-orcm : (choices : Choices) → is_simple (orcm choices) ≡ true
unfolding clap_on_literals
is_simple-orcm choices = refl

pub is_free-orcm : (choices : Choices) → is_simple_and_free (orcm choices) ≡ true
unfolding clap_on_literals
is_free-orcm choices = refl
