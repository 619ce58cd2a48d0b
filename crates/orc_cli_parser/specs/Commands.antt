-- The command line as the parser's table: the commands, and the arguments of each by name.
use Rattle.std.specs.Prelude.{◌≡◌, ℕ, List, [], ◌∷◌, Some, true, false, codes}
use Rattle.std.specs.Borrow.{Bor}
use Rattle.clap.specs.Lexer.{usize_max}
use Rattle.clap.specs.Walk.{Rule, Text, texts}
use Rattle.clap.specs.Simple.{App, Shape, new_rule, new_shape}
use Rattle.clap.specs.declared.builder.action.ArgAction.TheVariants.{Set, SetTrue, Append}
use Rattle.clap.specs.declared.builder.value_parser.ValueParser.TheVariants.{Names, Unsigned}
use Rattle.orc_rle.specs.declared.sign.Rle.TheVariants.{One, Two}
use Rattle.orc_rle.specs.declared.sign.Sign.TheVariants.{Signed, Unsigned as UnsignedNumbers}
use Rattle.orc_cli_parser.specs.OptionWords.{version_word, sign_word}

-- texts as the parser stores them
abbrev pub Words : Type 0
Words = Bor (List (Bor Text))

-- the words that `--rle` takes
abbrev pub HasVersions : Words → Type 0
HasVersions words = texts words.now ≡ version_word One ∷ version_word Two ∷ []

-- the words that `--sign` takes
abbrev pub HasSigns : Words → Type 0
HasSigns words = texts words.now ≡ sign_word Signed ∷ sign_word UnsignedNumbers ∷ []

-- ---- arguments

-- an argument that must be given, with a value
abbrev pub needed : Text → Rule
needed name = record (new_rule name) { action = Some Set; value_names = 1; required = true }

-- an argument that may be left out, with a value
abbrev pub optional : Text → Rule
optional name = record (new_rule name) { action = Some Set; value_names = 1 }

-- an argument that may be left out, without a value
abbrev pub switch : Text → Rule
switch name = record (new_rule name) { action = Some SetTrue }

-- an argument that is given by `--` and its name
abbrev pub named : Rule → Rule
named rule = record rule { long = Some rule.id }

-- an argument whose value is one of these words
abbrev pub one_of : Words → Rule → Rule
one_of words rule = record rule { parser = Some (Names words) }

-- an argument whose value is a number from `least` to `most`
abbrev pub between : ℕ → ℕ → Rule → Rule
between least most rule = record rule { parser = Some (Unsigned least most) }

-- an argument that takes all remaining words, perhaps none
abbrev pub all_of : Text → Rule
all_of name = record (new_rule name) {
  action = Some Append;
  range = Some (record { start_inclusive = 0; end_inclusive = usize_max });
  value_names = 1;
}

-- ---- commands

-- the flag that shows progress
abbrev pub progress_rule : Rule
progress_rule = named (switch (codes "progress"))

-- a command: its name, and its arguments in order
abbrev pub command : Text → List Rule → Shape
command name rules = record (new_shape name) { rules = rules }

-- `ints`: the version, the sign, and a stream's bytes as hexadecimal digits
abbrev pub ints_line : Words → Words → Shape
ints_line versions signs = command (codes "ints")
    (one_of versions (named (needed (codes "rle")))
    ∷ one_of signs (named (needed (codes "sign")))
    ∷ needed (codes "hex") ∷ [])

-- `rows`: the stripe and group to start at, if given, the flag for progress, and a file
abbrev pub rows_line : Shape
rows_line = command (codes "rows")
    (named (optional (codes "from")) ∷ progress_rule ∷ needed (codes "file") ∷ [])

-- `show`: a file
abbrev pub show_line : Shape
show_line = command (codes "show") (needed (codes "file") ∷ [])

-- `check`: the flag for progress, and a file
abbrev pub check_line : Shape
check_line = command (codes "check") (progress_rule ∷ needed (codes "file") ∷ [])

-- `write`: a schema, the version, the stride, the number of rows per stripe, the flag for progress, the input and the
-- output
abbrev pub write_line : Words → Shape
write_line versions = command (codes "write")
    (named (needed (codes "schema"))
    ∷ one_of versions (named (needed (codes "rle")))
    ∷ between 0 4294967295 (named (needed (codes "stride")))
    ∷ between 1 2147483647 (named (needed (codes "stripe-rows")))
    ∷ progress_rule
    ∷ needed (codes "in") ∷ needed (codes "out") ∷ [])

-- `merge`: the flag for progress, the output and the inputs
abbrev pub merge_line : Shape
merge_line = command (codes "merge") (progress_rule ∷ needed (codes "out") ∷ all_of (codes "in") ∷ [])

-- the words that options of `ints` and of `write` take
pub record Choices : Type 0 where
  pub ints_versions : Words
  pub ints_signs : Words
  pub write_versions : Words
  pub of_ints : HasVersions ints_versions
  pub of_sign : HasSigns ints_signs
  pub of_write : HasVersions write_versions

-- the program, which needs one of its commands
abbrev pub orcm : Choices → App
orcm choices = record {
  top = record (new_shape (codes "orcm")) { has_version = true; subcommand_required = true; is_leaf = false };
  subs = ints_line choices.ints_versions choices.ints_signs ∷ rows_line ∷ show_line ∷ check_line
      ∷ write_line choices.write_versions ∷ merge_line ∷ [];
}
