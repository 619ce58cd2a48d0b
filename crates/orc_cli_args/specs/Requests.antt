-- What the words of a command line ask for, by the names of its options.
use Rattle.std.specs.Prelude.{◌≡◌, ◌⊎◌, ℕ, List, [], Option, Some, None, IsSomeAnd, map, find, option_map, option_and_then, unwrap_or, codes}
use Rattle.std.specs.Str.{bytes_eq}
use Rattle.clap.specs.Matches.{first_value, matched_of, raw_values, subcommand_name_of}
use Rattle.clap.specs.Simple.{subcommand_rows_of}
use Rattle.clap.specs.Walk.{Row, first_of, rows_of}
use Rattle.clap.specs.declared.parser.matches.ArgMatches.{ArgMatches}
use Rattle.clap.specs.declared.parser.matches.Found.{Found}
use Rattle.clap.specs.declared.parser.matches.ValueSource.{ValueSource}
use Rattle.clap.specs.declared.parser.matches.ValueSource.TheVariants.{CommandLine}
use Rattle.orc_rle.specs.declared.sign.Rle.{Rle}
use Rattle.orc_rle.specs.declared.sign.Sign.{Sign}
use Rattle.orc_row_batch.specs.declared.options.Options.{Options}
use Rattle.orc_cli_output.specs.Numbers.{IsDecimalNumber}
use Rattle.orc_cli_args.specs.declared.request.Request.{Request}
use Rattle.orc_cli_args.specs.declared.request.Request.TheVariants.{Ints, Rows, Show, Check, Write, Merge}
use Rattle.orc_cli_parser.specs.OptionWords.{version_word, sign_word}

-- the name of a request's command
abbrev pub command_word : Request → List ℕ
command_word (Ints _ _ _) = codes "ints"
command_word (Rows _ _) = codes "rows"
command_word (Show _) = codes "show"
command_word (Check _) = codes "check"
command_word (Write _ _ _ _) = codes "write"
command_word (Merge _ _) = codes "merge"

-- the options and arguments of `ints` have these values
pub record HasInts (found : Found) (rle : Rle) (sign : Sign) (hex : List ℕ) : Type 0 where
  pub version : first_value found (codes "rle") ≡ Some (version_word rle)
  pub sign_is : first_value found (codes "sign") ≡ Some (sign_word sign)
  pub digits : first_value found (codes "hex") ≡ Some hex

-- the option's word is this number, in decimal digits alone
pub record HasNumber (found : Found) (option : List ℕ) (n : ℕ) : Type 0 where
  pub word : List ℕ
  pub given : first_value found option ≡ Some word
  pub is : IsDecimalNumber word n

-- the options and arguments of `write` have these values
pub record HasWrite (found : Found) (schema : List ℕ) (options : Options) (input output : List ℕ) : Type 0 where
  pub text : first_value found (codes "schema") ≡ Some schema
  pub version : first_value found (codes "rle") ≡ Some (version_word options.rle)
  pub stride : HasNumber found (codes "stride") options.stride
  pub rows : HasNumber found (codes "stripe-rows") options.stripe_rows
  pub reads : first_value found (codes "in") ≡ Some input
  pub writes : first_value found (codes "out") ≡ Some output

-- all words of an argument, in order, or none if it has none
abbrev pub all_values : Found → List ℕ → List (List ℕ)
all_values found name = unwrap_or (option_map raw_values (matched_of found name)) []

-- the arguments of `merge` have these values
pub record HasMerge (found : Found) (output : List ℕ) (inputs : List (List ℕ)) : Type 0 where
  pub writes : first_value found (codes "out") ≡ Some output
  pub reads : inputs ≡ all_values found (codes "in")

-- the words that the parser found ask for this request
abbrev pub Asks : Found → Request → Type 0
Asks found (Ints rle sign hex) = HasInts found rle sign hex.now
Asks found (Rows file from) = (first_value found (codes "file") ≡ Some file.now)
    × (first_value found (codes "from") ≡ option_map (λ word. word.now) from)
Asks found (Show file) = first_value found (codes "file") ≡ Some file.now
Asks found (Check file) = first_value found (codes "file") ≡ Some file.now
Asks found (Write schema options input output) = HasWrite found schema.now options input.now output.now
Asks found (Merge output inputs) = HasMerge found output.now (map (λ word. word.now) inputs.now)

-- the name is a command's, and the words after it have all that the command needs
pub data IsUnderstood (name : List ℕ) (found : Found) : Type 0 where
  ints : (rle : Rle) (sign : Sign) (hex : List ℕ)
      → name ≡ codes "ints" → HasInts found rle sign hex → IsUnderstood name found
  rows : (file : List ℕ)
      → name ≡ codes "rows" → first_value found (codes "file") ≡ Some file → IsUnderstood name found
  show : (file : List ℕ)
      → name ≡ codes "show" → first_value found (codes "file") ≡ Some file → IsUnderstood name found
  check : (file : List ℕ)
      → name ≡ codes "check" → first_value found (codes "file") ≡ Some file → IsUnderstood name found
  write : (schema : List ℕ) (options : Options) (input output : List ℕ)
      → name ≡ codes "write" → HasWrite found schema options input output → IsUnderstood name found
  merge : (output : List ℕ)
      → name ≡ codes "merge" → first_value found (codes "out") ≡ Some output → IsUnderstood name found

-- the words name no command, or don't have what their command needs
abbrev pub IsNotUnderstood : ArgMatches → Type 0
IsNotUnderstood m =
    (subcommand_name_of m ≡ None)
    ⊎ ((name : List ℕ) × (found : Found) × (subcommand_name_of m ≡ Some name)
    × (option_map (λ p. p.1) (subcommand_rows_of m) ≡ Some (rows_of found)) × (IsUnderstood name found → ⊥))

-- ---- what the words after a command's name have, whichever command it is

-- what was found in the words after the command's name, or nothing if no command is named
abbrev pub command_rows : ArgMatches → Option (List Row)
command_rows m = option_map (λ p. p.1) (subcommand_rows_of m)

-- where the value of an option or a flag comes from: the words, or its default value
abbrev pub origin_of : List ℕ → List Row → Option ValueSource
origin_of name found = option_and_then (λ row. row.source) (find (λ row. bytes_eq row.id name) found)

-- `--progress` is among the words after the command's name
abbrev pub HasProgress : ArgMatches → Type 0
HasProgress m = option_and_then (origin_of (codes "progress")) (command_rows m) ≡ Some CommandLine

-- the option takes a number
abbrev pub TakesNumber : List ℕ → Type 0
TakesNumber option = (option ≡ codes "stride") ⊎ (option ≡ codes "stripe-rows")

-- there is a value, and it isn't a number in decimal digits alone
abbrev pub IsNoNumber : Option (List ℕ) → Type 0
IsNoNumber value = IsSomeAnd value (λ digits. (n : ℕ) → IsDecimalNumber digits n → ⊥)

-- the option has a value among the words after the command's name, and it isn't a number in decimal digits alone
abbrev pub IsUnread : ArgMatches → List ℕ → Type 0
IsUnread m option = IsNoNumber (option_and_then (first_of option) (command_rows m))
