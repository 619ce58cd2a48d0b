-- The numbers of an integer stream that is given in hexadecimal digits, and their line of text.
use Rattle.std.specs.Prelude.{◌≡◌, ℕ, List, [], ◌∷◌, ◌++◌, map, Ok, Err, ℤ, ◌⊎◌}
use Rattle.std.specs.List.{join_with_byte}
use Rattle.std.specs.Fmt.{signed_decimal}
use Rattle.hex.specs.Hex.{decode_of}
use Rattle.hex.specs.declared.error.FromHexError.{FromHexError}
use Rattle.orc_rle.specs.declared.fault.RunFault.{RunFault}
use Rattle.orc_rle.specs.declared.fault.RunFault.TheVariants.{OutOfMemory as RunOutOfMemory}
use Rattle.orc_rle.specs.declared.sign.Rle.{Rle}
use Rattle.orc_rle.specs.declared.sign.Rle.TheVariants.{One, Two}
use Rattle.orc_rle.specs.declared.sign.Sign.{Sign}
use Rattle.orc_rle.specs.RunOne.{IsRunOne, NoRunOne}
use Rattle.orc_rle.specs.RunTwo.{IsRunTwo, NoRunTwo}
use Rattle.orc_rle.specs.Stream.{IsStream, StopsAt}
use Rattle.orc_cli_output.specs.Output.{write_failed}
use Rattle.orc_cli_output.specs.declared.fault.CliFault.{CliFault}
use Rattle.orc_cli_output.specs.declared.fault.CliFault.TheVariants.{Run, Types, Json, File}
use Rattle.orc_json_rows.specs.declared.json_fault.JsonFault.TheVariants as json
use Rattle.orc_tail.specs.declared.fault.FileFault.TheVariants as file

-- the numbers in decimal digits, with one space between two
abbrev pub numbers : List ℤ → List ℕ
numbers values = join_with_byte 32 (map signed_decimal values)

-- the line of the numbers: the numbers and a line end
abbrev pub number_line : List ℤ → List ℕ
number_line values = numbers values ++ 10 ∷ []

-- the bytes are a stream of the values, in runs of this version
abbrev pub IsIntegerStream : Rle → Sign → List ℕ → List ℤ → Type 0
IsIntegerStream One sign bytes values = IsStream (IsRunOne sign) bytes values
IsIntegerStream Two sign bytes values = IsStream (IsRunTwo sign) bytes values

-- the bytes aren't a stream of runs of this version, and the first invalid run has this fault
abbrev pub StopsIntegers : Rle → Sign → List ℕ → RunFault → Type 0
StopsIntegers One sign bytes fault = StopsAt (IsRunOne sign) (NoRunOne sign) bytes fault
StopsIntegers Two sign bytes fault = StopsAt (IsRunTwo sign) (NoRunTwo sign) bytes fault

-- the digits spell bytes that are a stream of the values
abbrev pub DigitsSpellInts : Rle → Sign → List ℕ → List ℤ → Type 0
DigitsSpellInts rle sign text values = (bytes : List ℕ) × (decode_of text ≡ Ok bytes) × IsIntegerStream rle sign bytes values

-- the digits spell bytes whose first invalid run has this fault
abbrev pub StopsInts : Rle → Sign → List ℕ → RunFault → Type 0
StopsInts rle sign text fault = (bytes : List ℕ) × (decode_of text ≡ Ok bytes) × StopsIntegers rle sign bytes fault

-- the text isn't hexadecimal
abbrev pub IsNoHex : List ℕ → Type 0
IsNoHex text = (reason : FromHexError) × (decode_of text ≡ Err reason)

-- why the numbers that digits spell can't be decoded
abbrev pub RefusesDigits : Rle → Sign → List ℕ → CliFault → Type 0
RefusesDigits rle sign text (Run fault) = (fault ≡ RunOutOfMemory) ⊎ StopsInts rle sign text fault
RefusesDigits rle sign text (Types fault) = ⊥
RefusesDigits rle sign text (Json fault) = (fault ≡ json.BadHex) × IsNoHex text
RefusesDigits rle sign text (File fault) = fault ≡ file.OutOfMemory

-- The want of memory that `ints` may fail with: that of runs, for the numbers, and that of files, for the digits'
-- bytes and for the line.
abbrev pub IsWantOfInts : CliFault → Type 0
IsWantOfInts fault = (fault ≡ Run RunOutOfMemory) ⊎ (fault ≡ File file.OutOfMemory)

-- why `ints` fails: for its digits or memory, or, if they spell numbers, for its output
abbrev pub RefusesInts : Rle → Sign → List ℕ → CliFault → Type 0
RefusesInts rle sign text fault =
    RefusesDigits rle sign text fault
    ⊎ ((fault ≡ write_failed) × ((values : List ℤ) × DigitsSpellInts rle sign text values))
