-- Why a stream doesn't have the runs that its column needs (ORC specification, "Run Length Encoding").
use Rattle.std.specs.Prelude.{◌≡◌, ℕ, ◌≤◌, ℤ, Bool, true, false, List}
use Rattle.orc_bits.specs.Packed.{packed_len}
use Rattle.orc_rle.specs.declared.sign.Sign.{Sign}
use Rattle.orc_rle.specs.declared.fault.RunFault.{RunFault}
use Rattle.orc_rle.specs.ByteRun.{IsByteRun, NoByteRun}
use Rattle.orc_rle.specs.RunOne.{NoRunOne}
use Rattle.orc_rle.specs.RunTwo.{NoRunTwo}
use Rattle.orc_rle.specs.Stream.{StopsWithin}
use Rattle.orc_rle.specs.declared.sign.Rle.{Rle}
use Rattle.orc_rle.specs.declared.sign.Rle.TheVariants.{One, Two}
use Rattle.orc_column_reader.specs.Numbers.{is_run, AreNumbers}
use Rattle.orc_column_reader.specs.Runs.{RunsBegin}

-- the error of bytes that have no run of this version at their start
abbrev pub no_run : Rle → Sign → List ℕ → RunFault → Type 0
no_run One sign bytes fault = NoRunOne sign bytes fault
no_run Two sign bytes fault = NoRunTwo sign bytes fault

-- n may be the needed number: if all of it is known, n is the known number, else n is at least that.
abbrev pub Needed : Bool → ℕ → ℕ → Type 0
Needed true known n = n ≡ known
Needed false known n = known ≤ n

-- for each number that may be needed
abbrev pub Always : Bool → ℕ → (ℕ → RunFault → Type 0) → RunFault → Type 0
Always all known stops fault = (n : ℕ) → Needed all known n → stops n fault

-- The bytes are no stream of the needed number of values, for the reason for which `decode` fails. After a stream of
-- at most that many values comes an invalid run, a run that goes past the number, or nothing though values are
-- missing.
abbrev pub StreamFails : {A : Type 0} → (List ℕ → List A → Type 0) → (List ℕ → RunFault → Type 0)
    → Bool → ℕ → List ℕ → RunFault → Type 0
StreamFails is_run fails all known bytes fault = Always all known (λ n. StopsWithin is_run fails n bytes) fault

-- a stream of integers: its version, whether the integers have a sign, and its bytes
pub record Integers : Type 0 where
  pub version : Rle
  pub sign : Sign
  pub bytes : List ℕ

-- the integers that the bytes store
abbrev pub AreIntegersOf : Integers → List ℤ → Type 0
AreIntegersOf from all = AreNumbers from.version from.sign from.bytes all

-- the integers that come first in the bytes, whatever follows
abbrev pub IntegersFirst : Integers → List ℤ → Type 0
IntegersFirst from all = RunsBegin (is_run from.version from.sign) from.bytes all

-- why bytes are no stream of the needed number of integers
abbrev pub IntegersFail : Integers → Bool → ℕ → RunFault → Type 0
IntegersFail from all known fault =
    StreamFails (is_run from.version from.sign) (no_run from.version from.sign) all known from.bytes fault

-- why bytes are no stream of the needed number of bytes in runs
abbrev pub ByteRunsFail : Bool → ℕ → List ℕ → RunFault → Type 0
ByteRunsFail all known bytes fault = StreamFails IsByteRun NoByteRun all known bytes fault

-- why bytes are no stream of the needed number of booleans, which are the digits of as few bytes as possible, in runs
abbrev pub BoolsFail : Bool → ℕ → List ℕ → RunFault → Type 0
BoolsFail all known bytes fault = Always all known (λ n. StopsWithin IsByteRun NoByteRun (packed_len 1 n) bytes) fault
