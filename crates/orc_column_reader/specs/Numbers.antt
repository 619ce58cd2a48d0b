-- Streams of integers (ORC specification, "Run Length Encoding").
use Rattle.std.specs.Prelude.{ℕ, ℤ, List, drop}
use Rattle.orc_rle.specs.declared.sign.Sign.{Sign}
use Rattle.orc_rle.specs.RunOne.{IsRunOne}
use Rattle.orc_rle.specs.RunTwo.{IsRunTwo}
use Rattle.orc_rle.specs.Stream.{IsStream, RunsLeft}
use Rattle.orc_rle.specs.declared.sign.Rle.{Rle}
use Rattle.orc_rle.specs.declared.sign.Rle.TheVariants.{One, Two}
use Rattle.orc_column_reader.specs.declared.numbers.Numbers.{Numbers}
use Rattle.orc_column_reader.specs.Runs.{RunsFirst}

-- a run of this version
abbrev pub is_run : Rle → Sign → List ℕ → List ℤ → Type 0
is_run One sign bytes values = IsRunOne sign bytes values
is_run Two sign bytes values = IsRunTwo sign bytes values

-- the numbers that the bytes of a stream store
abbrev pub AreNumbers : Rle → Sign → List ℕ → List ℤ → Type 0
AreNumbers version sign bytes values = IsStream (is_run version sign) bytes values

-- the numbers that a reader still has to give
abbrev pub NumbersLeft : Numbers → List ℤ → Type 0
NumbersLeft r all = RunsLeft (is_run r.version r.sign) (drop r.used r.run.values) (drop r.at r.bytes.now) all

-- the numbers that a reader gives first, whatever follows
abbrev pub NumbersFirst : Numbers → List ℤ → Type 0
NumbersFirst r all = RunsFirst (is_run r.version r.sign) (drop r.used r.run.values) (drop r.at r.bytes.now) all
