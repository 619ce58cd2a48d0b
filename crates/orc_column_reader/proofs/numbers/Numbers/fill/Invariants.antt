use Rattle.std.proofs.Common.{ℕ, [], length, ◌-◌}
use Rattle.orc_rle.specs.declared.fault.RunFault.{RunFault}
use Rattle.orc_column_reader.specs.RunsMet.{NumbersMeet}
use Rattle.orc_column_reader.specs.Fronts.{Leaves, Precedes}
use Rattle.orc_column_reader.specs.Numbers.{NumbersLeft, NumbersFirst}
use Rattle.orc_column_reader.proofs.numbers.Numbers.fill.Given as goal

abbrev pub invariant-loop-self : goal.invariant-loop-self
invariant-loop-self l = Leaves (NumbersLeft l.fn.self) (NumbersLeft l.self) [] × ((n : ℕ) (f : RunFault) → NumbersMeet l.self n f → NumbersMeet l.fn.self n f)
    × Precedes (NumbersFirst l.fn.self) (NumbersFirst l.self) []

abbrev pub decreases-loop-self : goal.decreases-loop-self
decreases-loop-self l = length l.self.bytes.now - l.self.at
