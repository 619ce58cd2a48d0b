use Rattle.std.proofs.Common.{take}
use Rattle.orc_bits.specs.Packed.{AllFit}
use Rattle.orc_column_tests.proofs.bits.packed.fill.Given as goal

abbrev pub invariant-loop-i : goal.invariant-loop-i
invariant-loop-i l = AllFit l.width (take l.i l.places)
