use Rattle.std.proofs.Common.{length, ◌+◌, ◌-◌, ◌≤◌, take}
use Rattle.orc_wire.specs.Parts.{HasVarints}
use Rattle.orc_wire.proofs.lists.test_varints.Given as goal

abbrev pub invariant-loop-at : goal.invariant-loop-at
invariant-loop-at l = record {
  within : l.at ≤ length l.bytes;
  has : HasVarints (l.most + 1) (take l.at l.bytes);
}

abbrev pub decreases-loop-at : goal.decreases-loop-at
decreases-loop-at l = length l.initial.bytes - l.at
