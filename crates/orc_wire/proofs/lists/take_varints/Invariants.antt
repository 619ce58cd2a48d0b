use Rattle.std.proofs.Common.{length, ◌-◌, ◌≤◌, ◌^◌, take}
use Rattle.orc_wire.specs.Parts.{AppendsVarints}
use Rattle.orc_wire.proofs.lists.take_varints.Given as goal

abbrev pub invariant-loop-at : goal.invariant-loop-at
invariant-loop-at l = record {
  within : l.at ≤ length l.bytes;
  appends : AppendsVarints (2 ^ 32) l.initial.slot l.slot (take l.at l.bytes);
}

abbrev pub decreases-loop-at : goal.decreases-loop-at
decreases-loop-at l = length l.initial.bytes - l.at
