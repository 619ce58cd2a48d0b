use Rattle.std.proofs.Common.{◌≡◌, ◌≤◌, length, map}
use Rattle.orc_merger.specs.Inputs.{IsGatheredOf}
use Rattle.orc_merger.proofs.gathering.gather.Given as goal

abbrev pub invariant-loop-number : goal.invariant-loop-number
invariant-loop-number g l = record {
  in_range : l.number ≤ length l.inputs;
  told : map g.S.Source.told l.inputs ≡ map g.S.Source.told l.fn.inputs;
  sizes : map g.S.Source.size l.inputs ≡ map g.S.Source.size l.fn.inputs;
  failures : map g.S.Source.failures l.inputs ≡ map g.S.Source.failures l.fn.inputs;
  gathered : IsGatheredOf (map g.S.Source.told l.fn.inputs) (map g.S.Source.size l.fn.inputs) l.number l.gathered;
}
