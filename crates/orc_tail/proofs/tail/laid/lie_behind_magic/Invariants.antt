use Rattle.std.proofs.Common.{drop}
use Rattle.orc_tail.specs.Stripes.{IsLaid}
use Rattle.orc_tail.proofs.tail.laid.lie_behind_magic.Given as goal

-- the stripes that are left lie so where all of them do, and the other way round
abbrev pub invariant-loop-stripe : goal.invariant-loop-stripe
invariant-loop-stripe l = record {
  rest : IsLaid l.place (drop l.stripe-index l.stripes) → IsLaid 3 l.stripes;
  back : IsLaid 3 l.stripes → IsLaid l.place (drop l.stripe-index l.stripes);
}
