use Rattle.std.proofs.Common.{◌≡◌, ◌+◌, drop}
use Rattle.orc_tail.specs.Stripes.{stripes_length}
use Rattle.orc_tail.proofs.tail.writing.content_end.Given as goal

abbrev pub invariant-loop-stripe : goal.invariant-loop-stripe
invariant-loop-stripe l = l.end + stripes_length (drop l.stripe-index l.stripes) ≡ 3 + stripes_length l.stripes
