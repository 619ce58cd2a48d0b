use Rattle.std.proofs.Common.{◌≡◌, ◌+◌, ◌++◌, drop}
use Rattle.orc_tail.specs.Stripes.{stripes_length}
use Rattle.orc_merger.specs.Merging.{placed}
use Rattle.orc_merger.proofs.stripe_places.place_stripes.Given as goal

-- the stripes placed, and those that are left behind them, are all of them
abbrev pub invariant-loop-stripe : goal.invariant-loop-stripe
invariant-loop-stripe l = record {
  stripes : l.into.items ++ placed l.end (drop l.stripe-index l.stripes) ≡ l.initial.into.items ++ placed l.from l.stripes;
  end : l.end + stripes_length (drop l.stripe-index l.stripes) ≡ l.from + stripes_length l.stripes;
}
