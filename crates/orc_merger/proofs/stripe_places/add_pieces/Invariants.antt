use Rattle.std.proofs.Common.{◌≡◌, ◌≤◌, ◌++◌, drop}
use Rattle.orc_tail.specs.Stripes.{stripes_length}
use Rattle.orc_merger.specs.Gathering.{pieces_in}
use Rattle.orc_merger.proofs.stripe_places.add_pieces.Given as goal

-- the pieces added, and those of the stripes that are left, are those of all
abbrev pub invariant-loop-stripe : goal.invariant-loop-stripe
invariant-loop-stripe l = record {
  pieces : l.pieces.items ++ pieces_in l.input (drop l.stripe-index l.stripes) ≡ l.initial.pieces.items ++ pieces_in l.input l.stripes;
  few : stripes_length (drop l.stripe-index l.stripes) ≤ stripes_length l.stripes;
}
