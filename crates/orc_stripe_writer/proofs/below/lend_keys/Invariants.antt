use Rattle.std.proofs.Common.{◌≡◌, take, map, ◌++◌}
use Rattle.orc_values.specs.Lent.{lent_cells}
use Rattle.orc_values.specs.Views.{paired}
use Rattle.orc_stripe_writer.proofs.below.lend_keys.Given as goal

abbrev pub invariant-loop-pair : goal.invariant-loop-pair
invariant-loop-pair l = lent_cells l.found.items ≡ lent_cells l.initial.found.items ++ map (λ p. p.0) (map paired (take l.pair-index l.pairs))
