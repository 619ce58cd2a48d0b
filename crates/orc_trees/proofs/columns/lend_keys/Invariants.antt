use Rattle.std.proofs.Common.{◌≡◌, take, map, ◌++◌}
use Rattle.orc_values.specs.Views.{paired, lent_views}
use Rattle.orc_trees.proofs.columns.lend_keys.Given as goal

abbrev pub invariant-loop-pair : goal.invariant-loop-pair
invariant-loop-pair l = lent_views l.found.items ≡ lent_views l.initial.found.items ++ map (λ p. p.0) (map paired (take l.pair-index l.pairs))
