use Rattle.std.proofs.Common.{◌≡◌, take, drop}
use Rattle.std.specs.List.{flat_map}
use Rattle.orc_values.specs.Cells.{parts}
use Rattle.orc_values.specs.Views.{lent_views}
use Rattle.orc_trees.proofs.columns.members.Given as goal

abbrev pub invariant-loop-row : goal.invariant-loop-row
invariant-loop-row l = lent_views l.found.items ≡ flat_map (λ c. take 1 (drop l.i (parts c))) (lent_views l.yielded)
