use Rattle.std.proofs.Common.{◌≡◌}
use Rattle.std.specs.List.{flat_map}
use Rattle.orc_values.specs.Cells.{keys_in}
use Rattle.orc_values.specs.Views.{lent_views}
use Rattle.orc_trees.proofs.columns.keys.Given as goal

abbrev pub invariant-loop-row : goal.invariant-loop-row
invariant-loop-row l = lent_views l.found.items ≡ flat_map keys_in (lent_views l.yielded)
