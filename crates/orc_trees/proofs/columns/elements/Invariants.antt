use Rattle.std.proofs.Common.{◌≡◌}
use Rattle.std.specs.List.{flat_map}
use Rattle.orc_values.specs.Cells.{parts}
use Rattle.orc_values.specs.Views.{lent_views}
use Rattle.orc_trees.proofs.columns.elements.Given as goal

abbrev pub invariant-loop-row : goal.invariant-loop-row
invariant-loop-row l = lent_views l.found.items ≡ flat_map parts (lent_views l.yielded)
