use Rattle.std.proofs.Common.{◌≡◌}
use Rattle.orc_values.specs.Lent.{lent_cells}
use Rattle.orc_values.specs.Views.{lent_views}
use Rattle.orc_trees.proofs.lent.lend.Given as goal

abbrev pub invariant-loop-cell : goal.invariant-loop-cell
invariant-loop-cell l = lent_cells l.lent.items ≡ lent_views l.yielded
