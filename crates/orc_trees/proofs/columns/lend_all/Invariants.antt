use Rattle.std.proofs.Common.{◌≡◌, take, ◌++◌}
use Rattle.orc_values.specs.Views.{views, lent_views}
use Rattle.orc_trees.proofs.columns.lend_all.Given as goal

abbrev pub invariant-loop-row : goal.invariant-loop-row
invariant-loop-row l = lent_views l.found.items ≡ lent_views l.initial.found.items ++ views (take l.row-index l.rows)
