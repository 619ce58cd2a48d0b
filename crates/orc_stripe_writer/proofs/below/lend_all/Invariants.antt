use Rattle.std.proofs.Common.{◌≡◌, take, ◌++◌}
use Rattle.orc_values.specs.Lent.{lent_cells}
use Rattle.orc_values.specs.Views.{views}
use Rattle.orc_stripe_writer.proofs.below.lend_all.Given as goal

abbrev pub invariant-loop-row : goal.invariant-loop-row
invariant-loop-row l = lent_cells l.found.items ≡ lent_cells l.initial.found.items ++ views (take l.row-index l.rows)
