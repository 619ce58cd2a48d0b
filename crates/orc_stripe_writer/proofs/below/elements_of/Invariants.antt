use Rattle.std.proofs.Common.{◌≡◌, take}
use Rattle.std.specs.List.{flat_map}
use Rattle.orc_values.specs.Cells.{parts}
use Rattle.orc_values.specs.Lent.{lent_cells}
use Rattle.orc_stripe_writer.proofs.below.elements_of.Given as goal

abbrev pub invariant-loop-list : goal.invariant-loop-list
invariant-loop-list l = lent_cells l.found.items ≡ flat_map parts (lent_cells (take l.list-index l.lists))
