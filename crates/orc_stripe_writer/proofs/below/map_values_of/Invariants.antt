use Rattle.std.proofs.Common.{◌≡◌, take}
use Rattle.std.specs.List.{flat_map}
use Rattle.orc_values.specs.Cells.{values_in}
use Rattle.orc_values.specs.Lent.{lent_cells}
use Rattle.orc_stripe_writer.proofs.below.map_values_of.Given as goal

abbrev pub invariant-loop-row : goal.invariant-loop-row
invariant-loop-row l = lent_cells l.found.items ≡ flat_map values_in (lent_cells (take l.row-index l.maps))
