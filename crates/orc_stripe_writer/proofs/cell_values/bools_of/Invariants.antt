use Rattle.std.proofs.Common.{◌≡◌, take}
use Rattle.orc_row_groups.specs.OwnCells.{own_cells}
use Rattle.orc_stripe_writer.specs.CellValues.{bools_in}
use Rattle.orc_stripe_writer.proofs.cell_values.bools_of.Given as goal

abbrev pub invariant-loop-own : goal.invariant-loop-own
invariant-loop-own l = l.bools.items ≡ bools_in (own_cells (take l.own-index l.owns))
