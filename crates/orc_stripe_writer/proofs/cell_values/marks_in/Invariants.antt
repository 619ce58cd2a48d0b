use Rattle.std.proofs.Common.{◌≡◌, take, map}
use Rattle.orc_row_groups.specs.OwnCells.{own_cells}
use Rattle.orc_values.specs.Cells.{is_value}
use Rattle.orc_stripe_writer.proofs.cell_values.marks_in.Given as goal

abbrev pub invariant-loop-own : goal.invariant-loop-own
invariant-loop-own l = l.marks.items ≡ map is_value (own_cells (take l.own-index l.owns))
