use Rattle.std.proofs.Common.{◌≡◌, take}
use Rattle.orc_row_groups.specs.OwnCells.{own_cells}
use Rattle.orc_stripe_writer.specs.CellValues.{number_bytes_in}
use Rattle.orc_stripe_writer.proofs.cell_values.number_bytes_of.Given as goal

abbrev pub invariant-loop-own : goal.invariant-loop-own
invariant-loop-own l = l.bytes.items ≡ number_bytes_in (own_cells (take l.own-index l.owns))
