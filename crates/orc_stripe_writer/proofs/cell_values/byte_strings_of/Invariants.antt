use Rattle.std.proofs.Common.{◌≡◌, take}
use Rattle.orc_row_groups.specs.OwnCells.{own_cells}
use Rattle.orc_stripe_writer.specs.CellValues.{all_bytes_in}
use Rattle.orc_stripe_writer.specs.Dictionary.{byte_strings}
use Rattle.orc_stripe_writer.proofs.cell_values.byte_strings_of.Given as goal

abbrev pub invariant-loop-own : goal.invariant-loop-own
invariant-loop-own l = byte_strings l.strings.items ≡ all_bytes_in (own_cells (take l.own-index l.owns))
