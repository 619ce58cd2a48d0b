use Rattle.std.proofs.Common.{◌≡◌, take}
use Rattle.orc_row_groups.specs.OwnCells.{own_cells}
use Rattle.orc_rle.specs.declared.sign.Sign.TheVariants.{Signed}
use Rattle.orc_rle.specs.Values.{AllInRange}
use Rattle.orc_stripe_writer.specs.CellValues.{ints_in}
use Rattle.orc_stripe_writer.proofs.cell_values.ints_of.Given as goal

abbrev pub invariant-loop-own : goal.invariant-loop-own
invariant-loop-own l = record { ints : l.ints.items ≡ ints_in (own_cells (take l.own-index l.owns)); in_range : AllInRange Signed l.ints.items }
