use Rattle.std.proofs.Common.{◌≡◌, drop, map}
use Rattle.orc_row_groups.specs.OwnCells.{own_cells}
use Rattle.std.specs.List.{list_all}
use Rattle.orc_values.specs.Cells.{is_value}
use Rattle.orc_stripe_writer.proofs.cell_values.are_all_values.Given as goal

abbrev pub invariant-loop-own : goal.invariant-loop-own
invariant-loop-own l = list_all (λ m. m) (map is_value (own_cells (drop l.own-index l.owns))) ≡ list_all (λ m. m) (map is_value (own_cells l.owns))
