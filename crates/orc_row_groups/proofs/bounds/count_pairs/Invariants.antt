use Rattle.std.proofs.Common.{◌≡◌, ◌+◌, length, drop}
use Rattle.std.specs.List.{flat_map}
use Rattle.orc_values.specs.Cells.{pairs_in, values}
use Rattle.orc_row_groups.specs.OwnCells.{own_cells}
use Rattle.orc_row_groups.proofs.bounds.count_pairs.Given as goal

abbrev pub invariant-loop-own : goal.invariant-loop-own
invariant-loop-own l = l.count + length (flat_map pairs_in (values (own_cells (drop l.own-index l.owns)))) ≡ length (flat_map pairs_in (values (own_cells l.owns)))
