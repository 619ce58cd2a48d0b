use Rattle.std.proofs.Common.{◌≡◌, ◌+◌, ◌≤◌, length, drop}
use Rattle.orc_values.specs.Cells.{values}
use Rattle.orc_row_groups.specs.OwnCells.{own_cells}
use Rattle.orc_row_groups.proofs.bounds.count_values.Given as goal

abbrev pub invariant-loop-own : goal.invariant-loop-own
invariant-loop-own l = record {
  few : l.count ≤ l.own-index;
  counted : l.count + length (values (own_cells (drop l.own-index l.owns))) ≡ length (values (own_cells l.owns));
}
