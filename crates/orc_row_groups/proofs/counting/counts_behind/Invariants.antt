use Rattle.std.proofs.Common.{◌≡◌, ◌+◌, ◌≤◌, min, length, drop}
use Rattle.orc_values.specs.Cells.{values}
use Rattle.orc_row_groups.specs.OwnCells.{own_cells}
use Rattle.orc_row_groups.specs.Counts.{octets, most}
use Rattle.orc_row_groups.proofs.counting.counts_behind.Given as goal

abbrev pub invariant-loop-own : goal.invariant-loop-own
invariant-loop-own l = record {
  cells : l.counts.cells ≡ l.fn.before.cells + l.own-index;
  whole : l.counts.octets ≤ most;
  few : l.counts.values ≤ l.fn.before.values + l.own-index;
  values : l.counts.values + length (values (own_cells (drop l.own-index l.owns))) ≡ l.fn.before.values + length (values (own_cells l.owns));
  octets : min most (l.counts.octets + octets (own_cells (drop l.own-index l.owns))) ≡ min most (l.fn.before.octets + octets (own_cells l.owns));
}
