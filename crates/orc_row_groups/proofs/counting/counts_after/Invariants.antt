use Rattle.std.proofs.Common.{◌≡◌, ◌+◌, ◌≤◌, min, length, drop}
use Rattle.orc_values.specs.Cells.{values}
use Rattle.orc_values.specs.Lent.{lent_cells}
use Rattle.orc_row_groups.specs.Counts.{octets, most}
use Rattle.orc_row_groups.proofs.counting.counts_after.Given as goal

abbrev pub invariant-loop-cell : goal.invariant-loop-cell
invariant-loop-cell l = record {
  cells : l.counts.cells ≡ l.fn.before.cells + l.cell-index;
  whole : l.counts.octets ≤ most;
  few : l.counts.values ≤ l.fn.before.values + l.cell-index;
  values : l.counts.values + length (values (lent_cells (drop l.cell-index l.cells))) ≡ l.fn.before.values + length (values (lent_cells l.cells));
  octets : min most (l.counts.octets + octets (lent_cells (drop l.cell-index l.cells))) ≡ min most (l.fn.before.octets + octets (lent_cells l.cells));
}
