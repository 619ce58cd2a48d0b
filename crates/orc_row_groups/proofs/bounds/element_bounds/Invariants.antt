use Rattle.std.proofs.Common.{◌≡◌, ◌++◌, ◌≤◌, length, map, drop}
use Rattle.orc_row_groups.specs.OwnCells.{own_cells}
use Rattle.orc_row_groups.specs.Bounds.{bound_at, elements_before}
use Rattle.orc_row_groups.proofs.bounds.element_bounds.Given as goal

abbrev pub invariant-loop-bound : goal.invariant-loop-bound
invariant-loop-bound l = record {
  begun : l.at ≤ bound_at (length (own_cells l.fn.owns)) l.fn.bounds l.bound-index;
  counted : l.count ≡ elements_before (own_cells l.fn.owns) l.at;
  found : l.found.items ++ map (elements_before (own_cells l.fn.owns)) (drop l.bound-index l.fn.bounds) ≡ map (elements_before (own_cells l.fn.owns)) l.fn.bounds;
}
