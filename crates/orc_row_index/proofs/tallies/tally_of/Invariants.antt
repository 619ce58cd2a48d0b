use Rattle.std.proofs.Common.{◌≡◌, drop}
use Rattle.orc_stats.specs.Tallies.{together, cells_kept}
use Rattle.orc_row_groups.specs.OwnCells.{own_cells}
use Rattle.orc_row_index.proofs.tallies.tally_of.Given as goal

abbrev pub invariant-loop-own : goal.invariant-loop-own
invariant-loop-own g l =
    let m = g.T.Tally.measure in
    together m (g.T.Tally.kept l.tally) (cells_kept m (own_cells (drop l.own-index l.owns))) ≡ cells_kept m (own_cells l.owns)
