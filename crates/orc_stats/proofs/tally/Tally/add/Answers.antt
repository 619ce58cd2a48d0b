use Rattle.std.proofs.Common.{◌∙◌, ap}
use Rattle.orc_values.specs.Views.{view}
use Rattle.orc_stats.specs.Tallies.{together, cell_kept}
use Rattle.orc_stats.proofs.Childless.{cell_childless}
use Rattle.orc_stats.proofs.tally.Tally.add.Goals as goal

pub returns : goal.returns
returns g c =
    let m = g.Self.Tally.measure in
    c.add_own.ensures ∙ ap (together m (g.Self.Tally.kept c.args.self.now)) (ap (cell_kept m) c.own_of.ensures ∙ cell_childless m g.Self.Tally.childless_kept (view c.args.cell.now))
