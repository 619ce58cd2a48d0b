use Rattle.std.proofs.Common.{◌-◌}
use Rattle.orc_row_groups.proofs.Groups.{lent_between}
use Rattle.orc_row_groups.proofs.between.cells_between.Goals as goal

pub returns : goal.returns
returns c = lent_between c.args.cells.now c.args.start (c.args.end - c.args.start)
