use Rattle.std.proofs.Common.{◌-◌}
use Rattle.orc_row_groups.proofs.OwnLemmas.{owns_between}
use Rattle.orc_row_groups.proofs.between.owns_between.Goals as goal

pub returns : goal.returns
returns c = owns_between c.args.owns.now c.args.start (c.args.end - c.args.start)
