use Rattle.orc_stats.proofs.Fitting.{cell_kind}
use Rattle.orc_stats.proofs.laws.kind_laws.Goals as goal

pub returns : goal.returns
returns c = cell_kind
