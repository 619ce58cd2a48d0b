use Rattle.orc_stats.proofs.ReadBack.{reads_back}
use Rattle.orc_stats.proofs.laws.stat_message_laws.Goals as goal

pub returns : goal.returns
returns c = reads_back
