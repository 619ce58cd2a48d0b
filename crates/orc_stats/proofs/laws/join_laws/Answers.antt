use Rattle.orc_stats.proofs.Parts.{joined-parts}
use Rattle.orc_stats.proofs.Shuffled.{joined-shuffled, joined-empty}
use Rattle.orc_stats.proofs.KnownParts.{joined-known, joined-agreed, all-told}
use Rattle.orc_stats.proofs.Normal.{joined-normal}
use Rattle.orc_stats.proofs.laws.join_laws.Goals as goal

pub returns-clause-order : goal.returns-clause-order
returns-clause-order c = joined-shuffled

pub returns-clause-empty : goal.returns-clause-empty
returns-clause-empty c = joined-empty

pub returns-clause-parts : goal.returns-clause-parts
returns-clause-parts c = joined-parts

pub returns-clause-known : goal.returns-clause-known
returns-clause-known c = joined-known

pub returns-clause-agreed : goal.returns-clause-agreed
returns-clause-agreed c = joined-agreed

pub returns-clause-all_told : goal.returns-clause-all_told
returns-clause-all_told c = all-told

pub returns-clause-normal : goal.returns-clause-normal
returns-clause-normal c = joined-normal
