use Rattle.orc_stats.proofs.Agreed.{same_agrees, less_agrees, parts_agree, others_agree, none_agrees}
use Rattle.orc_stats.proofs.laws.agree_laws.Goals as goal

pub returns-clause-same : goal.returns-clause-same
returns-clause-same c = same_agrees

pub returns-clause-less : goal.returns-clause-less
returns-clause-less c = less_agrees

pub returns-clause-parts : goal.returns-clause-parts
returns-clause-parts c = parts_agree

pub returns-clause-others : goal.returns-clause-others
returns-clause-others c = others_agree

pub returns-clause-one_way : goal.returns-clause-one_way
returns-clause-one_way c = none_agrees
