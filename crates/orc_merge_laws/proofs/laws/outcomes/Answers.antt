use Rattle.orc_merge_laws.proofs.Refusing.{no_fault}
use Rattle.orc_merge_laws.proofs.OneFault.{one_merge, one_fault}
use Rattle.orc_merge_laws.proofs.Cover.{merge_or_fault}
use Rattle.orc_merge_laws.proofs.PastLimit.{past_limit}
use Rattle.orc_merge_laws.proofs.laws.outcomes.Goals as goal

pub returns-clause-one : goal.returns-clause-one
returns-clause-one c = one_merge

pub returns-clause-cover : goal.returns-clause-cover
returns-clause-cover c = merge_or_fault

pub returns-clause-none : goal.returns-clause-none
returns-clause-none c = no_fault

pub returns-clause-single : goal.returns-clause-single
returns-clause-single c = one_fault

pub returns-clause-limit : goal.returns-clause-limit
returns-clause-limit c = past_limit
