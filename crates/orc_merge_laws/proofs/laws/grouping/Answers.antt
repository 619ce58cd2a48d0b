use Rattle.orc_merge_laws.proofs.Steps.{grouping_same, grouping_one}
use Rattle.orc_merge_laws.proofs.Back.{grouping_back, grouping_step, grouping_wrote, grouping_alike}
use Rattle.orc_merge_laws.proofs.Rows.{grouping_accepted, grouping_rows}
use Rattle.orc_merge_laws.proofs.Refusing.{grouping_refused}
use Rattle.orc_merge_laws.proofs.laws.grouping.Goals as goal

pub returns-clause-same : goal.returns-clause-same
returns-clause-same c = grouping_same

pub returns-clause-one : goal.returns-clause-one
returns-clause-one c = grouping_one

pub returns-clause-back : goal.returns-clause-back
returns-clause-back c = grouping_back

pub returns-clause-step : goal.returns-clause-step
returns-clause-step c = grouping_step

pub returns-clause-wrote : goal.returns-clause-wrote
returns-clause-wrote c = grouping_wrote

pub returns-clause-alike : goal.returns-clause-alike
returns-clause-alike c = grouping_alike

pub returns-clause-accepted : goal.returns-clause-accepted
returns-clause-accepted c = grouping_accepted

pub returns-clause-rows : goal.returns-clause-rows
returns-clause-rows c = grouping_rows

pub returns-clause-refused : goal.returns-clause-refused
returns-clause-refused c = grouping_refused
