use Rattle.orc_stripe_reader.proofs.GroupStarts.{starts_itself, right_entry}
use Rattle.orc_stripe_reader.proofs.FaultsBehind.{fault_behind}
use Rattle.orc_stripe_reader.proofs.SpelledBehind.{one_behind, fits_behind}
use Rattle.orc_stripe_reader.proofs.laws.group_laws.Goals as goal

pub returns-clause-starts : goal.returns-clause-starts
returns-clause-starts c = starts_itself

pub returns-clause-right : goal.returns-clause-right
returns-clause-right c = right_entry

pub returns-clause-faults : goal.returns-clause-faults
returns-clause-faults c = λ view before group f leads met. fault_behind view before group f leads met

pub returns-clause-one_list : goal.returns-clause-one_list
returns-clause-one_list c = one_behind

pub returns-clause-fit : goal.returns-clause-fit
returns-clause-fit c = fits_behind
