use Rattle.orc_json_rows.specs.JsonFaults.{FaultAt}
use Rattle.orc_json_rows.proofs.JsonBack.{reads_back, object_in_order}
use Rattle.orc_json_rows.proofs.JsonLeaves.{one_fault}
use Rattle.orc_json_rows.proofs.JsonLaws.{one_row, row_fits, fault_excludes, somewhere_excludes}
use Rattle.orc_json_rows.proofs.laws.json_laws.Goals as goal

pub returns-clause-one_row : goal.returns-clause-one_row
returns-clause-one_row c = one_row

pub returns-clause-fit : goal.returns-clause-fit
returns-clause-fit c = row_fits

pub returns-clause-none : goal.returns-clause-none
returns-clause-none c = λ e s d row memory there spelled. somewhere_excludes (FaultAt e) (fault_excludes e memory) s d row there spelled

pub returns-clause-again : goal.returns-clause-again
returns-clause-again c = reads_back

pub returns-clause-one_fault : goal.returns-clause-one_fault
returns-clause-one_fault c = one_fault

pub returns-clause-keys : goal.returns-clause-keys
returns-clause-keys c = object_in_order
