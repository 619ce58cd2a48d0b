use Rattle.orc_group_reader.proofs.ColumnsBehind.{readers_behind}
use Rattle.orc_group_reader.proofs.SameLeft.{same_left}
use Rattle.orc_group_reader.proofs.laws.entering_laws.Goals as goal

pub returns-clause-faults : goal.returns-clause-faults
returns-clause-faults c = λ s x before entries readers all n f fit behind at met. readers_behind s x before entries readers all n f fit behind at met

pub returns-clause-same : goal.returns-clause-same
returns-clause-same c = λ s x entries a b rows first second left. same_left s x entries a b rows first second left
