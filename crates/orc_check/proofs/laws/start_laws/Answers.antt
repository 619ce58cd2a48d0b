use Rattle.orc_check.proofs.GroupsFound.{groups_found}
use Rattle.orc_check.proofs.NoFinding.{index_found}
use Rattle.orc_check.proofs.laws.start_laws.Goals as goal

pub returns : goal.returns
returns c = λ bytes tail rows is found.
    groups_found c.group_laws.ensures.starts c.group_laws.ensures.right bytes tail rows is (index_found bytes tail rows is found)
