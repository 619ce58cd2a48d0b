use Rattle.std.proofs.Common.{refl}
use Rattle.orc_wire.proofs.laws.canonical_laws.Goals as goal

pub returns-clause-dictionary : goal.returns-clause-dictionary
returns-clause-dictionary c = λ m e. rw e refl

pub returns-clause-direct : goal.returns-clause-direct
returns-clause-direct c = λ m e. rw e refl
