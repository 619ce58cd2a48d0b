use Rattle.std.proofs.Common.{arith}
use Rattle.orc_values.proofs.Childless.{elements_many, pairs_many}
use Rattle.orc_stats.proofs.measures.children.ChildrenMeasures.add_own.Goals as goal

pub returns-in-List-clause-joined : goal.returns-in-List-clause-joined
returns-in-List-clause-joined c = grind (arith, elements_many, pairs_many)
