use Rattle.std.proofs.Common.{arith}
use Rattle.orc_values.proofs.Views.{list_of-views, view-List, view-Struct}
use Rattle.orc_values.proofs.children.parts_of.Goals as goal

pub returns-in-Some-List : goal.returns-in-Some-List
returns-in-Some-List c = grind (arith, view-List, list_of-views)

pub returns-in-Some-Struct : goal.returns-in-Some-Struct
returns-in-Some-Struct c = grind (arith, view-Struct, list_of-views)
