use Rattle.std.proofs.Common.{arith}
use Rattle.orc_values.proofs.Childless.{childless_list, childless_map}
use Rattle.orc_values.proofs.own.own_of.Goals as goal

pub returns-in-Some-List : goal.returns-in-Some-List
returns-in-Some-List c = grind (arith, childless_list)

pub returns-in-Some-Map : goal.returns-in-Some-Map
returns-in-Some-Map c = grind (arith, childless_map)
