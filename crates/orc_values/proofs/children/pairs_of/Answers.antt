use Rattle.std.proofs.Common.{arith}
use Rattle.orc_values.proofs.Views.{list_of-paired, view-Map}
use Rattle.orc_values.proofs.children.pairs_of.Goals as goal

pub returns-in-Some-Map : goal.returns-in-Some-Map
returns-in-Some-Map c = grind (arith, view-Map, list_of-paired)
