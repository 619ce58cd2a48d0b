use Rattle.orc_values.proofs.Together.{cells-append, cells_fit}
use Rattle.orc_values.proofs.Deeper.{cells-add, elements-length, keys-length, map_values-length, members-length}
use Rattle.orc_trees.proofs.laws.cells_laws.Goals as goal

pub returns-clause-append : goal.returns-clause-append
returns-clause-append c = cells-append

pub returns-clause-fit : goal.returns-clause-fit
returns-clause-fit c = cells_fit

pub returns-clause-deeper : goal.returns-clause-deeper
returns-clause-deeper c = cells-add

pub returns-clause-elements : goal.returns-clause-elements
returns-clause-elements c = elements-length

pub returns-clause-members : goal.returns-clause-members
returns-clause-members c = members-length

pub returns-clause-keys : goal.returns-clause-keys
returns-clause-keys c = keys-length

pub returns-clause-map_values : goal.returns-clause-map_values
returns-clause-map_values c = map_values-length
