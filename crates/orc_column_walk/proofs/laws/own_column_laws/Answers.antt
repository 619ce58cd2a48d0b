use Rattle.orc_column_walk.proofs.OwnRows.{own_rows, own_cells, stripe_rows}
use Rattle.orc_column_walk.proofs.RefusedLemmas.{refused_rows}
use Rattle.orc_column_walk.proofs.laws.own_column_laws.Goals as goal

pub returns-clause-rows : goal.returns-clause-rows
returns-clause-rows c = stripe_rows

pub returns-clause-own : goal.returns-clause-own
returns-clause-own c = own_rows

pub returns-clause-cells : goal.returns-clause-cells
returns-clause-cells c = own_cells

pub returns-clause-refused : goal.returns-clause-refused
returns-clause-refused c = refused_rows
