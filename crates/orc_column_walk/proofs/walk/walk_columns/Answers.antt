use Rattle.orc_values.specs.Views.{shape}
use Rattle.orc_column_reader.specs.Stripe.{columns_of}
use Rattle.orc_column_walk.proofs.OwnRows.{down_rows}
use Rattle.orc_column_walk.proofs.RefusedLemmas.{refused_rows}
use Rattle.orc_column_walk.proofs.walk.walk_columns.Goals as goal

pub returns-in-Ok-clause-found : goal.returns-in-Ok-clause-found
returns-in-Ok-clause-found c = down_rows (shape c.args.tree.now) (columns_of c.args.footer.now c.args.located.now.bytes.now) c.args.rows c.in-Ok.ensures.found

pub returns-in-Err-clause-fault : goal.returns-in-Err-clause-fault
returns-in-Err-clause-fault c = λ memory.
    let h = c.in-Err.ensures.fault memory in refused_rows (shape c.args.tree.now) (columns_of c.args.footer.now c.args.located.now.bytes.now) h.0 c.args.rows c.in-Err.fault h.1
