use Rattle.std.proofs.Common.{◌∙◌, arith}
use Rattle.orc_values.specs.Views.{shape}
use Rattle.orc_column_reader.specs.Stripe.{columns_of}
use Rattle.orc_column_walk.proofs.StartedLemmas.{own_found, children_few, refused_marks, refused_values}
use Rattle.orc_column_walk.proofs.walk.read_column.Goals as goal

pub returns-in-Ok-read_values-clause-found : goal.returns-in-Ok-read_values-clause-found
returns-in-Ok-read_values-clause-found c =
    let x = columns_of c.args.footer.now c.args.located.now.bytes.now c.args.column in
    let m = c.in-Ok-count_values.ensures.found in
    let v = c.in-Ok-read_values.ensures.found in
    let r = own_found (shape c.args.tree.now) x c.in-Ok.reader c.args.count c.in-Ok-count_values.values m.0 v.0 c.in-Ok.ensures.found c.requires.few m.1 m.2 m.3 v.1 v.2 in
    (r.0, r.1, v.3 ∙ r.2)

pub returns-in-Ok-read_values-clause-few : goal.returns-in-Ok-read_values-clause-few
returns-in-Ok-read_values-clause-few c =
    let x = columns_of c.args.footer.now c.args.located.now.bytes.now c.args.column in
    let m = c.in-Ok-count_values.ensures.found in
    let v = c.in-Ok-read_values.ensures.found in
    let few = children_few (shape c.args.tree.now) x c.in-Ok.reader.source c.args.count c.in-Ok-count_values.values m.0 v.0 c.in-Ok.ensures.found.1 c.requires.few m.1 m.3 v.1 v.2 in
    omega (arith, few, v.3)

pub returns-in-Ok-count_values-clause-fault : goal.returns-in-Ok-count_values-clause-fault
returns-in-Ok-count_values-clause-fault c = λ memory.
    let x = columns_of c.args.footer.now c.args.located.now.bytes.now c.args.column in
    let m = c.in-Ok-count_values.ensures.found in
    let e = c.in-Err-read_values.ensures in
    refused_values (shape c.args.tree.now) x c.in-Ok.reader c.args.column c.args.count c.in-Ok-count_values.values m.0 c.in-Err-read_values.fault c.in-Ok.ensures.found c.in-Ok.ensures.column m.1 m.2 m.3 (e.none memory) (e.fault memory)

pub returns-in-Ok-clause-fault : goal.returns-in-Ok-clause-fault
returns-in-Ok-clause-fault c = λ memory.
    let x = columns_of c.args.footer.now c.args.located.now.bytes.now c.args.column in
    let e = c.in-Err-count_values.ensures in
    refused_marks (shape c.args.tree.now) x c.in-Ok.reader c.args.column c.args.count c.in-Err-count_values.fault c.in-Ok.ensures.found (e.none memory) (e.fault memory)
