use Rattle.std.proofs.Common.{◌∙◌, sym, arith}
use Rattle.orc_values.specs.Views.{shape}
use Rattle.orc_column_reader.specs.Stripe.{columns_of}
use Rattle.orc_column_walk.proofs.GroupMarkLemmas.{value_bounds_are, values_by_marks}
use Rattle.orc_column_walk.proofs.StartedLemmas.{own_found, children_few, refused_entries, refused_marks, refused_values}
use Rattle.orc_column_walk.proofs.groups.read_groups.Goals as goal

pub find_column-requires-clause-values : goal.find_column-requires-clause-values
find_column-requires-clause-values c =
    let m = c.in-Ok-count_values_by_group.ensures.found in
    value_bounds_are c.args.count c.args.bounds.now c.in-Ok-count_values_by_group.marked.values c.in-Ok-count_values_by_group.marked.before.items m.0 c.requires.bounds c.requires.first m.1 m.3 m.4

pub returns-in-Ok-find_column-clause-found : goal.returns-in-Ok-find_column-clause-found
returns-in-Ok-find_column-clause-found c =
    let x = columns_of c.args.footer.now c.args.located.now.bytes.now c.args.column in
    let m = c.in-Ok-count_values_by_group.ensures.found in
    let v = c.in-Ok-find_column.ensures.found in
    let r = own_found (shape c.args.tree.now) x c.in-Ok.reader c.args.count c.in-Ok-count_values_by_group.marked.values m.0 v.0 c.in-Ok.ensures.found c.requires.few m.1 m.2 m.3 v.1 v.2 in (
      r.0,
      r.1,
      v.3 r.0 (record {
        counted = r.1.counted;
        values_are = r.4;
        before = values_by_marks r.0 m.0 c.args.bounds.now r.3 ∙ sym m.4;
      }),
    )

pub returns-in-Ok-find_column-clause-few : goal.returns-in-Ok-find_column-clause-few
returns-in-Ok-find_column-clause-few c =
    let x = columns_of c.args.footer.now c.args.located.now.bytes.now c.args.column in
    let m = c.in-Ok-count_values_by_group.ensures.found in
    let v = c.in-Ok-find_column.ensures.found in
    let r = own_found (shape c.args.tree.now) x c.in-Ok.reader c.args.count c.in-Ok-count_values_by_group.marked.values m.0 v.0 c.in-Ok.ensures.found c.requires.few m.1 m.2 m.3 v.1 v.2 in
    let f = v.3 r.0 (record {
      counted = r.1.counted;
      values_are = r.4;
      before = values_by_marks r.0 m.0 c.args.bounds.now r.3 ∙ sym m.4;
    }) in
    let few = children_few (shape c.args.tree.now) x c.in-Ok.reader.source c.args.count c.in-Ok-count_values_by_group.marked.values m.0 v.0 c.in-Ok.ensures.found.1 c.requires.few m.1 m.3 v.1 v.2 in
    omega (arith, few, r.2, f.below_is)

pub returns-in-Ok-count_values_by_group-clause-fault : goal.returns-in-Ok-count_values_by_group-clause-fault
returns-in-Ok-count_values_by_group-clause-fault c = λ memory.
    let x = columns_of c.args.footer.now c.args.located.now.bytes.now c.args.column in
    let m = c.in-Ok-count_values_by_group.ensures.found in
    let e = c.in-Err-find_column.ensures in
    refused_values (shape c.args.tree.now) x c.in-Ok.reader c.args.column c.args.count c.in-Ok-count_values_by_group.marked.values m.0 c.in-Err-find_column.fault c.in-Ok.ensures.found c.in-Ok.ensures.column m.1 m.2 m.3 (e.none memory) (e.fault memory)

pub returns-in-Ok-clause-fault : goal.returns-in-Ok-clause-fault
returns-in-Ok-clause-fault c = λ memory.
    let x = columns_of c.args.footer.now c.args.located.now.bytes.now c.args.column in
    let e = c.in-Err-count_values_by_group.ensures in
    refused_marks (shape c.args.tree.now) x c.in-Ok.reader c.args.column c.args.count c.in-Err-count_values_by_group.fault c.in-Ok.ensures.found (e.none memory) (e.fault memory)

pub returns-clause-fault : goal.returns-clause-fault
returns-clause-fault c = λ memory.
    let x = columns_of c.args.footer.now c.args.located.now.bytes.now c.args.column in
    let e = c.in-Err.ensures in
    refused_entries (shape c.args.tree.now) x c.args.column c.args.count c.in-Err.fault (e.none memory) (e.fault memory)
