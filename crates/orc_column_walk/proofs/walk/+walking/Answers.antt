use Rattle.std.proofs.Common.{◌*◌, ◌+◌, ◌<◌, refl, ap, ◌∙◌, arith, add-one}
use Rattle.orc_values.specs.Shapes.{width}
use Rattle.orc_values.specs.Views.{shape}
use Rattle.orc_values.proofs.ByColumn.{width_within}
use Rattle.orc_values.proofs.Listed.{widths_from}
use Rattle.orc_values.proofs.Views.{shape-List, shape-Map}
use Rattle.orc_column_reader.specs.Stripe.{columns_of}
use Rattle.orc_column_walk.proofs.TreeLemmas.{list_down, map_down, list_refused, keys_refused, seconds_refused, field_read, field_refused}
use Rattle.orc_column_walk.proofs.walk.+walking.Goals as goal

pub walk_fields-walk_tree-requires : goal.walk_fields-walk_tree-requires
walk_fields-walk_tree-requires t c =
    let w = width_within c.args.fields.now c.loop-field.field-index c.field-item.result c.loop-field-test.true c.field-item.is in
    let e = widths_from c.args.fields.now c.loop-field.field-index c.field-item.result c.loop-field-test.true c.field-item.is in
    let falls : 2 * width (shape c.field-item.result.tree) < t = omega (arith, c.decreases, w) in
    (falls, (omega (arith, e, c.loop-field.invariant.left, c.requires.there), (c.requires.located, c.requires.few)))

pub walk_fields-returns-in-Err-clause-fault : goal.walk_fields-returns-in-Err-clause-fault
walk_fields-returns-in-Err-clause-fault t c = λ memory.
    field_refused c.args.fields.now (columns_of c.args.footer.now c.args.located.now.bytes.now) c.args.column c.loop-field.next c.args.count c.loop-field.field-index c.field-item.result c.in-Err.fault c.loop-field.invariant c.loop-field-test.true c.field-item.is
    (c.in-Err.ensures.fault memory)

pub walk_fields-loop-field-preserved : goal.walk_fields-loop-field-preserved
walk_fields-loop-field-preserved t c =
    rw add-one (field_read c.args.fields.now (columns_of c.args.footer.now c.args.located.now.bytes.now) c.args.column c.loop-field.next c.in-Ok.after c.args.count c.loop-field.field-index c.field-item.result c.loop-field.invariant c.loop-field-test.true c.field-item.is
    c.in-Ok.ensures.found c.in-Ok.ensures.next)

pub walk_tree-returns-in-Ok-walk_tree-clause-found : goal.walk_tree-returns-in-Ok-walk_tree-clause-found
walk_tree-returns-in-Ok-walk_tree-clause-found t c =
    let f = c.in-Ok-walk_tree.ensures.found in
    let down = rw c.deref.ensures at f in
    list_down (shape c.args.tree.now) (shape c.in-List.element.value) c.in-List.field-1.items (columns_of c.args.footer.now c.args.located.now.bytes.now) c.args.column (c.args.column + 1) c.args.count c.in-Ok.below
    (ap shape c.in-List.is ∙ shape-List c.in-List.element c.in-List.field-1) refl c.in-Ok.ensures.found down

pub walk_tree-returns-in-Err-walk_tree-clause-fault : goal.walk_tree-returns-in-Err-walk_tree-clause-fault
walk_tree-returns-in-Err-walk_tree-clause-fault t c = λ memory.
    let f = c.in-Err-walk_tree.ensures.fault memory in
    let down = rw c.deref.ensures at f in
    list_refused (shape c.args.tree.now) (shape c.in-List.element.value) c.in-List.field-1.items (columns_of c.args.footer.now c.args.located.now.bytes.now) c.args.column (c.args.column + 1) c.args.count c.in-Ok.below c.in-Err-walk_tree.fault
    (ap shape c.in-List.is ∙ shape-List c.in-List.element c.in-List.field-1) refl c.in-Ok.ensures.found down

pub walk_tree-returns-in-Ok-walk_tree-3-clause-found : goal.walk_tree-returns-in-Ok-walk_tree-3-clause-found
walk_tree-returns-in-Ok-walk_tree-3-clause-found t c =
    let k = c.in-Ok-walk_tree-2.ensures.found in
    let keys = rw c.deref-in-Map.ensures at k in
    let n = c.in-Ok-walk_tree-2.ensures.next in
    let next = rw c.deref-in-Map.ensures at n in
    let v = c.in-Ok-walk_tree-3.ensures.found in
    let seconds = rw c.deref-in-Ok-walk_tree-2.ensures at v in
    map_down (shape c.args.tree.now) (shape c.in-Map.key.value) (shape c.in-Map.value.value) c.in-Map.field-2.items (columns_of c.args.footer.now c.args.located.now.bytes.now) c.args.column (c.args.column + 1) c.in-Ok-walk_tree-2.second c.args.count c.in-Ok.below
    (ap shape c.in-Map.is ∙ shape-Map c.in-Map.key c.in-Map.value c.in-Map.field-2) refl next c.in-Ok.ensures.found keys seconds

pub walk_tree-returns-in-Err-walk_tree-3-clause-fault : goal.walk_tree-returns-in-Err-walk_tree-3-clause-fault
walk_tree-returns-in-Err-walk_tree-3-clause-fault t c = λ memory.
    let n = c.in-Ok-walk_tree-2.ensures.next in
    let next = rw c.deref-in-Map.ensures at n in
    let f = c.in-Err-walk_tree-3.ensures.fault memory in
    let down = rw c.deref-in-Ok-walk_tree-2.ensures at f in
    seconds_refused (shape c.args.tree.now) (shape c.in-Map.key.value) (shape c.in-Map.value.value) c.in-Map.field-2.items (columns_of c.args.footer.now c.args.located.now.bytes.now) c.args.column (c.args.column + 1) c.in-Ok-walk_tree-2.second c.args.count c.in-Ok.below c.in-Err-walk_tree-3.fault
    (ap shape c.in-Map.is ∙ shape-Map c.in-Map.key c.in-Map.value c.in-Map.field-2) refl next c.in-Ok.ensures.found down

pub walk_tree-returns-in-Err-walk_tree-2-clause-fault : goal.walk_tree-returns-in-Err-walk_tree-2-clause-fault
walk_tree-returns-in-Err-walk_tree-2-clause-fault t c = λ memory.
    let f = c.in-Err-walk_tree-2.ensures.fault memory in
    let down = rw c.deref-in-Map.ensures at f in
    keys_refused (shape c.args.tree.now) (shape c.in-Map.key.value) (shape c.in-Map.value.value) c.in-Map.field-2.items (columns_of c.args.footer.now c.args.located.now.bytes.now) c.args.column (c.args.column + 1) c.args.count c.in-Ok.below c.in-Err-walk_tree-2.fault
    (ap shape c.in-Map.is ∙ shape-Map c.in-Map.key c.in-Map.value c.in-Map.field-2) refl c.in-Ok.ensures.found down
