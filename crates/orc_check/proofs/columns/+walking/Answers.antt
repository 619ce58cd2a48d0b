use Rattle.std.proofs.Common.{◌≡◌, ◌*◌, ◌+◌, ◌<◌, refl, ap, ◌∙◌, arith, add-one}
use Rattle.std.proofs.lemmas.Result.{err_from_is_err_and}
use Rattle.orc_values.specs.Shapes.{width, widths}
use Rattle.orc_values.specs.Views.{shape, fields as fields_view}
use Rattle.orc_values.proofs.ByColumn.{width_within}
use Rattle.orc_values.proofs.Listed.{widths_from}
use Rattle.orc_values.proofs.Views.{shape-Scalar, shape-List, shape-Map, shape-Struct}
use Rattle.orc_column_reader.specs.Stripe.{columns_of}
use Rattle.orc_values.proofs.Widths.{some_width}
use Rattle.orc_column_reader.proofs.Handed.{if_ok, on_ok, if_err}
use Rattle.orc_column_walk.proofs.TreeLemmas.{scalar_down, list_down, map_down, struct_down, list_refused, keys_refused, seconds_refused, struct_refused, refused_here, none_read, field_read, field_refused}
use Rattle.orc_check.proofs.WalkLemmas.{scalar_checked, list_checked, map_checked, struct_checked, no_field_checked, field_checked, fields_checked}
use Rattle.orc_check.proofs.columns.+walking.Goals as goal

-- ---- fields

pub check_fields-check_tree-requires : goal.check_fields-check_tree-requires
check_fields-check_tree-requires t c =
    let w = width_within c.args.fields.now c.loop-field.field-index c.field-item.result c.loop-field-test.true c.field-item.is in
    let e = widths_from c.args.fields.now c.loop-field.field-index c.field-item.result c.loop-field-test.true c.field-item.is in
    let falls : 2 * width (shape c.field-item.result.tree) < t = omega (arith, c.decreases, w) in
    (falls, (c.requires.laid_out, (omega (arith, e, c.loop-field.invariant.own.left, c.requires.there), c.requires.grouped)))

pub check_fields-returns-in_err-next-clause-fault : goal.check_fields-returns-in_err-next-clause-fault
check_fields-returns-in_err-next-clause-fault t c =
    let p = err_from_is_err_and c.from_residual.result c.from_residual.ensures.1 in
    rw (p.1, p.2) (λ memory.
    let v = c.args.stripe.now.view.now in
    field_refused c.args.fields.now (columns_of v.footer v.bytes) c.args.column c.loop-field.next c.args.cells.now.count c.loop-field.field-index c.field-item.result c.in_err-next.field-0.0 c.loop-field.invariant.own c.loop-field-test.true c.field-item.is
    (c.in_err-next.ensures.fault memory))

pub check_fields-loop-field-init : goal.check_fields-loop-field-init
check_fields-loop-field-init t c =
    let v = c.args.stripe.now.view.now in
    record {
      own = none_read c.args.fields.now (columns_of v.footer v.bytes) c.args.column c.args.cells.now.count;
      checked = no_field_checked v c.args.stripe.now.told.now c.args.stripe.now.number c.args.fields.now c.args.column c.args.cells.now c.args.found.now.items c.args.stats.now.items;
    }

pub check_fields-loop-field-preserved : goal.check_fields-loop-field-preserved
check_fields-loop-field-preserved t c =
    let v = c.args.stripe.now.view.now in
    record {
      own = rw add-one (field_read c.args.fields.now (columns_of v.footer v.bytes) c.args.column c.loop-field.next c.in_ok-next.next c.args.cells.now.count c.loop-field.field-index c.field-item.result c.loop-field.invariant.own c.loop-field-test.true c.field-item.is
          c.in_ok-next.ensures.found c.in_ok-next.ensures.next);
      checked = field_checked v c.args.stripe.now.told.now c.args.stripe.now.number c.args.fields.now c.field-item.result c.args.column c.loop-field.next c.in_ok-next.next c.args.cells.now c.loop-field.field-index c.args.found.now.items c.args.stats.now.items
          c.loop-field.found.items c.loop-field.stats.items c.check_tree.new.found.items c.check_tree.new.stats.items c.loop-field-test.true c.field-item.is c.in_ok-next.ensures.next c.loop-field.invariant.checked c.in_ok-next.ensures.checked;
    }

pub check_fields-returns-clause-checked : goal.check_fields-returns-clause-checked
check_fields-returns-clause-checked t c =
    let v = c.args.stripe.now.view.now in
    fields_checked v c.args.stripe.now.told.now c.args.stripe.now.number c.args.fields.now (columns_of v.footer v.bytes) c.args.column c.loop-field.next c.args.cells.now c.loop-field.field-index c.args.found.now.items c.args.stats.now.items
    c.loop-field.found.items c.loop-field.stats.items (omega (arith, c.loop-field-test.false)) c.loop-field.invariant.own c.loop-field.invariant.checked

-- ---- scalars

pub check_tree-returns-in-Scalar-clause-found : goal.check_tree-returns-in-Scalar-clause-found
check_tree-returns-in-Scalar-clause-found t c =
    let v = c.args.stripe.now.view.now in
    scalar_down (shape c.args.tree.now) c.in-Scalar.field-0 c.in-Scalar.field-1.items (columns_of v.footer v.bytes) c.args.column c.args.cells.now.count c.in_ok-below.below.count
    (ap shape c.in-Scalar.is ∙ shape-Scalar c.in-Scalar.field-0 c.in-Scalar.field-1) c.in_ok-below.ensures.found

pub check_tree-returns-in-Scalar-clause-checked : goal.check_tree-returns-in-Scalar-clause-checked
check_tree-returns-in-Scalar-clause-checked t c =
    let s = c.args.stripe.now in
    scalar_checked s.view.now s.told.now s.number c.args.column (shape c.args.tree.now) c.in-Scalar.field-0 c.in-Scalar.field-1.items c.args.cells.now c.args.found.now.items c.add_column.new.found.items c.args.stats.now.items c.add_column.new.stats.items
    (ap shape c.in-Scalar.is ∙ shape-Scalar c.in-Scalar.field-0 c.in-Scalar.field-1) c.in_ok-below.ensures.checked

-- ---- lists

pub check_tree-returns-in-List-clause-found : goal.check_tree-returns-in-List-clause-found
check_tree-returns-in-List-clause-found t c =
    let v = c.args.stripe.now.view.now in
    let f = c.check_tree.ensures.found in
    let down = rw c.deref.ensures at f in
    on_ok c.check_tree.result down
    (λ h. list_down (shape c.args.tree.now) (shape c.in-List.element.value) c.in-List.field-1.items (columns_of v.footer v.bytes) c.args.column (c.args.column + 1) c.args.cells.now.count c.in_ok-below.below.count
    (ap shape c.in-List.is ∙ shape-List c.in-List.element c.in-List.field-1) refl c.in_ok-below.ensures.found h)

pub check_tree-returns-in-List-clause-next : goal.check_tree-returns-in-List-clause-next
check_tree-returns-in-List-clause-next t c =
    let w : width (shape c.args.tree.now) ≡ 1 + width (shape c.in-List.element.value) = ap width (ap shape c.in-List.is ∙ shape-List c.in-List.element c.in-List.field-1) in
    let f = c.check_tree.ensures.next in
    let n = rw c.deref.ensures at f in
    if_ok c.check_tree.result n (λ next e. omega (arith, e, w))

pub check_tree-returns-in-List-clause-checked : goal.check_tree-returns-in-List-clause-checked
check_tree-returns-in-List-clause-checked t c =
    let s = c.args.stripe.now in
    let f = c.check_tree.ensures.checked in
    let inner = rw c.deref.ensures at f in
    on_ok c.check_tree.result inner
    (λ h. list_checked s.view.now s.told.now s.number c.args.column (c.args.column + 1) (shape c.args.tree.now) c.args.cells.now c.in_ok-below.below c.args.found.now.items c.add_column.new.found.items c.check_tree.new.found.items c.args.stats.now.items
    c.add_column.new.stats.items c.check_tree.new.stats.items refl c.in_ok-below.ensures.rows c.in_ok-below.ensures.checked (shape c.in-List.element.value) c.in-List.field-1.items (ap shape c.in-List.is ∙ shape-List c.in-List.element c.in-List.field-1) h)

pub check_tree-returns-in-List-clause-fault : goal.check_tree-returns-in-List-clause-fault
check_tree-returns-in-List-clause-fault t c =
    let v = c.args.stripe.now.view.now in
    let f = c.check_tree.ensures.fault in
    let down = rw c.deref.ensures at f in
    if_err c.check_tree.result down
    (λ cause h memory. list_refused (shape c.args.tree.now) (shape c.in-List.element.value) c.in-List.field-1.items (columns_of v.footer v.bytes) c.args.column (c.args.column + 1) c.args.cells.now.count c.in_ok-below.below.count cause
    (ap shape c.in-List.is ∙ shape-List c.in-List.element c.in-List.field-1) refl c.in_ok-below.ensures.found (h memory))

-- ---- maps

pub check_tree-returns-in-Map-clause-found : goal.check_tree-returns-in-Map-clause-found
check_tree-returns-in-Map-clause-found t c =
    let v = c.args.stripe.now.view.now in
    let k = c.in_ok-second-in-Map.ensures.found in
    let keys = rw c.deref-in-Map.ensures at k in
    let n = c.in_ok-second-in-Map.ensures.next in
    let next = rw c.deref-in-Map.ensures at n in
    let f = c.check_tree-in-Map-2.ensures.found in
    let seconds = rw c.deref-in-Map-2.ensures at f in
    on_ok c.check_tree-in-Map-2.result seconds
    (λ h. map_down (shape c.args.tree.now) (shape c.in-Map.key.value) (shape c.in-Map.value.value) c.in-Map.field-2.items (columns_of v.footer v.bytes) c.args.column (c.args.column + 1) c.in_ok-second-in-Map.second c.args.cells.now.count c.in_ok-below.below.count
    (ap shape c.in-Map.is ∙ shape-Map c.in-Map.key c.in-Map.value c.in-Map.field-2) refl next c.in_ok-below.ensures.found keys h)

pub check_tree-returns-in-Map-clause-next : goal.check_tree-returns-in-Map-clause-next
check_tree-returns-in-Map-clause-next t c =
    let w : width (shape c.args.tree.now) ≡ 1 + (width (shape c.in-Map.key.value) + width (shape c.in-Map.value.value)) = ap width (ap shape c.in-Map.is ∙ shape-Map c.in-Map.key c.in-Map.value c.in-Map.field-2) in
    let n = c.in_ok-second-in-Map.ensures.next in
    let next = rw c.deref-in-Map.ensures at n in
    let f = c.check_tree-in-Map-2.ensures.next in
    let last = rw c.deref-in-Map-2.ensures at f in
    if_ok c.check_tree-in-Map-2.result last (λ m e. omega (arith, e, next, w))

pub check_tree-returns-in-Map-clause-checked : goal.check_tree-returns-in-Map-clause-checked
check_tree-returns-in-Map-clause-checked t c =
    let s = c.args.stripe.now in
    let k = c.in_ok-second-in-Map.ensures.checked in
    let keys = rw c.deref-in-Map.ensures at k in
    let n = c.in_ok-second-in-Map.ensures.next in
    let next = rw c.deref-in-Map.ensures at n in
    let f = c.check_tree-in-Map-2.ensures.checked in
    let seconds = rw c.deref-in-Map-2.ensures at f in
    on_ok c.check_tree-in-Map-2.result seconds
    (λ h. map_checked s.view.now s.told.now s.number c.args.column (c.args.column + 1) (shape c.args.tree.now) c.args.cells.now c.in_ok-below.below c.args.found.now.items c.add_column.new.found.items c.check_tree-in-Map-2.new.found.items c.args.stats.now.items
    c.add_column.new.stats.items c.check_tree-in-Map-2.new.stats.items refl c.in_ok-below.ensures.rows c.in_ok-below.ensures.checked (shape c.in-Map.key.value) (shape c.in-Map.value.value) c.in-Map.field-2.items c.in_ok-second-in-Map.second
    c.check_tree-in-Map.new.found.items c.check_tree-in-Map.new.stats.items (ap shape c.in-Map.is ∙ shape-Map c.in-Map.key c.in-Map.value c.in-Map.field-2) next keys h)

pub check_tree-returns-in-Map-clause-fault : goal.check_tree-returns-in-Map-clause-fault
check_tree-returns-in-Map-clause-fault t c =
    let v = c.args.stripe.now.view.now in
    let n = c.in_ok-second-in-Map.ensures.next in
    let next = rw c.deref-in-Map.ensures at n in
    let f = c.check_tree-in-Map-2.ensures.fault in
    let down = rw c.deref-in-Map-2.ensures at f in
    if_err c.check_tree-in-Map-2.result down
    (λ cause h memory. seconds_refused (shape c.args.tree.now) (shape c.in-Map.key.value) (shape c.in-Map.value.value) c.in-Map.field-2.items (columns_of v.footer v.bytes) c.args.column (c.args.column + 1) c.in_ok-second-in-Map.second c.args.cells.now.count c.in_ok-below.below.count cause
    (ap shape c.in-Map.is ∙ shape-Map c.in-Map.key c.in-Map.value c.in-Map.field-2) refl next c.in_ok-below.ensures.found (h memory))

pub check_tree-returns-in_err-second-in-Map-clause-fault : goal.check_tree-returns-in_err-second-in-Map-clause-fault
check_tree-returns-in_err-second-in-Map-clause-fault t c =
    let p = err_from_is_err_and c.from_residual-in_err-second-in-Map.result c.from_residual-in_err-second-in-Map.ensures.1 in
    rw (p.1, p.2) (λ memory.
    let v = c.args.stripe.now.view.now in
    let f = c.in_err-second-in-Map.ensures.fault memory in
    let down = rw c.deref-in-Map.ensures at f in
    keys_refused (shape c.args.tree.now) (shape c.in-Map.key.value) (shape c.in-Map.value.value) c.in-Map.field-2.items (columns_of v.footer v.bytes) c.args.column (c.args.column + 1) c.args.cells.now.count c.in_ok-below.below.count c.in_err-second-in-Map.field-0.0
    (ap shape c.in-Map.is ∙ shape-Map c.in-Map.key c.in-Map.value c.in-Map.field-2) refl c.in_ok-below.ensures.found down)

-- ---- structs

pub check_tree-returns-clause-found : goal.check_tree-returns-clause-found
check_tree-returns-clause-found t c =
    let v = c.args.stripe.now.view.now in
    let f = c.check_fields.ensures.found in
    let down = rw c.deref-in-Struct.ensures.value at f in
    on_ok c.check_fields.result down
    (λ h. struct_down (shape c.args.tree.now) (fields_view c.in-Struct.fields.items) c.in-Struct.field-1.items (columns_of v.footer v.bytes) c.args.column (c.args.column + 1) c.args.cells.now.count c.in_ok-below.below.count
    (ap shape c.in-Struct.is ∙ shape-Struct c.in-Struct.fields c.in-Struct.field-1) refl c.in_ok-below.ensures.found h)

pub check_tree-returns-clause-next : goal.check_tree-returns-clause-next
check_tree-returns-clause-next t c =
    let w : width (shape c.args.tree.now) ≡ 1 + widths (fields_view c.in-Struct.fields.items) = ap width (ap shape c.in-Struct.is ∙ shape-Struct c.in-Struct.fields c.in-Struct.field-1) in
    let f = c.check_fields.ensures.next in
    let n = rw c.deref-in-Struct.ensures.value at f in
    if_ok c.check_fields.result n (λ next e. omega (arith, e, w))

pub check_tree-returns-clause-checked : goal.check_tree-returns-clause-checked
check_tree-returns-clause-checked t c =
    let s = c.args.stripe.now in
    let f = c.check_fields.ensures.checked in
    let inner = rw c.deref-in-Struct.ensures.value at f in
    on_ok c.check_fields.result inner
    (λ h. struct_checked s.view.now s.told.now s.number c.args.column (c.args.column + 1) (shape c.args.tree.now) c.args.cells.now c.in_ok-below.below c.args.found.now.items c.add_column.new.found.items c.check_fields.new.found.items c.args.stats.now.items
    c.add_column.new.stats.items c.check_fields.new.stats.items refl c.in_ok-below.ensures.rows c.in_ok-below.ensures.checked (fields_view c.in-Struct.fields.items) c.in-Struct.field-1.items (ap shape c.in-Struct.is ∙ shape-Struct c.in-Struct.fields c.in-Struct.field-1)
    (omega (arith, some_width (shape c.args.tree.now), c.requires.there)) h)

pub check_tree-returns-clause-fault : goal.check_tree-returns-clause-fault
check_tree-returns-clause-fault t c =
    let v = c.args.stripe.now.view.now in
    let f = c.check_fields.ensures.fault in
    let down = rw c.deref-in-Struct.ensures.value at f in
    if_err c.check_fields.result down
    (λ cause h memory. struct_refused (shape c.args.tree.now) (fields_view c.in-Struct.fields.items) c.in-Struct.field-1.items (columns_of v.footer v.bytes) c.args.column (c.args.column + 1) c.args.cells.now.count c.in_ok-below.below.count cause
    (ap shape c.in-Struct.is ∙ shape-Struct c.in-Struct.fields c.in-Struct.field-1) refl c.in_ok-below.ensures.found (h memory))

-- ---- a column that is refused itself

pub check_tree-returns-in_err-below-clause-fault : goal.check_tree-returns-in_err-below-clause-fault
check_tree-returns-in_err-below-clause-fault t c =
    let p = err_from_is_err_and c.from_residual.result c.from_residual.ensures.1 in
    rw (p.1, p.2) (λ memory.
    let v = c.args.stripe.now.view.now in
    refused_here (shape c.args.tree.now) (columns_of v.footer v.bytes) c.args.column c.args.cells.now.count c.in_err-below.field-0.0 (c.in_err-below.ensures.fault memory))
