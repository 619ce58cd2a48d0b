use Rattle.std.proofs.Common.{◌≡◌, ◌∙◌, ◌*◌, ◌+◌, ◌<◌, ℕ, sym, ap, arith}
use Rattle.std.proofs.lemmas.Result.{IfOk-weaker}
use Rattle.orc_values.specs.Shapes.{list_of, map_of, struct_of, width, widths}
use Rattle.orc_values.specs.Views.{shape, fields as fields_view}
use Rattle.orc_values.proofs.ByColumn.{width_within}
use Rattle.orc_values.proofs.Views.{shape-Scalar, shape-List, shape-Map, shape-Struct}
use Rattle.orc_column_reader.specs.Stripe.{columns_of}
use Rattle.orc_directory.specs.declared.fault.StripeFault.TheVariants as fault
use Rattle.orc_values.proofs.Widths.{some_width}
use Rattle.orc_stripe_reader.specs.ColumnGroups.{AreCountedOver}
use Rattle.orc_stripe_reader.proofs.ColumnsDown.{in_list, in_keys, in_seconds, in_struct, none_passed, field_left, in_field, one_passed, all_passed}
use Rattle.orc_stripe_reader.proofs.IndexFaults.{err_by}
use Rattle.orc_stripe_reader.proofs.groups.+down.Goals as goal

pub count_column-read_level-requires-clause-there : goal.count_column-read_level-requires-clause-there
count_column-read_level-requires-clause-there t c = omega (arith, some_width (shape c.args.tree.now), c.requires.there)

pub count_column-returns-then-column-first-clause-found : goal.count_column-returns-then-column-first-clause-found
count_column-returns-then-column-first-clause-found t c = rw c.if-column-first.true c.in-Ok.ensures.counted

pub count_column-unreachable-requires : goal.count_column-unreachable-requires
count_column-unreachable-requires t c =
    let w : width (shape c.args.tree.now) ≡ 1 = ap width (ap shape c.in-Scalar.is ∙ shape-Scalar c.in-Scalar.field-0 c.in-Scalar.field-1) in
    absurd (c.if-column-first.false (omega (arith, w, c.requires.from, c.requires.below)))

-- ---- lists

pub count_column-count_column-requires : goal.count_column-count_column-requires
count_column-count_column-requires t c =
    let w : width (shape c.args.tree.now) ≡ 1 + width (shape c.deref.result.now) = ap width (ap shape c.in-List.is ∙ shape-List c.in-List.element c.in-List.field-1 ∙ ap (λ z. list_of (shape z) c.in-List.field-1.items) (sym c.deref.ensures)) in
    let falls : 2 * width (shape c.deref.result.now) < t = omega (arith, c.decreases, w) in
    (falls, (omega (arith, w, c.requires.there), (omega (arith, c.requires.from, c.if-column-first.false), (omega (arith, w, c.requires.below), (c.requires.located, c.in-Ok.ensures.grouped)))))

pub count_column-returns-in-List-clause-found : goal.count_column-returns-in-List-clause-found
count_column-returns-in-List-clause-found t c =
    let x = columns_of c.args.footer.now c.args.located.now.bytes.now in
    let s = shape c.args.tree.now in
    let is : s ≡ list_of (shape c.deref.result.now) c.in-List.field-1.items = ap shape c.in-List.is ∙ shape-List c.in-List.element c.in-List.field-1 ∙ ap (λ z. list_of (shape z) c.in-List.field-1.items) (sym c.deref.ensures) in
    IfOk-weaker c.count_column.result _ _
    (λ counts h. in_list (AreCountedOver c.args.column counts.items) x c.args.first s c.args.cells.now c.in-Ok.level.below c.in-Ok.ensures.below (shape c.deref.result.now) c.in-List.field-1.items is h) c.count_column.ensures.found

pub count_column-returns-in-List-clause-refused : goal.count_column-returns-in-List-clause-refused
count_column-returns-in-List-clause-refused t c =
    let x = columns_of c.args.footer.now c.args.located.now.bytes.now in
    let s = shape c.args.tree.now in
    let is : s ≡ list_of (shape c.deref.result.now) c.in-List.field-1.items = ap shape c.in-List.is ∙ shape-List c.in-List.element c.in-List.field-1 ∙ ap (λ z. list_of (shape z) c.in-List.field-1.items) (sym c.deref.ensures) in
    err_by c.count_column.result
    (λ f h. in_list (λ u rows firsts. f ≡ fault.OutOfMemory) x c.args.first s c.args.cells.now c.in-Ok.level.below c.in-Ok.ensures.below (shape c.deref.result.now) c.in-List.field-1.items is h) c.count_column.ensures.refused

-- ---- maps

pub count_column-count_column-requires-then-column-second : goal.count_column-count_column-requires-then-column-second
count_column-count_column-requires-then-column-second t c =
    let w : width (shape c.args.tree.now) ≡ 1 + (width (shape c.deref-then-column-second.result.now) + width (shape c.in-Map.value.value)) =
    ap width (ap shape c.in-Map.is ∙ shape-Map c.in-Map.key c.in-Map.value c.in-Map.field-2 ∙ ap (λ z. map_of (shape z) (shape c.in-Map.value.value) c.in-Map.field-2.items) (sym c.deref-then-column-second.ensures)) in
    let k : c.width_of.result ≡ width (shape c.deref-then-column-second.result.now) = c.width_of.ensures ∙ ap (λ z. width (shape z)) (c.deref-in-Map.ensures ∙ sym c.deref-then-column-second.ensures) in
    let falls : 2 * width (shape c.deref-then-column-second.result.now) < t = omega (arith, c.decreases, w) in
    (falls, (omega (arith, w, c.requires.there), (omega (arith, c.requires.from, c.if-column-first.false), (omega (arith, k, c.if-column-second.true), (c.requires.located, c.in-Ok.ensures.grouped)))))

pub count_column-returns-then-column-second-clause-found : goal.count_column-returns-then-column-second-clause-found
count_column-returns-then-column-second-clause-found t c =
    let x = columns_of c.args.footer.now c.args.located.now.bytes.now in
    let s = shape c.args.tree.now in
    let is : s ≡ map_of (shape c.deref-then-column-second.result.now) (shape c.in-Map.value.value) c.in-Map.field-2.items =
    ap shape c.in-Map.is ∙ shape-Map c.in-Map.key c.in-Map.value c.in-Map.field-2 ∙ ap (λ z. map_of (shape z) (shape c.in-Map.value.value) c.in-Map.field-2.items) (sym c.deref-then-column-second.ensures) in
    IfOk-weaker c.count_column-then-column-second.result _ _
    (λ counts h. in_keys (AreCountedOver c.args.column counts.items) x c.args.first s c.args.cells.now c.in-Ok.level.below c.in-Ok.ensures.below (shape c.deref-then-column-second.result.now) (shape c.in-Map.value.value) c.in-Map.field-2.items is h)
    c.count_column-then-column-second.ensures.found

pub count_column-returns-then-column-second-clause-refused : goal.count_column-returns-then-column-second-clause-refused
count_column-returns-then-column-second-clause-refused t c =
    let x = columns_of c.args.footer.now c.args.located.now.bytes.now in
    let s = shape c.args.tree.now in
    let is : s ≡ map_of (shape c.deref-then-column-second.result.now) (shape c.in-Map.value.value) c.in-Map.field-2.items =
    ap shape c.in-Map.is ∙ shape-Map c.in-Map.key c.in-Map.value c.in-Map.field-2 ∙ ap (λ z. map_of (shape z) (shape c.in-Map.value.value) c.in-Map.field-2.items) (sym c.deref-then-column-second.ensures) in
    err_by c.count_column-then-column-second.result
    (λ f h. in_keys (λ u rows firsts. f ≡ fault.OutOfMemory) x c.args.first s c.args.cells.now c.in-Ok.level.below c.in-Ok.ensures.below (shape c.deref-then-column-second.result.now) (shape c.in-Map.value.value) c.in-Map.field-2.items is h)
    c.count_column-then-column-second.ensures.refused

pub count_column-count_column-requires-else-column-second : goal.count_column-count_column-requires-else-column-second
count_column-count_column-requires-else-column-second t c =
    let w : width (shape c.args.tree.now) ≡ 1 + (width (shape c.deref-in-Map.result.now) + width (shape c.deref-else-column-second.result.now)) =
    ap width (ap shape c.in-Map.is ∙ shape-Map c.in-Map.key c.in-Map.value c.in-Map.field-2 ∙ ap (λ z. map_of (shape z) (shape c.in-Map.value.value) c.in-Map.field-2.items) (sym c.deref-in-Map.ensures)
    ∙ ap (λ z. map_of (shape c.deref-in-Map.result.now) (shape z) c.in-Map.field-2.items) (sym c.deref-else-column-second.ensures)) in
    let falls : 2 * width (shape c.deref-else-column-second.result.now) < t = omega (arith, c.decreases, w) in
    (falls, (omega (arith, w, c.width_of.ensures, c.requires.there), (omega (arith, c.if-column-second.false), (omega (arith, w, c.width_of.ensures, c.requires.below), (c.requires.located, c.in-Ok.ensures.grouped)))))

pub count_column-returns-in-Map-clause-found : goal.count_column-returns-in-Map-clause-found
count_column-returns-in-Map-clause-found t c =
    let x = columns_of c.args.footer.now c.args.located.now.bytes.now in
    let s = shape c.args.tree.now in
    let is : s ≡ map_of (shape c.deref-in-Map.result.now) (shape c.deref-else-column-second.result.now) c.in-Map.field-2.items =
    ap shape c.in-Map.is ∙ shape-Map c.in-Map.key c.in-Map.value c.in-Map.field-2 ∙ ap (λ z. map_of (shape z) (shape c.in-Map.value.value) c.in-Map.field-2.items) (sym c.deref-in-Map.ensures)
    ∙ ap (λ z. map_of (shape c.deref-in-Map.result.now) (shape z) c.in-Map.field-2.items) (sym c.deref-else-column-second.ensures) in
    IfOk-weaker c.count_column-else-column-second.result _ _
    (λ counts h. in_seconds (AreCountedOver c.args.column counts.items) x c.args.first s c.args.cells.now c.in-Ok.level.below c.in-Ok.ensures.below (shape c.deref-in-Map.result.now) (shape c.deref-else-column-second.result.now) c.in-Map.field-2.items
    (c.args.first + 1 + c.width_of.result) is (ap (λ (n : ℕ). c.args.first + 1 + n) c.width_of.ensures) h)
    c.count_column-else-column-second.ensures.found

pub count_column-returns-in-Map-clause-refused : goal.count_column-returns-in-Map-clause-refused
count_column-returns-in-Map-clause-refused t c =
    let x = columns_of c.args.footer.now c.args.located.now.bytes.now in
    let s = shape c.args.tree.now in
    let is : s ≡ map_of (shape c.deref-in-Map.result.now) (shape c.deref-else-column-second.result.now) c.in-Map.field-2.items =
    ap shape c.in-Map.is ∙ shape-Map c.in-Map.key c.in-Map.value c.in-Map.field-2 ∙ ap (λ z. map_of (shape z) (shape c.in-Map.value.value) c.in-Map.field-2.items) (sym c.deref-in-Map.ensures)
    ∙ ap (λ z. map_of (shape c.deref-in-Map.result.now) (shape z) c.in-Map.field-2.items) (sym c.deref-else-column-second.ensures) in
    err_by c.count_column-else-column-second.result
    (λ f h. in_seconds (λ u rows firsts. f ≡ fault.OutOfMemory) x c.args.first s c.args.cells.now c.in-Ok.level.below c.in-Ok.ensures.below (shape c.deref-in-Map.result.now) (shape c.deref-else-column-second.result.now) c.in-Map.field-2.items
    (c.args.first + 1 + c.width_of.result) is (ap (λ (n : ℕ). c.args.first + 1 + n) c.width_of.ensures) h)
    c.count_column-else-column-second.ensures.refused

-- ---- structs

pub count_column-count_within-requires : goal.count_column-count_within-requires
count_column-count_within-requires t c =
    let w : width (shape c.args.tree.now) ≡ 1 + widths (fields_view c.deref-in-Struct.result.now) =
    ap width (ap shape c.in-Struct.is ∙ shape-Struct c.in-Struct.fields c.in-Struct.field-1 ∙ ap (λ z. struct_of (fields_view z) c.in-Struct.field-1.items) (sym c.deref-in-Struct.ensures.value)) in
    let falls : 2 * widths (fields_view c.deref-in-Struct.result.now) + 1 < t = omega (arith, c.decreases, w) in
    (falls, (omega (arith, w, c.requires.there), (omega (arith, c.requires.from, c.if-column-first.false), (omega (arith, w, c.requires.below), (c.requires.located, c.in-Ok.ensures.grouped)))))

pub count_column-returns-clause-found : goal.count_column-returns-clause-found
count_column-returns-clause-found t c =
    let x = columns_of c.args.footer.now c.args.located.now.bytes.now in
    let s = shape c.args.tree.now in
    let is : s ≡ struct_of (fields_view c.deref-in-Struct.result.now) c.in-Struct.field-1.items =
    ap shape c.in-Struct.is ∙ shape-Struct c.in-Struct.fields c.in-Struct.field-1 ∙ ap (λ z. struct_of (fields_view z) c.in-Struct.field-1.items) (sym c.deref-in-Struct.ensures.value) in
    IfOk-weaker c.count_within.result _ _
    (λ counts h. in_struct (AreCountedOver c.args.column counts.items) x c.args.first s c.args.cells.now c.in-Ok.level.below c.in-Ok.ensures.below (fields_view c.deref-in-Struct.result.now) c.in-Struct.field-1.items is h) c.count_within.ensures.found

pub count_column-returns-clause-refused : goal.count_column-returns-clause-refused
count_column-returns-clause-refused t c =
    let x = columns_of c.args.footer.now c.args.located.now.bytes.now in
    let s = shape c.args.tree.now in
    let is : s ≡ struct_of (fields_view c.deref-in-Struct.result.now) c.in-Struct.field-1.items =
    ap shape c.in-Struct.is ∙ shape-Struct c.in-Struct.fields c.in-Struct.field-1 ∙ ap (λ z. struct_of (fields_view z) c.in-Struct.field-1.items) (sym c.deref-in-Struct.ensures.value) in
    err_by c.count_within.result
    (λ f h. in_struct (λ u rows firsts. f ≡ fault.OutOfMemory) x c.args.first s c.args.cells.now c.in-Ok.level.below c.in-Ok.ensures.below (fields_view c.deref-in-Struct.result.now) c.in-Struct.field-1.items is h) c.count_within.ensures.refused

-- ---- fields

pub count_within-loop-field-init : goal.count_within-loop-field-init
count_within-loop-field-init t c =
    record {
      begun = c.requires.from;
      passed = none_passed (columns_of c.args.footer.now c.args.located.now.bytes.now) c.args.fields.now c.args.first c.args.cells.now;
    }

pub count_within-count_column-requires : goal.count_within-count_column-requires
count_within-count_column-requires t c =
    let x = columns_of c.args.footer.now c.args.located.now.bytes.now in
    let w = width_within c.args.fields.now c.loop-field.field-index c.field-item.result c.loop-field-test.true c.field-item.is in
    let e = field_left x c.args.fields.now c.args.first c.loop-field.at c.args.cells.now c.loop-field.field-index c.field-item.result c.loop-field.invariant.passed c.loop-field-test.true c.field-item.is in
    let falls : 2 * width (shape c.field-item.result.tree) < t = omega (arith, c.decreases, w) in
    (falls, (omega (arith, e, c.requires.there), (c.loop-field.invariant.begun, (omega (arith, c.if-column-next.true, c.width_of.ensures), (c.requires.located, c.requires.grouped)))))

pub count_within-returns-then-column-next-clause-found : goal.count_within-returns-then-column-next-clause-found
count_within-returns-then-column-next-clause-found t c =
    let x = columns_of c.args.footer.now c.args.located.now.bytes.now in
    IfOk-weaker c.count_column.result _ _
    (λ counts h. in_field x c.args.fields.now c.args.first c.loop-field.at c.args.cells.now c.loop-field.field-index c.field-item.result c.loop-field.invariant.passed c.loop-field-test.true c.field-item.is (AreCountedOver c.args.column counts.items) h)
    c.count_column.ensures.found

pub count_within-returns-then-column-next-clause-refused : goal.count_within-returns-then-column-next-clause-refused
count_within-returns-then-column-next-clause-refused t c =
    let x = columns_of c.args.footer.now c.args.located.now.bytes.now in
    err_by c.count_column.result
    (λ f h. in_field x c.args.fields.now c.args.first c.loop-field.at c.args.cells.now c.loop-field.field-index c.field-item.result c.loop-field.invariant.passed c.loop-field-test.true c.field-item.is (λ u rows firsts. f ≡ fault.OutOfMemory) h)
    c.count_column.ensures.refused

pub count_within-loop-field-preserved : goal.count_within-loop-field-preserved
count_within-loop-field-preserved t c =
    let x = columns_of c.args.footer.now c.args.located.now.bytes.now in
    record {
      begun = c.if-column-next.false;
      passed = one_passed x c.args.fields.now c.args.first c.loop-field.at c.args.cells.now c.loop-field.field-index c.field-item.result c.loop-field.invariant.passed c.loop-field-test.true c.field-item.is (c.loop-field.at + c.width_of.result)
          (ap (λ (n : ℕ). c.loop-field.at + n) c.width_of.ensures);
    }

pub count_within-unreachable-requires : goal.count_within-unreachable-requires
count_within-unreachable-requires t c =
    let x = columns_of c.args.footer.now c.args.located.now.bytes.now in
    let e = all_passed x c.args.fields.now c.args.first c.loop-field.at c.args.cells.now c.loop-field.field-index (omega (arith, c.loop-field-test.false)) c.loop-field.invariant.passed in
    absurd (omega (arith, e, c.loop-field.invariant.begun, c.requires.below))
