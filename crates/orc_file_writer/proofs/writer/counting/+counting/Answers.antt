use Rattle.std.proofs.Common.{◌<◌, ◌+◌, ◌*◌, List, map, ap, ◌∙◌, subst, add-one, arith}
use Rattle.orc_values.specs.Views.{view, shape, fields as fields_view}
use Rattle.orc_values.specs.Shapes.{width}
use Rattle.orc_values.specs.Cells.{Cell}
use Rattle.orc_values.proofs.ByColumn.{width_within}
use Rattle.orc_values.proofs.Listed.{widths_from}
use Rattle.orc_values.proofs.Views.{shape-List, shape-Map, shape-Struct, paired-is}
use Rattle.orc_file_writer.specs.Counting.{CountsCells, CountsFields}
use Rattle.orc_file_writer.proofs.CountSteps.{adds_none, list_counted, map_counted, struct_counted, part_counted, parts_counted, pair_counted, pairs_counted, none_counted, field_counted, field_lacking, fields_counted}
use Rattle.orc_file_writer.proofs.writer.counting.+counting.Goals as goal
use Rattle.orc_file_writer.proofs.writer.counting.+counting.Goals.{count_fields-in-Some, count_fields-in-None}

pub count_elements-loop-part-init : goal.count_elements-loop-part-init
count_elements-loop-part-init t c = adds_none (shape c.args.element.now) c.args.column c.args.counts.now.items

pub count_elements-loop-part-preserved : goal.count_elements-loop-part-preserved
count_elements-loop-part-preserved t c =
    part_counted (shape c.args.element.now) c.args.column c.args.parts.now c.loop-part.part-index c.part-item.result c.args.counts.now.items c.loop-part.counts.items c.count_cell.new.counts.items
    c.loop-part-test.true c.part-item.is c.loop-part.invariant c.count_cell.ensures.cells

pub count_elements-returns-clause-cells : goal.count_elements-returns-clause-cells
count_elements-returns-clause-cells t c =
    parts_counted (shape c.args.element.now) c.args.column c.args.parts.now c.loop-part.part-index c.args.counts.now.items c.loop-part.counts.items c.loop-part-test.false c.loop-part.invariant

pub count_cell-returns-in-List-clause-cells : goal.count_cell-returns-in-List-clause-cells
count_cell-returns-in-List-clause-cells t c =
    let e = rw c.deref.ensures at c.count_elements.ensures.cells in
    list_counted (shape c.args.tree.now) (shape c.in-List.element.value) c.in-List.field-1.items c.args.column (view c.args.cell.now) c.args.counts.now.items c.count_one.new.counts.items c.count_elements.new.counts.items
    (ap shape c.in-List.is ∙ shape-List c.in-List.element c.in-List.field-1) c.count_one.ensures
    (subst (λ cs. CountsCells (shape c.in-List.element.value) (c.args.column + 1) cs c.count_one.new.counts.items c.count_elements.new.counts.items) c.parts_of.ensures e)

pub count_cell-returns-in-Struct-clause-cells : goal.count_cell-returns-in-Struct-clause-cells
count_cell-returns-in-Struct-clause-cells t c =
    let e = rw c.deref-in-Struct.ensures.value at c.count_fields.ensures.cells in
    struct_counted (shape c.args.tree.now) (fields_view c.in-Struct.fields.items) c.in-Struct.field-1.items c.args.column (view c.args.cell.now) c.args.counts.now.items c.count_one.new.counts.items c.count_fields.new.counts.items
    (ap shape c.in-Struct.is ∙ shape-Struct c.in-Struct.fields c.in-Struct.field-1) c.count_one.ensures
    (subst (λ cs. CountsFields (fields_view c.in-Struct.fields.items) (c.args.column + 1) cs c.count_one.new.counts.items c.count_fields.new.counts.items) c.parts_of-in-Struct.ensures e)

pub count_fields-loop-place-init : goal.count_fields-loop-place-init
count_fields-loop-place-init t c = none_counted c.args.fields.now c.args.parts.now c.args.column c.args.counts.now.items

pub count_fields-count_cell-next-requires : goal.count_fields-count_cell-next-requires
count_fields-count_cell-next-requires t c =
    let l = c.loop-place in
    let here = c.index-fields-place.result in
    let w = width_within c.args.fields.now l.place here c.loop-place-test.true c.index-fields-place.is in
    let e = widths_from c.args.fields.now l.place here c.loop-place-test.true c.index-fields-place.is in
    let falls : 2 * width (shape here.tree) < t = omega (arith, c.decreases, w) in
    (falls, omega (arith, e, l.invariant.left, l.invariant.same, c.requires))

pub count_fields-width_of-next-requires : goal.count_fields-width_of-next-requires
count_fields-width_of-next-requires t c =
    let w = width_within c.args.fields.now c.loop-place.place c.index-fields-place.result c.loop-place-test.true c.index-fields-place.is in
    omega (arith, w, c.requires, c.args.counts.now.small, c.args.counts.now.ok.0)

pub count_fields-overflow_add-next : goal.count_fields-overflow_add-next
count_fields-overflow_add-next t c =
    let l = c.loop-place in
    let e = widths_from c.args.fields.now l.place c.index-fields-place.result c.loop-place-test.true c.index-fields-place.is in
    omega (arith, e, l.invariant.left, c.width_of-next.ensures, c.requires, c.args.counts.now.ok.0)

pub count_fields-loop-place-preserved : goal.count_fields-loop-place-preserved
count_fields-loop-place-preserved t c =
    let l = c.loop-place in
    let here = c.index-fields-place.result in
    let old = c.args.counts.now.items in
    elim c.match-get.branch [
      | count_fields-in-Some w ↦
          let found = w.in-Some.ensures.lookup in
          let q = w.count_cell-next.ensures in
          rw (add-one, w.next-is, w.counts-is) (field_counted c.args.fields.now c.args.parts.now c.args.column l.next l.place old l.counts.items l.invariant here w.count_cell-next.result c.loop-place-test.true c.index-fields-place.is q.next
          w.in-Some.part.now w.count_cell-next.new.counts.items found.3.0 found.1 q.cells)
      | count_fields-in-None w ↦
          let none = w.in-None.ensures.lookup in
          rw (add-one, w.next-is, w.counts-is) (field_lacking c.args.fields.now c.args.parts.now c.args.column l.next l.place old l.counts.items l.invariant here (l.next + w.width_of-next.result) c.loop-place-test.true c.index-fields-place.is
          (omega (arith, w.width_of-next.ensures)) none.3)
    ]

pub count_fields-returns-clause-cells : goal.count_fields-returns-clause-cells
count_fields-returns-clause-cells t c =
    let l = c.loop-place in
    fields_counted c.args.fields.now c.args.parts.now c.args.column l.next l.place c.args.counts.now.items l.counts.items l.invariant c.loop-place-test.false

pub count_keys-loop-pair-init : goal.count_keys-loop-pair-init
count_keys-loop-pair-init t c = adds_none (shape c.args.key.now) c.args.column c.args.counts.now.items

pub count_keys-loop-pair-preserved : goal.count_keys-loop-pair-preserved
count_keys-loop-pair-preserved t c =
    pair_counted (λ p. p.0) (shape c.args.key.now) c.args.column c.args.pairs.now c.loop-pair.pair-index c.pair-item.result (view c.pair-item.result.key) c.args.counts.now.items c.loop-pair.counts.items c.count_cell.new.counts.items
    c.loop-pair-test.true c.pair-item.is (ap (λ (p : Cell × Cell). p.0) (paired-is c.pair-item.result)) c.loop-pair.invariant c.count_cell.ensures.cells

pub count_keys-returns-clause-cells : goal.count_keys-returns-clause-cells
count_keys-returns-clause-cells t c =
    pairs_counted (λ p. p.0) (shape c.args.key.now) c.args.column c.args.pairs.now c.loop-pair.pair-index c.args.counts.now.items c.loop-pair.counts.items c.loop-pair-test.false c.loop-pair.invariant

pub count_values-loop-pair-init : goal.count_values-loop-pair-init
count_values-loop-pair-init t c = adds_none (shape c.args.value.now) c.args.column c.args.counts.now.items

pub count_values-loop-pair-preserved : goal.count_values-loop-pair-preserved
count_values-loop-pair-preserved t c =
    pair_counted (λ p. p.1) (shape c.args.value.now) c.args.column c.args.pairs.now c.loop-pair.pair-index c.pair-item.result (view c.pair-item.result.value) c.args.counts.now.items c.loop-pair.counts.items c.count_cell.new.counts.items
    c.loop-pair-test.true c.pair-item.is (ap (λ (p : Cell × Cell). p.1) (paired-is c.pair-item.result)) c.loop-pair.invariant c.count_cell.ensures.cells

pub count_values-returns-clause-cells : goal.count_values-returns-clause-cells
count_values-returns-clause-cells t c =
    pairs_counted (λ p. p.1) (shape c.args.value.now) c.args.column c.args.pairs.now c.loop-pair.pair-index c.args.counts.now.items c.loop-pair.counts.items c.loop-pair-test.false c.loop-pair.invariant

pub count_cell-returns-in-Map-clause-cells : goal.count_cell-returns-in-Map-clause-cells
count_cell-returns-in-Map-clause-cells t c =
    let k = c.in-Map.key in
    let v = c.in-Map.value in
    let one = c.count_one.new.counts.items in
    let mid = c.count_keys-values.new.counts.items in
    let new = c.count_values.new.counts.items in
    let keys = subst (λ (ps : List (Cell × Cell)). CountsCells (shape k.value) (c.args.column + 1) (map (λ (p : Cell × Cell). p.0) ps) one mid) c.pairs_of.ensures (rw c.deref-in-Map.ensures at c.count_keys-values.ensures.cells) in
    let values = subst (λ (ps : List (Cell × Cell)). CountsCells (shape v.value) (c.args.column + 1 + width (shape k.value)) (map (λ (p : Cell × Cell). p.1) ps) mid new) c.pairs_of-in-Map.ensures (rw (c.count_keys-values.ensures.next, c.deref-in-Map.ensures, c.deref-in-Map-2.ensures) at c.count_values.ensures.cells) in
    map_counted (shape c.args.tree.now) (shape k.value) (shape v.value) c.in-Map.field-2.items c.args.column (view c.args.cell.now) c.args.counts.now.items one mid new
    (ap shape c.in-Map.is ∙ shape-Map k v c.in-Map.field-2) c.count_one.ensures keys values
