use Rattle.std.proofs.Common.{◌<◌, ◌+◌, ◌*◌, List, map, ap, ◌∙◌, subst, add-one, arith}
use Rattle.std.proofs.lemmas.List.{length-map}
use Rattle.std.proofs.lemmas.Result.{on_ok_weaker}
use Rattle.orc_values.specs.Views.{view, views, paired, shape, fields as fields_view}
use Rattle.orc_values.specs.Shapes.{width}
use Rattle.orc_values.specs.Cells.{Cell}
use Rattle.orc_values.proofs.ByColumn.{width_within}
use Rattle.orc_values.proofs.Listed.{widths_from}
use Rattle.orc_values.proofs.Views.{shape-List, shape-Map, shape-Struct, paired-is}
use Rattle.orc_row_batch.specs.Batch.{kept_columns}
use Rattle.orc_row_batch.specs.Kept.{kept}
use Rattle.orc_row_batch.specs.Keeping.{AddsCells, AddsFields}
use Rattle.orc_row_batch.proofs.KeepSteps.{adds_none, list_kept, map_kept, struct_kept, part_kept, parts_kept, pair_kept, pairs_kept, none_kept, field_kept, field_lacking, fields_kept}
use Rattle.orc_row_batch.proofs.keeping.+keeping.Goals as goal
use Rattle.orc_row_batch.proofs.keeping.+keeping.Goals.{keep_fields-in-Some+in_ok-next-in-Some, keep_fields-in-None}

pub keep_elements-loop-part-init : goal.keep_elements-loop-part-init
keep_elements-loop-part-init t c = adds_none (shape c.args.element.now) c.args.column (kept_columns c.args.columns.now.items)

pub keep_elements-loop-part-preserved : goal.keep_elements-loop-part-preserved
keep_elements-loop-part-preserved t c =
    part_kept (shape c.args.element.now) c.args.column c.args.parts.now c.loop-part.part-index c.part-item.result (kept_columns c.args.columns.now.items) (kept_columns c.loop-part.columns.items) (kept_columns c.keep_cell.new.columns.items)
    c.loop-part-test.true c.part-item.is c.loop-part.invariant c.in_ok-keep_cell.ensures.kept

pub keep_elements-returns-clause-kept : goal.keep_elements-returns-clause-kept
keep_elements-returns-clause-kept t c =
    parts_kept (shape c.args.element.now) c.args.column c.args.parts.now c.loop-part.part-index (kept_columns c.args.columns.now.items) (kept_columns c.loop-part.columns.items) c.loop-part-test.false c.loop-part.invariant

pub keep_cell-returns-in-List-clause-kept : goal.keep_cell-returns-in-List-clause-kept
keep_cell-returns-in-List-clause-kept t c =
    let s = shape c.in-List.element.value in
    let old = kept_columns c.args.columns.now.items in
    let mid = kept_columns c.keep_one.new.columns.items in
    let new = kept_columns c.keep_elements.new.columns.items in
    on_ok_weaker c.keep_elements.result
    (λ (e : AddsCells s (c.args.column + 1) (views c.parts_of.result.now) mid new).
    list_kept (shape c.args.tree.now) s c.in-List.field-1.items c.args.column (view c.args.cell.now) old mid new
    (ap shape c.in-List.is ∙ shape-List c.in-List.element c.in-List.field-1) c.in_ok-keep_one.ensures.kept
    (subst (λ (cs : List Cell). AddsCells s (c.args.column + 1) cs mid new) c.parts_of.ensures e))
    (rw c.deref.ensures at c.keep_elements.ensures.kept)

pub keep_cell-returns-in-Struct-clause-kept : goal.keep_cell-returns-in-Struct-clause-kept
keep_cell-returns-in-Struct-clause-kept t c =
    let fs = fields_view c.in-Struct.fields.items in
    let old = kept_columns c.args.columns.now.items in
    let mid = kept_columns c.keep_one.new.columns.items in
    let new = kept_columns c.keep_fields.new.columns.items in
    on_ok_weaker c.keep_fields.result
    (λ (e : AddsFields fs (c.args.column + 1) (views c.parts_of-in-Struct.result.now) mid new).
    struct_kept (shape c.args.tree.now) fs c.in-Struct.field-1.items c.args.column (view c.args.cell.now) old mid new
    (ap shape c.in-Struct.is ∙ shape-Struct c.in-Struct.fields c.in-Struct.field-1) c.in_ok-keep_one.ensures.kept
    (subst (λ (cs : List Cell). AddsFields fs (c.args.column + 1) cs mid new) c.parts_of-in-Struct.ensures e))
    (rw c.deref-in-Struct.ensures.value at c.keep_fields.ensures.kept)

pub keep_cell-returns-in_ok-values-in-Map-clause-kept : goal.keep_cell-returns-in_ok-values-in-Map-clause-kept
keep_cell-returns-in_ok-values-in-Map-clause-kept t c =
    let k = c.in-Map.key in
    let v = c.in-Map.value in
    let found = c.in_ok-values-in-Map.ensures in
    let old = kept_columns c.args.columns.now.items in
    let one = kept_columns c.keep_one.new.columns.items in
    let mid = kept_columns c.keep_keys.new.columns.items in
    let new = kept_columns c.keep_values.new.columns.items in
    let keys = subst (λ (ps : List (Cell × Cell)). AddsCells (shape k.value) (c.args.column + 1) (map (λ (p : Cell × Cell). p.0) ps) one mid) c.pairs_of.ensures (rw c.deref-in-Map.ensures at found.kept) in
    on_ok_weaker c.keep_values.result
    (λ (e : AddsCells (shape v.value) (c.args.column + 1 + width (shape k.value)) (map (λ (p : Cell × Cell). p.1) (map paired c.pairs_of-in-Map.result.now)) mid new).
    map_kept (shape c.args.tree.now) (shape k.value) (shape v.value) c.in-Map.field-2.items c.args.column (view c.args.cell.now) old one mid new
    (ap shape c.in-Map.is ∙ shape-Map k v c.in-Map.field-2) c.in_ok-keep_one.ensures.kept keys
    (subst (λ (ps : List (Cell × Cell)). AddsCells (shape v.value) (c.args.column + 1 + width (shape k.value)) (map (λ (p : Cell × Cell). p.1) ps) mid new) c.pairs_of-in-Map.ensures e))
    (rw (found.next, c.deref-in-Map.ensures, c.deref-in-Map-2.ensures) at c.keep_values.ensures.kept)

pub keep_fields-loop-place-init : goal.keep_fields-loop-place-init
keep_fields-loop-place-init t c = none_kept c.args.fields.now c.args.parts.now c.args.column (kept_columns c.args.columns.now.items)

pub keep_fields-keep_cell-requires : goal.keep_fields-keep_cell-requires
keep_fields-keep_cell-requires t c =
    let l = c.loop-place in
    let here = c.index-fields-place.result in
    let w = width_within c.args.fields.now l.place here c.loop-place-test.true c.index-fields-place.is in
    let e = widths_from c.args.fields.now l.place here c.loop-place-test.true c.index-fields-place.is in
    let falls : 2 * width (shape here.tree) < t = omega (arith, c.decreases, w) in
    (falls, omega (arith, e, l.invariant.left, l.invariant.same, length-map l.columns.items kept, length-map c.args.columns.now.items kept, c.requires))

pub keep_fields-width_of-next-requires : goal.keep_fields-width_of-next-requires
keep_fields-width_of-next-requires t c =
    let w = width_within c.args.fields.now c.loop-place.place c.index-fields-place.result c.loop-place-test.true c.index-fields-place.is in
    omega (arith, w, c.requires, c.args.columns.now.small, c.args.columns.now.ok.0)

pub keep_fields-overflow_add-next : goal.keep_fields-overflow_add-next
keep_fields-overflow_add-next t c =
    let l = c.loop-place in
    let e = widths_from c.args.fields.now l.place c.index-fields-place.result c.loop-place-test.true c.index-fields-place.is in
    omega (arith, e, l.invariant.left, c.width_of-next.ensures, c.requires, c.args.columns.now.ok.0)

pub keep_fields-loop-place-preserved : goal.keep_fields-loop-place-preserved
keep_fields-loop-place-preserved t c =
    let l = c.loop-place in
    let here = c.index-fields-place.result in
    let old = kept_columns c.args.columns.now.items in
    let mid = kept_columns l.columns.items in
    elim c.match-get.branch [
      | keep_fields-in-Some+in_ok-next-in-Some w ↦
          let found = w.in-Some.ensures.lookup in
          let q = w.in_ok-next-in-Some.ensures in
          rw (add-one, w.next-is, w.columns-is) (field_kept c.args.fields.now c.args.parts.now c.args.column l.next l.place old mid l.invariant here w.in_ok-next-in-Some.next c.loop-place-test.true c.index-fields-place.is q.next
          w.in-Some.part.now (kept_columns w.keep_cell.new.columns.items) found.3.0 found.1 q.kept)
      | keep_fields-in-None w ↦
          let none = w.in-None.ensures.lookup in
          rw (add-one, w.next-is, w.columns-is) (field_lacking c.args.fields.now c.args.parts.now c.args.column l.next l.place old mid l.invariant here (l.next + w.width_of-next.result) c.loop-place-test.true c.index-fields-place.is
          (omega (arith, w.width_of-next.ensures)) none.3)
    ]

pub keep_fields-returns-clause-kept : goal.keep_fields-returns-clause-kept
keep_fields-returns-clause-kept t c =
    let l = c.loop-place in
    fields_kept c.args.fields.now c.args.parts.now c.args.column l.next l.place (kept_columns c.args.columns.now.items) (kept_columns l.columns.items) l.invariant c.loop-place-test.false

pub keep_keys-loop-pair-init : goal.keep_keys-loop-pair-init
keep_keys-loop-pair-init t c = adds_none (shape c.args.key.now) c.args.column (kept_columns c.args.columns.now.items)

pub keep_keys-loop-pair-preserved : goal.keep_keys-loop-pair-preserved
keep_keys-loop-pair-preserved t c =
    pair_kept (λ p. p.0) (shape c.args.key.now) c.args.column c.args.pairs.now c.loop-pair.pair-index c.pair-item.result (view c.pair-item.result.key) (kept_columns c.args.columns.now.items) (kept_columns c.loop-pair.columns.items) (kept_columns c.keep_cell.new.columns.items)
    c.loop-pair-test.true c.pair-item.is (ap (λ (p : Cell × Cell). p.0) (paired-is c.pair-item.result)) c.loop-pair.invariant c.in_ok-keep_cell.ensures.kept

pub keep_keys-returns-clause-kept : goal.keep_keys-returns-clause-kept
keep_keys-returns-clause-kept t c =
    pairs_kept (λ p. p.0) (shape c.args.key.now) c.args.column c.args.pairs.now c.loop-pair.pair-index (kept_columns c.args.columns.now.items) (kept_columns c.loop-pair.columns.items) c.loop-pair-test.false c.loop-pair.invariant

pub keep_values-loop-pair-init : goal.keep_values-loop-pair-init
keep_values-loop-pair-init t c = adds_none (shape c.args.value.now) c.args.column (kept_columns c.args.columns.now.items)

pub keep_values-loop-pair-preserved : goal.keep_values-loop-pair-preserved
keep_values-loop-pair-preserved t c =
    pair_kept (λ p. p.1) (shape c.args.value.now) c.args.column c.args.pairs.now c.loop-pair.pair-index c.pair-item.result (view c.pair-item.result.value) (kept_columns c.args.columns.now.items) (kept_columns c.loop-pair.columns.items) (kept_columns c.keep_cell.new.columns.items)
    c.loop-pair-test.true c.pair-item.is (ap (λ (p : Cell × Cell). p.1) (paired-is c.pair-item.result)) c.loop-pair.invariant c.in_ok-keep_cell.ensures.kept

pub keep_values-returns-clause-kept : goal.keep_values-returns-clause-kept
keep_values-returns-clause-kept t c =
    pairs_kept (λ p. p.1) (shape c.args.value.now) c.args.column c.args.pairs.now c.loop-pair.pair-index (kept_columns c.args.columns.now.items) (kept_columns c.loop-pair.columns.items) c.loop-pair-test.false c.loop-pair.invariant
