use Rattle.std.proofs.Common.{◌*◌, ◌≡◌, ◌+◌, ◌<◌, length, map, refl, ap, ◌∙◌, arith, add-one}
use Rattle.serde_json.specs.Data.{Data}
use Rattle.serde_json.specs.View.{view as json_view, members_view}
use Rattle.orc_values.specs.Cells.{Cell}
use Rattle.orc_values.specs.Shapes.{width, widths}
use Rattle.orc_values.specs.Views.{view, views, paired, shape, fields as fields_view}
use Rattle.orc_json_rows.specs.JsonPrinting as spec
use Rattle.orc_values.proofs.Views.{shape-List, shape-Struct}
use Rattle.orc_values.proofs.ByColumn.{width_within}
use Rattle.orc_json_rows.proofs.JsonPrints.{pair_fits, map_prints, rows_more, pairs_more, members_more, list_prints, struct_prints, list_fits, struct_fits, element_fits, member_fits, as_many}
use Rattle.orc_json_rows.proofs.json_printing.+printing.Goals as goal

pub array_of-json_of-requires : goal.array_of-json_of-requires
array_of-json_of-requires t c =
    (omega (arith, c.decreases), element_fits c.deref-row-items.result.now (shape c.args.tree.now) c.loop-row.row-index c.row-item.result c.loop-row-test.true c.row-item.is (rw c.deref-row-items.ensures.value c.requires))

pub json_of-array_of-requires : goal.json_of-array_of-requires
json_of-array_of-requires t c =
    let w : width (shape c.args.tree.now) ≡ 1 + width (shape c.deref.result.now) = rw (c.in-List.is, shape-List c.in-List.element c.in-List.field-1, c.deref.ensures) refl in
    let g : 2 * width (shape c.deref.result.now) + 1 < t = omega (arith, c.decreases, w) in
    (g, rw c.deref.ensures (list_fits c.args.tree.now c.in-List.element c.in-List.field-1 c.args.row.now c.in-Some.value c.in-List-value.rows c.in-List.is c.in-Some.is c.in-List-value.is c.requires))

pub json_of-object_of-requires : goal.json_of-object_of-requires
json_of-object_of-requires t c =
    let w : width (shape c.args.tree.now) ≡ 1 + widths (fields_view c.in-Struct.fields.items) = rw (c.in-Struct.is, shape-Struct c.in-Struct.fields c.in-Struct.field-1) refl in
    let g : 2 * widths (fields_view c.in-Struct.fields.items) + 1 < t = omega (arith, c.decreases, w) in
    (g, struct_fits c.args.tree.now c.in-Struct.fields c.in-Struct.field-1 c.args.row.now c.in-Some.value c.in-Struct-value.rows c.in-Struct.is c.in-Some.is c.in-Struct-value.is c.requires)

pub json_of-returns-in_ok-array_of-in-List-value : goal.json_of-returns-in_ok-array_of-in-List-value
json_of-returns-in_ok-array_of-in-List-value t c =
    list_prints c.args.tree.now c.in-List.element c.in-List.field-1 c.args.row.now c.in-Some.value c.in-List-value.rows c.in_ok-array_of-in-List-value.field-0 c.in-List.is c.in-Some.is c.in-List-value.is
    (c.in_ok-array_of-in-List-value.ensures ∙ ap (λ x. map (spec.json_of (shape x)) (views c.in-List-value.rows.items)) c.deref.ensures)

pub json_of-returns-in_ok-object_of-in-Struct-value : goal.json_of-returns-in_ok-object_of-in-Struct-value
json_of-returns-in_ok-object_of-in-Struct-value t c =
    struct_prints c.args.tree.now c.in-Struct.fields c.in-Struct.field-1 c.args.row.now c.in-Some.value c.in-Struct-value.rows c.in_ok-object_of-in-Struct-value.field-0 c.in-Struct.is c.in-Some.is c.in-Struct-value.is c.in_ok-object_of-in-Struct-value.ensures

pub object_of-index-requires : goal.object_of-index-requires
object_of-index-requires t c =
    let n = as_many c.args.rows.now.items c.args.fields.now.items c.requires in
    omega (arith, n, c.loop-i-test.true, ap length c.deref-field-items.ensures.value, c.args.rows.now.ok.0)

pub object_of-json_of-requires : goal.object_of-json_of-requires
object_of-json_of-requires t c =
    let w = width_within c.deref-field-items.result.now c.loop-i.i c.field-item.result c.loop-i-test.true c.field-item.is in
    let e = ap (λ fs. widths (fields_view fs)) c.deref-field-items.ensures.value in
    let g : 2 * width (shape c.field-item.result.tree) < t = omega (arith, c.decreases, w, e) in
    (g, member_fits c.args.rows.now.items c.deref-field-items.result.now c.loop-i.i c.index.result.now c.field-item.result c.loop-i-test.true c.index.ensures c.field-item.is (rw c.deref-field-items.ensures.value c.requires))

pub object_of-loop-i-preserved : goal.object_of-loop-i-preserved
object_of-loop-i-preserved t c =
    let n = as_many c.args.rows.now.items c.args.fields.now.items c.requires in
    rw (add-one, c.in_ok-put.ensures, c.as_str.ensures.value, c.in_ok-json.ensures)
    (members_more c.deref-field-items.result.now c.args.rows.now.items c.loop-i.i c.field-item.result c.index.result.now (members_view c.loop-i.object.entries) c.loop-i-test.true (omega (arith, n, c.loop-i-test.true, ap length c.deref-field-items.ensures.value)) c.field-item.is c.index.ensures ∙ c.loop-i.invariant)

pub json_of-returns-in_ok-pairs_to-in-Map-value : goal.json_of-returns-in_ok-pairs_to-in-Map-value
json_of-returns-in_ok-pairs_to-in-Map-value t c =
    let ps = map paired c.in-Map-value.pairs.items in
    map_prints c.args.tree.now c.in-Map.key c.in-Map.value_tree c.in-Map.field-2 c.args.row.now c.in-Some.value c.in-Map-value.pairs c.in_ok-pairs_to-in-Map-value.field-0 c.in-Map.is c.in-Some.is c.in-Map-value.is
    (c.in_ok-pairs_to-in-Map-value.ensures
    ∙ ap (λ x. map (λ p. spec.pair_json (spec.json_of (shape x) p.0) (spec.json_of (shape c.deref-in-Map-value-2.result.now) p.1)) ps) c.deref-in-Map-value.ensures
    ∙ ap (λ x. map (λ p. spec.pair_json (spec.json_of (shape c.in-Map.key.value) p.0) (spec.json_of (shape x) p.1)) ps) c.deref-in-Map-value-2.ensures)

pub pairs_to-json_of-requires : goal.pairs_to-json_of-requires
pairs_to-json_of-requires t c =
    (omega (arith, c.decreases), (pair_fits c.deref-pair-items.result.now (shape c.args.key.now) (shape c.args.value.now) c.loop-pair.pair-index c.pair-item.result c.loop-pair-test.true c.pair-item.is (rw c.deref-pair-items.ensures.value c.requires)).0)

pub pairs_to-json_of-requires-in-loop-pair : goal.pairs_to-json_of-requires-in-loop-pair
pairs_to-json_of-requires-in-loop-pair t c =
    (omega (arith, c.decreases), (pair_fits c.deref-pair-items.result.now (shape c.args.key.now) (shape c.args.value.now) c.loop-pair.pair-index c.pair-item.result c.loop-pair-test.true c.pair-item.is (rw c.deref-pair-items.ensures.value c.requires)).1)

pub pairs_to-loop-pair-preserved : goal.pairs_to-loop-pair-preserved
pairs_to-loop-pair-preserved t c =
    let s = shape c.args.key.now in
    let v = shape c.args.value.now in
    let f : Cell × Cell → Data = λ p. spec.pair_json (spec.json_of s p.0) (spec.json_of v p.1) in
    let one : json_view c.in_ok-two.field-0 ≡ f (view c.pair-item.result.key, view c.pair-item.result.value) =
    c.in_ok-two.ensures ∙ ap (λ x. spec.pair_json x (json_view c.in_ok-second.second)) c.in_ok-first.ensures ∙ ap (λ x. spec.pair_json (spec.json_of s (view c.pair-item.result.key)) x) c.in_ok-second.ensures in
    rw (c.in_ok-push.ensures.items, add-one) (pairs_more f c.deref-pair-items.result.now c.loop-pair.pair-index c.pair-item.result c.loop-pair.array.items c.in_ok-two.field-0 c.loop-pair-test.true c.pair-item.is one c.loop-pair.invariant)

pub array_of-loop-row-preserved : goal.array_of-loop-row-preserved
array_of-loop-row-preserved t c =
    rw (c.in_ok-push.ensures.items, add-one)
    (rows_more (spec.json_of (shape c.args.tree.now)) c.deref-row-items.result.now c.loop-row.row-index c.row-item.result c.loop-row.array.items c.in_ok-json_of.field-0 c.loop-row-test.true c.row-item.is c.in_ok-json_of.ensures c.loop-row.invariant)
