use Rattle.std.proofs.Common.{◌≡◌, ◌*◌, ◌+◌, ◌<◌, ◌++◌, codes, List, ℕ, refl, ap, ◌∙◌, arith, add-one, append_assoc, string_bytes}
use Rattle.orc_values.proofs.Views.{shape-Scalar, shape-List, shape-Map, shape-Struct}
use Rattle.orc_values.specs.Shapes.{width, widths}
use Rattle.orc_values.specs.Views.{shape, fields}
use Rattle.orc_trees.specs.SchemaText.{text}
use Rattle.orc_values.proofs.ByColumn.{width_within}
use Rattle.orc_trees.proofs.Texts.{text_more}
use Rattle.orc_trees.proofs.schema_text.+put.Goals as goal

pub put_fields-put_field-requires : goal.put_fields-put_field-requires
put_fields-put_field-requires t c =
    let w = width_within c.deref-field-items.result.now c.loop-i.i c.field-item.result c.loop-i-test.true c.field-item.is in
    let e = ap (λ fs. widths (fields fs)) c.deref-field-items.ensures.value in
    let g : 3 * width (shape c.field-item.result.tree) + 1 < t = omega (arith, c.decreases, w, e) in
    (g, tt)

pub put_fields-loop-i-preserved : goal.put_fields-loop-i-preserved
put_fields-loop-i-preserved t c =
    rw add-one (text_more c.deref-field-items.result.now c.loop-i.i c.field-item.result (string_bytes c.loop-i.text) (string_bytes c.put_field.new.text) c.loop-i-test.true c.field-item.is c.in_ok-put_field.ensures ∙ c.loop-i.invariant)

pub put_tree-returns-in-Scalar : goal.put_tree-returns-in-Scalar
put_tree-returns-in-Scalar t c =
    let e : string_bytes c.args.text.now ++ text (shape c.args.tree.now) ≡ string_bytes c.args.text.now ++ c.kind_name.result.now =
    rw (c.kind_name.ensures, c.in-Scalar.is, shape-Scalar c.in-Scalar.kind c.in-Scalar.field-1) (refl {A = List ℕ}) in
    rw e c.add.ensures

pub put_tree-returns-in_ok-put_tree-in-List : goal.put_tree-returns-in_ok-put_tree-in-List
put_tree-returns-in_ok-put_tree-in-List t c =
    let e : string_bytes c.args.text.now ++ text (shape c.args.tree.now) ≡ string_bytes c.put_tree.new.text ++ codes ">" =
    rw (c.in_ok-put_tree-in-List.ensures, c.in_ok-add-in-List.ensures, c.deref.ensures, c.in-List.is, shape-List c.in-List.element c.in-List.field-1) (simp append_assoc) in
    rw e c.add-in-List-2.ensures

pub put_tree-returns-in_ok-put_tree-in-Map-2 : goal.put_tree-returns-in_ok-put_tree-in-Map-2
put_tree-returns-in_ok-put_tree-in-Map-2 t c =
    let e : string_bytes c.args.text.now ++ text (shape c.args.tree.now) ≡ string_bytes c.put_tree-in-Map-2.new.text ++ codes ">" =
    rw (c.in_ok-put_tree-in-Map-2.ensures, c.in_ok-add-in-Map-2.ensures, c.in_ok-put_tree-in-Map.ensures, c.in_ok-add-in-Map.ensures, c.deref-in-Map.ensures, c.deref-in-Map-2.ensures, c.in-Map.is, shape-Map c.in-Map.key c.in-Map.value c.in-Map.field-2)
    (simp append_assoc) in
    rw e c.add-in-Map-3.ensures

pub put_tree-returns-in_ok-put_fields-in-Struct : goal.put_tree-returns-in_ok-put_fields-in-Struct
put_tree-returns-in_ok-put_fields-in-Struct t c =
    let e : string_bytes c.args.text.now ++ text (shape c.args.tree.now) ≡ string_bytes c.put_fields.new.text ++ codes ">" =
    rw (c.in_ok-put_fields-in-Struct.ensures, c.in_ok-add-in-Struct.ensures, c.in-Struct.is, shape-Struct c.in-Struct.fields c.in-Struct.field-1) (simp append_assoc) in
    rw e c.add-in-Struct-2.ensures

pub put_tree-put_tree-requires : goal.put_tree-put_tree-requires
put_tree-put_tree-requires t c =
    let w = ap width (ap shape c.in-List.is ∙ shape-List c.in-List.element c.in-List.field-1) in
    let e = ap (λ s. width (shape s)) c.deref.ensures in
    let g : 3 * width (shape c.deref.result.now) < t = omega (arith, c.decreases, w, e) in
    (g, tt)

pub put_tree-put_tree-requires-in-Map : goal.put_tree-put_tree-requires-in-Map
put_tree-put_tree-requires-in-Map t c =
    let w = ap width (ap shape c.in-Map.is ∙ shape-Map c.in-Map.key c.in-Map.value c.in-Map.field-2) in
    let e = ap (λ s. width (shape s)) c.deref-in-Map.ensures in
    let g : 3 * width (shape c.deref-in-Map.result.now) < t = omega (arith, c.decreases, w, e) in
    (g, tt)

pub put_tree-put_tree-requires-in-Map-2 : goal.put_tree-put_tree-requires-in-Map-2
put_tree-put_tree-requires-in-Map-2 t c =
    let w = ap width (ap shape c.in-Map.is ∙ shape-Map c.in-Map.key c.in-Map.value c.in-Map.field-2) in
    let e = ap (λ s. width (shape s)) c.deref-in-Map-2.ensures in
    let g : 3 * width (shape c.deref-in-Map-2.result.now) < t = omega (arith, c.decreases, w, e) in
    (g, tt)
