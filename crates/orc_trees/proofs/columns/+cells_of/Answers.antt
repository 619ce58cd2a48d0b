use Rattle.std.proofs.Common.{◌≡◌, ◌+◌, ◌-◌, ◌<◌, ◌≤◌, map, sym, ap, ◌∙◌, arith}
use Rattle.std.specs.List.{flat_map}
use Rattle.std.proofs.lemmas.Result.{IfOk-weaker}
use Rattle.orc_values.specs.Shapes.{width, widths}
use Rattle.orc_values.specs.Cells.{parts, values, keys_in, values_in}
use Rattle.orc_values.specs.Columns.{cells}
use Rattle.orc_values.specs.Views.{shape, fields, lent_views}
use Rattle.orc_values.proofs.Views.{shape-Struct}
use Rattle.orc_values.proofs.ByColumn.{located_cells, not_located, struct_cells, list_cells, key_cells, value_cells, members_values, width_within}
use Rattle.orc_trees.proofs.columns.+cells_of.Goals as goal

pub returns-in_default : goal.returns-in_default
returns-in_default t c =
    ap lent_views c.new.ensures.items ∙ sym (struct_cells c.args.tree.now c.in-Struct.fields c.in-Struct.field-1 c.args.column (lent_views c.args.rows.items) c.in-Struct.is c.if-column-eq0.false
    ∙ not_located (fields c.in-Struct.fields.items) (c.args.column - 1) (map parts (values (lent_views c.args.rows.items))) c.in_default.ensures.none)

pub cells_of-requires-in-Struct : goal.cells_of-requires-in-Struct
cells_of-requires-in-Struct t c =
    let w : width (shape c.args.tree.now) ≡ 1 + widths (fields c.in-Struct.fields.items) = ap (λ x. width (shape x)) c.in-Struct.is ∙ ap width (shape-Struct c.in-Struct.fields c.in-Struct.field-1) in
    let u = width_within c.in-Struct.fields.items c.in-Some.i c.index.result.now c.in-Some.ensures.some.0 c.index.ensures in
    (omega (arith, w, u, c.decreases), omega (arith, w, u, c.requires))

pub returns-in_ok-below-in-List : goal.returns-in_ok-below-in-List
returns-in_ok-below-in-List t c = IfOk-weaker c.cells_of.result _ _ (λ v e. e ∙ ap (cells (shape c.deref.result.now) (c.args.column - 1)) c.in_ok-below-in-List.ensures ∙ ap (λ x. cells (shape x) (c.args.column - 1) (flat_map parts (lent_views c.args.rows.items))) c.deref.ensures
    ∙ sym (list_cells c.args.tree.now c.in-List.element c.in-List.field-1 c.args.column (lent_views c.args.rows.items) c.in-List.is c.if-column-eq0.false)) c.cells_of.ensures

pub returns-in_ok-structs-in-Struct : goal.returns-in_ok-structs-in-Struct
returns-in_ok-structs-in-Struct t c =
    let located = located_cells c.in-Struct.fields.items (c.args.column - 1) c.in-Some.i c.in-Some.below c.index.result.now (map parts (values (lent_views c.args.rows.items))) c.index.ensures c.in-Some.ensures.some.1 in
    IfOk-weaker c.cells_of-in-Struct.result _ _ (λ v e. e ∙ ap (cells (shape c.index.result.now.tree) c.in-Some.below) (c.in_ok-structs-in-Struct.ensures ∙ members_values c.in-Some.i (lent_views c.args.rows.items))
    ∙ sym (struct_cells c.args.tree.now c.in-Struct.fields c.in-Struct.field-1 c.args.column (lent_views c.args.rows.items) c.in-Struct.is c.if-column-eq0.false ∙ located)) c.cells_of-in-Struct.ensures

pub returns-in_ok-below-in-Map : goal.returns-in_ok-below-in-Map
returns-in_ok-below-in-Map t c =
    let w : c.width_of-width.result ≡ width (shape c.in-Map.key.value) = c.width_of-width.ensures ∙ ap (λ x. width (shape x)) c.deref-in-Map.ensures in
    let here : c.args.column - 1 < width (shape c.in-Map.key.value) = omega (arith, w, c.if-column-width.true) in
    IfOk-weaker c.cells_of-then-column-width.result _ _ (λ v e. e ∙ ap (cells (shape c.deref-then-column-width.result.now) (c.args.column - 1)) c.in_ok-below-in-Map.ensures
    ∙ ap (λ x. cells (shape x) (c.args.column - 1) (flat_map keys_in (lent_views c.args.rows.items))) c.deref-then-column-width.ensures
    ∙ sym (key_cells c.args.tree.now c.in-Map.key c.in-Map.value c.in-Map.field-2 c.args.column (lent_views c.args.rows.items) c.in-Map.is c.if-column-eq0.false here)) c.cells_of-then-column-width.ensures

pub returns-in_ok-below-in-Map-2 : goal.returns-in_ok-below-in-Map-2
returns-in_ok-below-in-Map-2 t c =
    let w : c.width_of-width.result ≡ width (shape c.in-Map.key.value) = c.width_of-width.ensures ∙ ap (λ x. width (shape x)) c.deref-in-Map.ensures in
    let past : width (shape c.in-Map.key.value) ≤ c.args.column - 1 = omega (arith, w, c.if-column-width.false) in
    IfOk-weaker c.cells_of-else-column-width.result _ _ (λ v e. e ∙ ap (cells (shape c.deref-else-column-width.result.now) (c.args.column - 1 - c.width_of-width.result)) c.in_ok-below-in-Map-2.ensures
    ∙ ap (λ x. cells (shape x) (c.args.column - 1 - c.width_of-width.result) (flat_map values_in (lent_views c.args.rows.items))) c.deref-else-column-width.ensures
    ∙ ap (λ n. cells (shape c.in-Map.value.value) (c.args.column - 1 - n) (flat_map values_in (lent_views c.args.rows.items))) w
    ∙ sym (value_cells c.args.tree.now c.in-Map.key c.in-Map.value c.in-Map.field-2 c.args.column (lent_views c.args.rows.items) c.in-Map.is c.if-column-eq0.false past)) c.cells_of-else-column-width.ensures
