use Rattle.std.proofs.Common.{◌≡◌, ap, ◌∙◌, subst}
use Rattle.std.proofs.lemmas.Result.{IfOk-weaker}
use Rattle.orc_values.specs.Shapes.{Shape, scalar, list_of, map_of, struct_of}
use Rattle.orc_values.specs.Cells.{values}
use Rattle.orc_values.specs.Fits.{RowsFit}
use Rattle.orc_values.specs.Views.{shape, fields}
use Rattle.orc_row_groups.specs.OwnCells.{own_cells}
use Rattle.orc_values.proofs.Views.{shape-Scalar, shape-List, shape-Map, shape-Struct}
use Rattle.orc_stripe_writer.specs.CellValues.{sizes_in}
use Rattle.orc_stripe_writer.specs.WrittenColumn.{HasSizes, WritesValues}
use Rattle.orc_stripe_writer.proofs.AddingLemmas.{retyped, adds_weaker, struct_added}
use Rattle.orc_stripe_writer.proofs.OwnValues.{own_list_sizes, own_map_sizes}
use Rattle.orc_stripe_writer.proofs.put_column.put_values.Goals as goal

pub returns-in-Scalar : goal.returns-in-Scalar
returns-in-Scalar c = λ cs own all.
    let s : shape c.args.tree.now ≡ scalar c.in-Scalar.kind c.in-Scalar.field-1.items = ap shape c.in-Scalar.is ∙ shape-Scalar c.in-Scalar.kind c.in-Scalar.field-1 in
    let fit = subst (λ (x : Shape). RowsFit x cs) s all in
    IfOk-weaker c.put_scalars.result _ _ (λ e h. retyped c.args.rle (shape c.args.tree.now) (scalar c.in-Scalar.kind c.in-Scalar.field-1.items) (values cs) c.args.column c.args.body.now c.put_scalars.new.body e s h)
    (c.put_scalars.ensures c.in-Scalar.field-1.items cs own fit)

pub returns-in-List : goal.returns-in-List
returns-in-List c = λ cs own all.
    let s : shape c.args.tree.now ≡ list_of (shape c.in-List.field-0.value) c.in-List.field-1.items = ap shape c.in-List.is ∙ shape-List c.in-List.field-0 c.in-List.field-1 in
    let fit = subst (λ (x : Shape). RowsFit x cs) s all in
    IfOk-weaker c.put_sizes.result _ _ (λ e h. retyped c.args.rle (shape c.args.tree.now) (list_of (shape c.in-List.field-0.value) c.in-List.field-1.items) (values cs) c.args.column c.args.body.now c.put_sizes.new.body e s
    (adds_weaker (λ w. HasSizes c.args.rle w (sizes_in (own_cells c.args.owns.now))) (λ w. WritesValues c.args.rle w (list_of (shape c.in-List.field-0.value) c.in-List.field-1.items) (values cs)) c.args.column e c.args.body.now c.put_sizes.new.body
    (λ w p. subst (λ ns. HasSizes c.args.rle w ns) (own_list_sizes (shape c.in-List.field-0.value) c.in-List.field-1.items c.args.owns.now cs own fit) p) h)) c.put_sizes.ensures

pub returns-in-Map : goal.returns-in-Map
returns-in-Map c = λ cs own all.
    let k = shape c.in-Map.field-0.value in
    let v = shape c.in-Map.field-1.value in
    let o = c.in-Map.field-2.items in
    let s : shape c.args.tree.now ≡ map_of k v o = ap shape c.in-Map.is ∙ shape-Map c.in-Map.field-0 c.in-Map.field-1 c.in-Map.field-2 in
    let fit = subst (λ (x : Shape). RowsFit x cs) s all in
    IfOk-weaker c.put_sizes-in-Map.result _ _ (λ e h. retyped c.args.rle (shape c.args.tree.now) (map_of k v o) (values cs) c.args.column c.args.body.now c.put_sizes-in-Map.new.body e s
    (adds_weaker (λ w. HasSizes c.args.rle w (sizes_in (own_cells c.args.owns.now))) (λ w. WritesValues c.args.rle w (map_of k v o) (values cs)) c.args.column e c.args.body.now c.put_sizes-in-Map.new.body
    (λ w p. subst (λ ns. HasSizes c.args.rle w ns) (own_map_sizes k v o c.args.owns.now cs own fit) p) h)) c.put_sizes-in-Map.ensures

pub returns-in-Struct : goal.returns-in-Struct
returns-in-Struct c = λ cs own all.
    let s : shape c.args.tree.now ≡ struct_of (fields c.in-Struct.field-0.items) c.in-Struct.field-1.items = ap shape c.in-Struct.is ∙ shape-Struct c.in-Struct.field-0 c.in-Struct.field-1 in
    retyped c.args.rle (shape c.args.tree.now) (struct_of (fields c.in-Struct.field-0.items) c.in-Struct.field-1.items) (values cs) c.args.column c.args.body.now c.args.body.now c.plain.result s
    (struct_added c.args.column c.args.body.now c.plain.result c.plain.ensures)
