use Rattle.std.proofs.Common.{◌≡◌, ℕ, ◌+◌, ◌≤◌, List, length, map, drop, refl, sym, ap, ◌∙◌, subst, arith}
use Rattle.std.specs.List.{flat_map}
use Rattle.orc_values.specs.Shapes.{Shape, list_of, map_of, struct_of, width, widths}
use Rattle.orc_values.specs.Cells.{Cell, parts, keys_in, values}
use Rattle.orc_values.specs.Columns.{cells}
use Rattle.orc_values.specs.Fits.{RowsFit}
use Rattle.orc_values.specs.Views.{shape, fields}
use Rattle.orc_values.specs.declared.own.Own.{Own}
use Rattle.orc_values.proofs.ByColumn.{width_within}
use Rattle.orc_values.proofs.Views.{shape-Scalar, shape-List, shape-Map, shape-Struct}
use Rattle.orc_row_batch.specs.Batch.{kept_rows}
use Rattle.orc_row_groups.specs.Bounds.{AreBounds, elements_before, pairs_before, values_before}
use Rattle.orc_row_groups.specs.OwnCells.{own_cells, AreOwn}
use Rattle.orc_row_groups.proofs.Groups.{keys_long}
use Rattle.orc_row_groups.proofs.OwnLemmas.{owns_long, own_count, all_elements, own_elements, all_pairs, own_pairs, own_values}
use Rattle.orc_stripe_writer.specs.Firsts.{firsts_of}
use Rattle.orc_stripe_writer.specs.Standing.{ColumnStands, FieldsStand, structs_in}
use Rattle.orc_stripe_writer.specs.WrittenStripe.{AreFew}
use Rattle.orc_stripe_writer.specs.Subtrees.{HasWritten}
use Rattle.orc_stripe_writer.proofs.SubtreeLemmas.{few_here, few_elements, few_pairs}
use Rattle.orc_row_groups.proofs.SubtreeLemmas.{type_from}
use Rattle.orc_row_groups.proofs.GroupLemmas.{bounds_here}
use Rattle.orc_stripe_writer.proofs.StandingLemmas.{element_stands, keys_stand, map_values_stand, fields_stand, first_stands, others_stand, wide_left, none_wide}
use Rattle.orc_stripe_writer.proofs.columns.+columns.Goals as goal

-- what is said of the cells is as many, so that bounds of these are bounds of it
own_bounds : (owns : List Own) (cs : List Cell) (bounds : List ℕ) → AreOwn owns cs → AreBounds (length cs) bounds → AreBounds (length owns) bounds
own_bounds owns cs bounds own are = subst (λ (n : ℕ). AreBounds n bounds) (sym (own_count owns cs own)) are

said_bounds : (owns : List Own) (cs : List Cell) (bounds : List ℕ) → AreOwn owns cs → AreBounds (length cs) bounds → AreBounds (length (own_cells owns)) bounds
said_bounds owns cs bounds own are = subst (λ (n : ℕ). AreBounds n bounds) (sym (owns_long owns)) (own_bounds owns cs bounds own are)

pub put_columns-put_column-requires-clause-column : goal.put_columns-put_column-requires-clause-column
put_columns-put_column-requires-clause-column t c =
    let s = c.args.source.schema.now in
    let rows = kept_rows s c.args.source.batch.now in
    let cs = cells s c.args.column rows in
    let own : AreOwn c.deref.result.now cs = ap own_cells c.deref.ensures.value ∙ c.in_ok-owns.ensures.rows s rows c.requires.held in
    (cs, own, c.requires.stands.fit, few_here (shape c.args.tree.now) cs c.requires.stands.few)

pub put_columns-put_column-requires-clause-bounds : goal.put_columns-put_column-requires-clause-bounds
put_columns-put_column-requires-clause-bounds t c =
    let s = c.args.source.schema.now in
    let rows = kept_rows s c.args.source.batch.now in
    let cs = cells s c.args.column rows in
    let own : AreOwn c.deref.result.now cs = ap own_cells c.deref.ensures.value ∙ c.in_ok-owns.ensures.rows s rows c.requires.held in
    own_bounds c.deref.result.now cs c.args.bounds.now own c.requires.stands.bounded

pub put_columns-element_bounds-requires-clause-bounds : goal.put_columns-element_bounds-requires-clause-bounds
put_columns-element_bounds-requires-clause-bounds t c =
    let s = c.args.source.schema.now in
    let rows = kept_rows s c.args.source.batch.now in
    let cs = cells s c.args.column rows in
    let own : AreOwn c.deref-in-List.result.now cs = ap own_cells c.deref-in-List.ensures.value ∙ c.in_ok-owns.ensures.rows s rows c.requires.held in
    said_bounds c.deref-in-List.result.now cs c.args.bounds.now own c.requires.stands.bounded

pub put_columns-element_bounds-requires-clause-few : goal.put_columns-element_bounds-requires-clause-few
put_columns-element_bounds-requires-clause-few t c =
    let s = c.args.source.schema.now in
    let rows = kept_rows s c.args.source.batch.now in
    let cs = cells s c.args.column rows in
    let o = c.in-List.field-1.items in
    let below = shape c.in-List.element.value in
    let is : shape c.args.tree.now ≡ list_of below o = ap shape c.in-List.is ∙ shape-List c.in-List.element c.in-List.field-1 in
    let few = few_here below (flat_map parts (values cs)) (few_elements below o cs (subst (λ (x : Shape). AreFew x cs) is c.requires.stands.few)) in
    let own : AreOwn c.deref-in-List.result.now cs = ap own_cells c.deref-in-List.ensures.value ∙ c.in_ok-owns.ensures.rows s rows c.requires.held in
    omega (arith, few, all_elements below o c.deref-in-List.result.now cs own (subst (λ (x : Shape). RowsFit x cs) is c.requires.stands.fit))

pub put_columns-put_columns-requires : goal.put_columns-put_columns-requires
put_columns-put_columns-requires t c =
    let s = c.args.source.schema.now in
    let rows = kept_rows s c.args.source.batch.now in
    let stride = c.args.source.options.now.stride in
    let n = c.args.column in
    let bs = c.args.bounds.now in
    let cs = cells s n rows in
    let o = c.in-List.field-1.items in
    let below = shape c.deref-in-List-2.result.now in
    let is : shape c.args.tree.now ≡ list_of below o = ap shape c.in-List.is ∙ shape-List c.in-List.element c.in-List.field-1 ∙ ap (λ x. list_of (shape x) o) (sym c.deref-in-List-2.ensures) in
    let w : width (shape c.args.tree.now) ≡ 1 + width below = ap width is in
    let said : AreOwn c.deref.result.now cs = ap own_cells c.deref.ensures.value ∙ c.in_ok-owns.ensures.rows s rows c.requires.held in
    let own : AreOwn c.deref-in-List.result.now cs = ap own_cells c.deref-in-List.ensures.value ∙ c.in_ok-owns.ensures.rows s rows c.requires.held in
    let bounds : c.deref-in-List-3.result.now ≡ map (elements_before cs) bs = c.deref-in-List-3.ensures.value ∙ c.in_ok-below-in-List.ensures ∙ own_elements below o c.deref-in-List.result.now cs bs own (subst (λ (x : Shape). RowsFit x cs) is c.requires.stands.fit) in (
      omega (arith, w, c.decreases),
      (
        c.requires.held,
        (
          subst (λ (ys : List ℕ). ColumnStands s rows stride (n + 1) below ys) (sym bounds) (element_stands s rows stride n below o bs (subst (λ (x : Shape). ColumnStands s rows stride n x bs) is c.requires.stands)),
          c.in_ok-put_column.ensures s rows cs n said c.requires.stands.fit c.requires.written (type_from s rows n (shape c.args.tree.now) cs c.requires.stands.from) refl
              (bounds_here s rows (firsts_of stride (length rows)) n (shape c.args.tree.now) cs bs c.requires.stands.groups c.requires.stands.bounded),
        ),
      ),
    )

pub put_columns-pair_bounds-requires-clause-bounds : goal.put_columns-pair_bounds-requires-clause-bounds
put_columns-pair_bounds-requires-clause-bounds t c =
    let s = c.args.source.schema.now in
    let rows = kept_rows s c.args.source.batch.now in
    let cs = cells s c.args.column rows in
    let own : AreOwn c.deref-in-Map.result.now cs = ap own_cells c.deref-in-Map.ensures.value ∙ c.in_ok-owns.ensures.rows s rows c.requires.held in
    said_bounds c.deref-in-Map.result.now cs c.args.bounds.now own c.requires.stands.bounded

pub put_columns-pair_bounds-requires-clause-few : goal.put_columns-pair_bounds-requires-clause-few
put_columns-pair_bounds-requires-clause-few t c =
    let s = c.args.source.schema.now in
    let rows = kept_rows s c.args.source.batch.now in
    let cs = cells s c.args.column rows in
    let o = c.in-Map.field-2.items in
    let k = shape c.in-Map.key.value in
    let v = shape c.in-Map.value.value in
    let is : shape c.args.tree.now ≡ map_of k v o = ap shape c.in-Map.is ∙ shape-Map c.in-Map.key c.in-Map.value c.in-Map.field-2 in
    let few = few_here k (flat_map keys_in (values cs)) (few_pairs k v o cs (subst (λ (x : Shape). AreFew x cs) is c.requires.stands.few)).0 in
    let own : AreOwn c.deref-in-Map.result.now cs = ap own_cells c.deref-in-Map.ensures.value ∙ c.in_ok-owns.ensures.rows s rows c.requires.held in
    omega (arith, few, keys_long (values cs), all_pairs c.deref-in-Map.result.now cs own)

pub put_columns-put_columns-requires-in-Map : goal.put_columns-put_columns-requires-in-Map
put_columns-put_columns-requires-in-Map t c =
    let s = c.args.source.schema.now in
    let rows = kept_rows s c.args.source.batch.now in
    let stride = c.args.source.options.now.stride in
    let n = c.args.column in
    let bs = c.args.bounds.now in
    let cs = cells s n rows in
    let o = c.in-Map.field-2.items in
    let k = shape c.deref-in-Map-2.result.now in
    let v = shape c.in-Map.value.value in
    let is : shape c.args.tree.now ≡ map_of k v o = ap shape c.in-Map.is ∙ shape-Map c.in-Map.key c.in-Map.value c.in-Map.field-2 ∙ ap (λ x. map_of (shape x) v o) (sym c.deref-in-Map-2.ensures) in
    let w : width (shape c.args.tree.now) ≡ 1 + (width k + width v) = ap width is in
    let said : AreOwn c.deref.result.now cs = ap own_cells c.deref.ensures.value ∙ c.in_ok-owns.ensures.rows s rows c.requires.held in
    let own : AreOwn c.deref-in-Map.result.now cs = ap own_cells c.deref-in-Map.ensures.value ∙ c.in_ok-owns.ensures.rows s rows c.requires.held in
    let bounds : c.deref-in-Map-3.result.now ≡ map (pairs_before cs) bs = c.deref-in-Map-3.ensures.value ∙ c.in_ok-below-in-Map.ensures ∙ own_pairs c.deref-in-Map.result.now cs bs own in (
      omega (arith, w, c.decreases),
      (
        c.requires.held,
        (
          subst (λ (ys : List ℕ). ColumnStands s rows stride (n + 1) k ys) (sym bounds) (keys_stand s rows stride n k v o bs (subst (λ (x : Shape). ColumnStands s rows stride n x bs) is c.requires.stands)),
          c.in_ok-put_column.ensures s rows cs n said c.requires.stands.fit c.requires.written (type_from s rows n (shape c.args.tree.now) cs c.requires.stands.from) refl
              (bounds_here s rows (firsts_of stride (length rows)) n (shape c.args.tree.now) cs bs c.requires.stands.groups c.requires.stands.bounded),
        ),
      ),
    )

pub put_columns-put_columns-requires-in-Map-2 : goal.put_columns-put_columns-requires-in-Map-2
put_columns-put_columns-requires-in-Map-2 t c =
    let s = c.args.source.schema.now in
    let rows = kept_rows s c.args.source.batch.now in
    let rle = c.args.source.options.now.rle in
    let stride = c.args.source.options.now.stride in
    let n = c.args.column in
    let bs = c.args.bounds.now in
    let cs = cells s n rows in
    let o = c.in-Map.field-2.items in
    let k = shape c.in-Map.key.value in
    let v = shape c.deref-in-Map-4.result.now in
    let is : shape c.args.tree.now ≡ map_of k v o = ap shape c.in-Map.is ∙ shape-Map c.in-Map.key c.in-Map.value c.in-Map.field-2 ∙ ap (λ x. map_of k (shape x) o) (sym c.deref-in-Map-4.ensures) in
    let w : width (shape c.args.tree.now) ≡ 1 + (width k + width v) = ap width is in
    let wide : n + 1 + width k ≡ n + 1 + c.width_of.result = omega (arith, c.width_of.ensures, ap (λ x. width (shape x)) c.deref-in-Map-5.ensures) in
    let first : n + 1 + width (shape c.deref-in-Map-2.result.now) ≡ n + 1 + c.width_of.result = omega (arith, wide, ap (λ x. width (shape x)) c.deref-in-Map-2.ensures) in
    let own : AreOwn c.deref-in-Map.result.now cs = ap own_cells c.deref-in-Map.ensures.value ∙ c.in_ok-owns.ensures.rows s rows c.requires.held in
    let bounds : c.deref-in-Map-6.result.now ≡ map (pairs_before cs) bs = c.deref-in-Map-6.ensures.value ∙ c.in_ok-below-in-Map.ensures ∙ own_pairs c.deref-in-Map.result.now cs bs own in (
      omega (arith, w, c.decreases),
      (
        c.requires.held,
        (
          subst (λ (j : ℕ). ColumnStands s rows stride j v c.deref-in-Map-6.result.now) wide
              (subst (λ (ys : List ℕ). ColumnStands s rows stride (n + 1 + width k) v ys) (sym bounds) (map_values_stand s rows stride n k v o bs (subst (λ (x : Shape). ColumnStands s rows stride n x bs) is c.requires.stands))),
          subst (λ (j : ℕ). HasWritten rle stride s rows j c.put_columns-in-Map.new.out) first c.in_ok-put_columns-in-Map.ensures,
        ),
      ),
    )

pub put_columns-field_bounds-requires : goal.put_columns-field_bounds-requires
put_columns-field_bounds-requires t c =
    let s = c.args.source.schema.now in
    let rows = kept_rows s c.args.source.batch.now in
    let cs = cells s c.args.column rows in
    let own : AreOwn c.deref-in-Struct.result.now cs = ap own_cells c.deref-in-Struct.ensures.value ∙ c.in_ok-owns.ensures.rows s rows c.requires.held in
    said_bounds c.deref-in-Struct.result.now cs c.args.bounds.now own c.requires.stands.bounded

pub put_columns-put_fields-requires : goal.put_columns-put_fields-requires
put_columns-put_fields-requires t c =
    let s = c.args.source.schema.now in
    let rows = kept_rows s c.args.source.batch.now in
    let stride = c.args.source.options.now.stride in
    let n = c.args.column in
    let bs = c.args.bounds.now in
    let cs = cells s n rows in
    let o = c.in-Struct.field-1.items in
    let fs = fields c.deref-in-Struct-2.result.now in
    let is : shape c.args.tree.now ≡ struct_of fs o = ap shape c.in-Struct.is ∙ shape-Struct c.in-Struct.fields c.in-Struct.field-1 ∙ ap (λ x. struct_of (fields x) o) (sym c.deref-in-Struct-2.ensures.value) in
    let w : width (shape c.args.tree.now) ≡ 1 + widths fs = ap width is in
    let said : AreOwn c.deref.result.now cs = ap own_cells c.deref.ensures.value ∙ c.in_ok-owns.ensures.rows s rows c.requires.held in
    let own : AreOwn c.deref-in-Struct.result.now cs = ap own_cells c.deref-in-Struct.ensures.value ∙ c.in_ok-owns.ensures.rows s rows c.requires.held in
    let bounds : c.deref-in-Struct-3.result.now ≡ map (values_before cs) bs = c.deref-in-Struct-3.ensures.value ∙ c.in_ok-below-in-Struct.ensures ∙ own_values c.deref-in-Struct.result.now cs bs own in (
      omega (arith, w, c.decreases),
      (
        c.requires.held,
        (
          subst (λ (ys : List ℕ). FieldsStand s rows stride (n + 1) fs (structs_in s rows n) ys) (sym bounds) (fields_stand s rows stride n fs o bs (subst (λ (x : Shape). ColumnStands s rows stride n x bs) is c.requires.stands)),
          c.in_ok-put_column.ensures s rows cs n said c.requires.stands.fit c.requires.written (type_from s rows n (shape c.args.tree.now) cs c.requires.stands.from) refl
              (bounds_here s rows (firsts_of stride (length rows)) n (shape c.args.tree.now) cs bs c.requires.stands.groups c.requires.stands.bounded),
        ),
      ),
    )

pub put_columns-returns-in-Scalar : goal.put_columns-returns-in-Scalar
put_columns-returns-in-Scalar t c =
    let s = c.args.source.schema.now in
    let rows = kept_rows s c.args.source.batch.now in
    let rle = c.args.source.options.now.rle in
    let stride = c.args.source.options.now.stride in
    let n = c.args.column in
    let bs = c.args.bounds.now in
    let cs = cells s n rows in
    let w : width (shape c.args.tree.now) ≡ 1 = ap width (ap shape c.in-Scalar.is ∙ shape-Scalar c.in-Scalar.field-0 c.in-Scalar.field-1) in
    let said : AreOwn c.deref.result.now cs = ap own_cells c.deref.ensures.value ∙ c.in_ok-owns.ensures.rows s rows c.requires.held in
    subst (λ (j : ℕ). HasWritten rle stride s rows (n + j) c.put_column.new.out) (sym w)
    (c.in_ok-put_column.ensures s rows cs n said c.requires.stands.fit c.requires.written (type_from s rows n (shape c.args.tree.now) cs c.requires.stands.from) refl
    (bounds_here s rows (firsts_of stride (length rows)) n (shape c.args.tree.now) cs bs c.requires.stands.groups c.requires.stands.bounded))

pub put_fields-put_columns-requires : goal.put_fields-put_columns-requires
put_fields-put_columns-requires t c =
    let s = c.args.source.schema.now in
    let rows = kept_rows s c.args.source.batch.now in
    let fs = c.args.fields.now in
    let i = c.loop-field.field-index in
    let f = c.field-item.result in
    let inv = c.loop-field.invariant in
    let u : width (shape f.tree) ≤ widths (fields fs) = width_within fs i f c.loop-field-test.true c.field-item.is in (
      omega (arith, u, c.decreases),
      (
        c.requires.held,
        (first_stands s rows c.args.source.options.now.stride c.loop-field.next fs (structs_in s rows c.args.structs) c.args.bounds.now i f c.loop-field-test.true c.field-item.is inv.0, inv.1),
      ),
    )

pub put_fields-loop-field-preserved : goal.put_fields-loop-field-preserved
put_fields-loop-field-preserved t c =
    let s = c.args.source.schema.now in
    let rows = kept_rows s c.args.source.batch.now in
    let rle = c.args.source.options.now.rle in
    let stride = c.args.source.options.now.stride in
    let fs = c.args.fields.now in
    let structs = structs_in s rows c.args.structs in
    let i = c.loop-field.field-index in
    let f = c.field-item.result in
    let next = c.loop-field.next in
    let inv = c.loop-field.invariant in
    let wide : next + width (shape f.tree) ≡ next + c.width_of-next.result = omega (arith, c.width_of-next.ensures) in
    let left = wide_left fs i f c.loop-field-test.true c.field-item.is in (
      subst (λ (j : ℕ). FieldsStand s rows stride j (fields (drop (i + 1) fs)) (map (drop (i + 1)) structs) c.args.bounds.now) wide
          (others_stand s rows stride next fs structs c.args.bounds.now i f c.loop-field-test.true c.field-item.is inv.0),
      subst (λ (j : ℕ). HasWritten rle stride s rows j c.put_columns.new.out) wide c.in_ok-put_columns.ensures,
      omega (arith, wide, left, inv.2),
    )

pub put_fields-returns : goal.put_fields-returns
put_fields-returns t c =
    let s = c.args.source.schema.now in
    let rows = kept_rows s c.args.source.batch.now in
    let fs = c.args.fields.now in
    let inv = c.loop-field.invariant in
    let none = none_wide fs c.loop-field.field-index (omega (arith, c.loop-field-test.false)) in
    let all : c.loop-field.next ≡ c.args.structs + 1 + widths (fields fs) = omega (arith, none, inv.2) in
    subst (λ (j : ℕ). HasWritten c.args.source.options.now.rle c.args.source.options.now.stride s rows j c.loop-field.out) all inv.1
