use Rattle.std.proofs.Common.{◌≡◌, ◌≤◌, List, map, drop, take, sym, ap, ◌∙◌, subst, arith}
use Rattle.std.proofs.lemmas.Bool.{OnTrue_at, OnTrue_from, OnFalse_at, OnFalse_from}
use Rattle.std.proofs.lemmas.Result.{IfOk-weaker}
use Rattle.std.specs.List.{flat_map}
use Rattle.orc_values.specs.Shapes.{Shape, list_of, map_of, struct_of, width, widths}
use Rattle.orc_values.specs.Cells.{Cell, parts, keys_in, values_in, values}
use Rattle.orc_values.specs.Views.{shape, fields}
use Rattle.orc_values.specs.Lent.{lent_cells}
use Rattle.orc_values.proofs.ByColumn.{width_within, parts_values, keys_values, values_values, members_values}
use Rattle.orc_values.proofs.Views.{shape-List, shape-Map, shape-Struct}
use Rattle.orc_stripe_writer.specs.WrittenStripe.{AreFew}
use Rattle.orc_stripe_writer.proofs.CellValuesLemmas.{cells_long}
use Rattle.orc_stripe_writer.proofs.SubtreeLemmas.{few_elements, few_pairs, few_fields, few_list, few_map, few_struct, few_begin, few_step, few_first_not}
use Rattle.orc_row_groups.proofs.SubtreeLemmas.{heads_at}
use Rattle.orc_stripe_writer.proofs.limits.+limits.Goals as goal

pub columns_are_few-returns-in_ok-elements-in-List-clause-yes : goal.columns_are_few-returns-in_ok-elements-in-List-clause-yes
columns_are_few-returns-in_ok-elements-in-List-clause-yes t c =
    let o = c.in-List.field-1.items in
    let below = shape c.deref.result.now in
    let cs = lent_cells c.args.cells.now in
    let is : shape c.args.tree.now ≡ list_of below o = ap shape c.in-List.is ∙ shape-List c.in-List.element c.in-List.field-1 ∙ ap (λ x. list_of (shape x) o) (sym c.deref.ensures) in
    let here : lent_cells c.deref-in-List.result.now ≡ flat_map parts (values cs) = ap lent_cells c.deref-in-List.ensures.value ∙ c.in_ok-elements-in-List.ensures ∙ sym (parts_values cs) in
    IfOk-weaker c.columns_are_few.result _ _
    (λ b h. OnTrue_from b _ (λ e. subst (λ (x : Shape). AreFew x cs) (sym is) (few_list below o cs (cells_long c.args.cells.now (omega (arith, c.if-cells-ge-CELL_LIMIT.false))) (subst (λ (xs : List Cell). AreFew below xs) here (OnTrue_at e h)))))
    c.columns_are_few.ensures.yes

pub columns_are_few-returns-in_ok-elements-in-List-clause-no : goal.columns_are_few-returns-in_ok-elements-in-List-clause-no
columns_are_few-returns-in_ok-elements-in-List-clause-no t c =
    let o = c.in-List.field-1.items in
    let below = shape c.deref.result.now in
    let cs = lent_cells c.args.cells.now in
    let is : shape c.args.tree.now ≡ list_of below o = ap shape c.in-List.is ∙ shape-List c.in-List.element c.in-List.field-1 ∙ ap (λ x. list_of (shape x) o) (sym c.deref.ensures) in
    let here : lent_cells c.deref-in-List.result.now ≡ flat_map parts (values cs) = ap lent_cells c.deref-in-List.ensures.value ∙ c.in_ok-elements-in-List.ensures ∙ sym (parts_values cs) in
    IfOk-weaker c.columns_are_few.result _ _
    (λ b h. OnFalse_from b _ (λ e few. OnFalse_at e h (subst (λ (xs : List Cell). AreFew below xs) (sym here) (few_elements below o cs (subst (λ (x : Shape). AreFew x cs) is few)))))
    c.columns_are_few.ensures.no

pub columns_are_few-returns-in-Map-clause-yes : goal.columns_are_few-returns-in-Map-clause-yes
columns_are_few-returns-in-Map-clause-yes t c =
    let o = c.in-Map.field-2.items in
    let k = shape c.deref-in-Map.result.now in
    let v = shape c.deref-in-Map-2.result.now in
    let cs = lent_cells c.args.cells.now in
    let is : shape c.args.tree.now ≡ map_of k v o = ap shape c.in-Map.is ∙ shape-Map c.in-Map.key c.in-Map.value c.in-Map.field-2 ∙ ap (λ x. map_of (shape x) (shape c.in-Map.value.value) o) (sym c.deref-in-Map.ensures) ∙ ap (λ x. map_of k (shape x) o) (sym c.deref-in-Map-2.ensures) in
    IfOk-weaker c.pairs_are_few.result _ _
    (λ b h. OnTrue_from b _ (λ e. subst (λ (x : Shape). AreFew x cs) (sym is) (few_map k v o cs (cells_long c.args.cells.now (omega (arith, c.if-cells-ge-CELL_LIMIT.false))) (OnTrue_at e h))))
    c.pairs_are_few.ensures.yes

pub columns_are_few-returns-in-Map-clause-no : goal.columns_are_few-returns-in-Map-clause-no
columns_are_few-returns-in-Map-clause-no t c =
    let o = c.in-Map.field-2.items in
    let k = shape c.deref-in-Map.result.now in
    let v = shape c.deref-in-Map-2.result.now in
    let cs = lent_cells c.args.cells.now in
    let is : shape c.args.tree.now ≡ map_of k v o = ap shape c.in-Map.is ∙ shape-Map c.in-Map.key c.in-Map.value c.in-Map.field-2 ∙ ap (λ x. map_of (shape x) (shape c.in-Map.value.value) o) (sym c.deref-in-Map.ensures) ∙ ap (λ x. map_of k (shape x) o) (sym c.deref-in-Map-2.ensures) in
    IfOk-weaker c.pairs_are_few.result _ _ (λ b h. OnFalse_from b _ (λ e few. OnFalse_at e h (few_pairs k v o cs (subst (λ (x : Shape). AreFew x cs) is few)))) c.pairs_are_few.ensures.no

pub pairs_are_few-returns-then-not-branch-clause-no : goal.pairs_are_few-returns-then-not-branch-clause-no
pairs_are_few-returns-then-not-branch-clause-no t c =
    let k = shape c.args.key.now in
    let v = shape c.args.value.now in
    let cs = lent_cells c.args.maps.now in
    let here : lent_cells c.deref.result.now ≡ flat_map keys_in (values cs) = ap lent_cells c.deref.ensures.value ∙ c.in_ok-keys.ensures ∙ sym (keys_values cs) in
    λ all. OnFalse_at c.if-not-branch.true c.in_ok-columns_are_few.ensures.no (subst (λ (xs : List Cell). AreFew k xs) (sym here) all.0)

pub pairs_are_few-returns-clause-yes : goal.pairs_are_few-returns-clause-yes
pairs_are_few-returns-clause-yes t c =
    let k = shape c.args.key.now in
    let v = shape c.args.value.now in
    let cs = lent_cells c.args.maps.now in
    let here : lent_cells c.deref.result.now ≡ flat_map keys_in (values cs) = ap lent_cells c.deref.ensures.value ∙ c.in_ok-keys.ensures ∙ sym (keys_values cs) in
    let there : lent_cells c.deref-2.result.now ≡ flat_map values_in (values cs) = ap lent_cells c.deref-2.ensures.value ∙ c.in_ok-map_values.ensures ∙ sym (values_values cs) in
    let first : AreFew k (flat_map keys_in (values cs)) = subst (λ (xs : List Cell). AreFew k xs) here (OnTrue_at c.if-not-branch.false c.in_ok-columns_are_few.ensures.yes) in
    IfOk-weaker c.columns_are_few-2.result _ _ (λ b h. OnTrue_from b _ (λ e. (first, subst (λ (xs : List Cell). AreFew v xs) there (OnTrue_at e h)))) c.columns_are_few-2.ensures.yes

pub pairs_are_few-returns-clause-no : goal.pairs_are_few-returns-clause-no
pairs_are_few-returns-clause-no t c =
    let k = shape c.args.key.now in
    let v = shape c.args.value.now in
    let cs = lent_cells c.args.maps.now in
    let there : lent_cells c.deref-2.result.now ≡ flat_map values_in (values cs) = ap lent_cells c.deref-2.ensures.value ∙ c.in_ok-map_values.ensures ∙ sym (values_values cs) in
    IfOk-weaker c.columns_are_few-2.result _ _ (λ b h. OnFalse_from b _ (λ e few. OnFalse_at e h (subst (λ (xs : List Cell). AreFew v xs) (sym there) few.1))) c.columns_are_few-2.ensures.no

pub columns_are_few-returns-in-Struct-clause-yes : goal.columns_are_few-returns-in-Struct-clause-yes
columns_are_few-returns-in-Struct-clause-yes t c =
    let o = c.in-Struct.field-1.items in
    let fs = fields c.deref-in-Struct.result.now in
    let cs = lent_cells c.args.cells.now in
    let is : shape c.args.tree.now ≡ struct_of fs o = ap shape c.in-Struct.is ∙ shape-Struct c.in-Struct.fields c.in-Struct.field-1 ∙ ap (λ x. struct_of (fields x) o) (sym c.deref-in-Struct.ensures.value) in
    IfOk-weaker c.fields_are_few.result _ _
    (λ b h. OnTrue_from b _ (λ e. subst (λ (x : Shape). AreFew x cs) (sym is) (few_struct fs o cs (cells_long c.args.cells.now (omega (arith, c.if-cells-ge-CELL_LIMIT.false))) (OnTrue_at e h))))
    c.fields_are_few.ensures.yes

pub columns_are_few-returns-in-Struct-clause-no : goal.columns_are_few-returns-in-Struct-clause-no
columns_are_few-returns-in-Struct-clause-no t c =
    let o = c.in-Struct.field-1.items in
    let fs = fields c.deref-in-Struct.result.now in
    let cs = lent_cells c.args.cells.now in
    let is : shape c.args.tree.now ≡ struct_of fs o = ap shape c.in-Struct.is ∙ shape-Struct c.in-Struct.fields c.in-Struct.field-1 ∙ ap (λ x. struct_of (fields x) o) (sym c.deref-in-Struct.ensures.value) in
    IfOk-weaker c.fields_are_few.result _ _ (λ b h. OnFalse_from b _ (λ e few. OnFalse_at e h (few_fields fs o cs (subst (λ (x : Shape). AreFew x cs) is few)))) c.fields_are_few.ensures.no

pub fields_are_few-loop-place-init : goal.fields_are_few-loop-place-init
fields_are_few-loop-place-init t c = few_begin c.args.fields.now (map parts (values (lent_cells c.args.structs.now)))

pub fields_are_few-columns_are_few-requires : goal.fields_are_few-columns_are_few-requires
fields_are_few-columns_are_few-requires t c =
    let u : width (shape c.index-fields-place.result.tree) ≤ widths (fields c.args.fields.now) = width_within c.args.fields.now c.loop-place.place c.index-fields-place.result c.loop-place-test.true c.index-fields-place.is in
    (omega (arith, u, c.decreases), tt)

pub fields_are_few-returns-then-not-branch-clause-no : goal.fields_are_few-returns-then-not-branch-clause-no
fields_are_few-returns-then-not-branch-clause-no t c =
    let n = c.loop-place.place in
    let structs = map parts (values (lent_cells c.args.structs.now)) in
    let here : lent_cells c.deref.result.now ≡ flat_map (take 1) (map (drop n) structs) = ap lent_cells c.deref.ensures.value ∙ c.in_ok-cells.ensures ∙ members_values n (lent_cells c.args.structs.now) ∙ heads_at n structs in
    few_first_not c.args.fields.now structs n c.index-fields-place.result (lent_cells c.deref.result.now) c.loop-place-test.true c.index-fields-place.is here (OnFalse_at c.if-not-branch.true c.in_ok-columns_are_few.ensures.no) c.loop-place.invariant

pub fields_are_few-loop-place-preserved : goal.fields_are_few-loop-place-preserved
fields_are_few-loop-place-preserved t c =
    let n = c.loop-place.place in
    let structs = map parts (values (lent_cells c.args.structs.now)) in
    let here : lent_cells c.deref.result.now ≡ flat_map (take 1) (map (drop n) structs) = ap lent_cells c.deref.ensures.value ∙ c.in_ok-cells.ensures ∙ members_values n (lent_cells c.args.structs.now) ∙ heads_at n structs in
    few_step c.args.fields.now structs n c.index-fields-place.result (lent_cells c.deref.result.now) c.loop-place-test.true c.index-fields-place.is here (OnTrue_at c.if-not-branch.false c.in_ok-columns_are_few.ensures.yes) c.loop-place.invariant
