use Rattle.std.proofs.Common.{◌≡◌, map, ◌+◌, ◌*◌, ◌<◌, Some, [], ◌∷◌, ◌++◌, string_bytes, refl, sym, ap, ◌∙◌, subst, arith, add-one}
use Rattle.std.proofs.lemmas.Result.{err_from_is_err_and}
use Rattle.std.proofs.lemmas.List.{map-append}
use Rattle.serde_json.specs.Data.{array}
use Rattle.serde_json.specs.Find.{get}
use Rattle.serde_json.specs.View.{view as json_view, items_view}
use Rattle.orc_values.specs.Shapes.{width, widths, names_of}
use Rattle.orc_values.specs.Cells.{cells_of, pairs_of}
use Rattle.orc_values.specs.Views.{view, views, paired, shape, fields as fields_view}
use Rattle.orc_json_rows.specs.FieldNames.{are_distinct}
use Rattle.orc_json_rows.specs.KnownKeys.{one_if_some, count_keys}
use Rattle.orc_json_rows.specs.JsonRows.{JsonSpells, PairsSpell, EachSpells, MemberSpells, FieldsSpell}
use Rattle.orc_json_rows.specs.JsonFaults.{FaultAt, PairFault, Somewhere, InElement}
use Rattle.orc_values.proofs.ByColumn.{width_within}
use Rattle.orc_json_rows.proofs.JsonFronts.{pairs_more, pairs_all, pairs_spell, map_fault, elements_more, elements_all, element_at, fields_more, fields_all, in_field, array_spells, object_read, array_fault, object_fault, object_unknown}
use Rattle.orc_json_rows.proofs.Names.{distinct_at, count_more, count_none, one_at_most}
use Rattle.orc_json_rows.proofs.json_reading.+reading.Goals as goal
use Rattle.orc_json_rows.proofs.json_reading.+reading.Goals.{fields_of-in-None, fields_of-in-Some+in_ok-row-in-Some}

pub elements_of-returns-in_err-row_of-clause-fault : goal.elements_of-returns-in_err-row_of-clause-fault
elements_of-returns-in_err-row_of-clause-fault t c =
    let p = err_from_is_err_and c.from_residual-in_err-row_of.result c.from_residual-in_err-row_of.ensures.1 in
    rw (p.1, p.2, ← c.deref-item-items.ensures.value) (λ memory. (c.loop-item.item-index, json_view c.item-item.result, element_at c.deref-item-items.result.now c.loop-item.item-index c.item-item.result c.loop-item-test.true c.item-item.is, c.in_err-row_of.ensures.fault memory))

pub elements_of-loop-item-preserved : goal.elements_of-loop-item-preserved
elements_of-loop-item-preserved t c =
    let pushed : views c.push.new.self.items ≡ views c.loop-item.rows.items ++ view c.in_ok-row_of.field-0 ∷ [] = ap views c.in_ok-push.ensures.items ∙ map-append view c.loop-item.rows.items (c.in_ok-row_of.field-0 ∷ []) in
    rw (pushed, add-one) (elements_more (JsonSpells (shape c.args.tree.now)) c.deref-item-items.result.now c.loop-item.item-index c.item-item.result (views c.loop-item.rows.items) (view c.in_ok-row_of.field-0) c.loop-item-test.true c.item-item.is c.in_ok-row_of.ensures.found c.loop-item.invariant)

pub elements_of-returns-clause-found : goal.elements_of-returns-clause-found
elements_of-returns-clause-found t c =
    subst (λ js. EachSpells (JsonSpells (shape c.args.tree.now)) (items_view js) (cells_of (views c.loop-item.rows.items))) c.deref-item-items.ensures.value
    (elements_all (JsonSpells (shape c.args.tree.now)) c.deref-item-items.result.now c.loop-item.item-index (views c.loop-item.rows.items) (omega (arith, c.loop-item-test.false)) c.loop-item.invariant)

pub fields_of-row_of-requires : goal.fields_of-row_of-requires
fields_of-row_of-requires t c =
    let w = width_within c.deref-field-items.result.now c.loop-field.field-index c.field-item.result c.loop-field-test.true c.field-item.is in
    let e = ap (λ fs. widths (fields_view fs)) c.deref-field-items.ensures.value in
    let g : 2 * width (shape c.field-item.result.tree) < t = omega (arith, c.decreases, w, e) in
    let e2 = ap (λ fs. are_distinct (fields_view fs)) c.deref-field-items.ensures.value in
    (g, distinct_at c.deref-field-items.result.now c.loop-field.field-index c.field-item.result c.loop-field-test.true c.field-item.is (e2 ∙ c.requires))

pub fields_of-returns-in_err-row-in-Some-clause-fault : goal.fields_of-returns-in_err-row-in-Some-clause-fault
fields_of-returns-in_err-row-in-Some-clause-fault t c =
    let p = err_from_is_err_and c.from_residual-in_err-row-in-Some.result c.from_residual-in_err-row-in-Some.ensures.1 in
    let there : get (string_bytes c.field-item.result.name) (json_view c.args.json.now) ≡ Some (json_view c.in-Some.member.now) = ap (λ n. get n (json_view c.args.json.now)) (sym c.as_str.ensures.value) ∙ sym c.in-Some.ensures in
    rw (p.1, p.2, ← c.deref-field-items.ensures.value)
    (λ memory. in_field (FaultAt c.in_err-row-in-Some.field-0.0) c.deref-field-items.result.now (json_view c.args.json.now) (json_view c.in-Some.member.now) c.loop-field.field-index c.field-item.result c.loop-field-test.true c.field-item.is there (c.in_err-row-in-Some.ensures.fault memory))

pub fields_of-loop-field-preserved : goal.fields_of-loop-field-preserved
fields_of-loop-field-preserved t c =
    let named = ap (λ n. get n (json_view c.args.json.now)) (sym c.as_str.ensures.value) in
    let found : MemberSpells (λ e x. JsonSpells (shape c.field-item.result.tree) e x) (get (string_bytes c.field-item.result.name) (json_view c.args.json.now)) (view c.match-get.row) =
    elim c.match-get.branch [
      | fields_of-in-None w ↦ rw (named, ← w.in-None.ensures, w.row-is) refl
      | fields_of-in-Some+in_ok-row-in-Some w ↦ rw (named, ← w.in-Some.ensures, w.row-is) w.in_ok-row-in-Some.ensures.found
    ] in
    let pushed : views c.push.new.self.items ≡ views c.loop-field.rows.items ++ view c.match-get.row ∷ [] = ap views c.in_ok-push.ensures.items ∙ map-append view c.loop-field.rows.items (c.match-get.row ∷ []) in
    let hit : c.match-get.known ≡ c.loop-field.known + one_if_some (get (string_bytes c.field-item.result.name) (json_view c.args.json.now)) =
    elim c.match-get.branch [
      | fields_of-in-None w ↦ rw (named, ← w.in-None.ensures, w.known-is) (omega arith)
      | fields_of-in-Some+in_ok-row-in-Some w ↦ rw (named, ← w.in-Some.ensures, w.known-is) refl
    ] in
    let rest = count_more c.deref-field-items.result.now (json_view c.args.json.now) c.loop-field.field-index c.field-item.result c.loop-field-test.true c.field-item.is in
    rw (pushed, add-one) (
      fields_more c.deref-field-items.result.now (json_view c.args.json.now) c.loop-field.field-index c.field-item.result (views c.loop-field.rows.items) (view c.match-get.row) c.loop-field-test.true c.field-item.is found c.loop-field.invariant.0,
      omega (arith, hit, rest, c.loop-field.invariant.1),
      omega (arith, hit, one_at_most (get (string_bytes c.field-item.result.name) (json_view c.args.json.now)), c.loop-field.invariant.2),
    )

pub fields_of-returns-clause-known : goal.fields_of-returns-clause-known
fields_of-returns-clause-known t c =
    let none = count_none c.deref-field-items.result.now (json_view c.args.json.now) c.loop-field.field-index (omega (arith, c.loop-field-test.false)) in
    let known : c.loop-field.known ≡ count_keys (names_of (fields_view c.deref-field-items.result.now)) (json_view c.args.json.now) = omega (arith, none, c.loop-field.invariant.1) in
    subst (λ fs. c.loop-field.known ≡ count_keys (names_of (fields_view fs)) (json_view c.args.json.now)) c.deref-field-items.ensures.value known

pub fields_of-returns-clause-found : goal.fields_of-returns-clause-found
fields_of-returns-clause-found t c =
    subst (λ fs. FieldsSpell (fields_view fs) (json_view c.args.json.now) (cells_of (views c.loop-field.rows.items))) c.deref-field-items.ensures.value
    (fields_all c.deref-field-items.result.now (json_view c.args.json.now) c.loop-field.field-index (views c.loop-field.rows.items) (omega (arith, c.loop-field-test.false)) c.loop-field.invariant.0)

pub row_of-returns-in_err-elements_of-in-Array-clause-fault : goal.row_of-returns-in_err-elements_of-in-Array-clause-fault
row_of-returns-in_err-elements_of-in-Array-clause-fault t c =
    let p = err_from_is_err_and c.from_residual.result c.from_residual.ensures.1 in
    rw (p.1, p.2) (λ memory. array_fault (FaultAt c.in_err-elements_of-in-Array.field-0.0) c.args.tree.now c.in-List.element c.in-List.field-1 c.args.json.now c.in-Array.items c.in-List.is c.in-Array.is
    (subst (λ x. InElement (Somewhere (FaultAt c.in_err-elements_of-in-Array.field-0.0) (shape x)) (array (items_view c.in-Array.items.items))) c.deref.ensures (c.in_err-elements_of-in-Array.ensures.fault memory)))

pub row_of-returns-in_ok-elements_of-in-Array-clause-found : goal.row_of-returns-in_ok-elements_of-in-Array-clause-found
row_of-returns-in_ok-elements_of-in-Array-clause-found t c =
    array_spells c.args.tree.now c.in-List.element c.in-List.field-1 c.args.json.now c.in-Array.items c.in_ok-elements_of-in-Array.field-0 c.in-List.is c.in-Array.is
    (subst (λ x. EachSpells (JsonSpells (shape x)) (items_view c.in-Array.items.items) (cells_of (views c.in_ok-elements_of-in-Array.field-0.items))) c.deref.ensures c.in_ok-elements_of-in-Array.ensures.found)

pub row_of-returns-else-known-len-clause-found : goal.row_of-returns-else-known-len-clause-found
row_of-returns-else-known-len-clause-found t c =
    object_read c.args.tree.now c.in-Struct.fields c.in-Struct.field-1 c.args.json.now c.in-Object.members c.in_ok-rows-in-Object.rows c.in_ok-rows-in-Object.known c.len.result
    c.in-Struct.is c.in-Object.is c.requires c.len.ensures.ordered c.in_ok-rows-in-Object.ensures.known c.len.ensures.len c.if-known-len.false c.in_ok-rows-in-Object.ensures.found

pub row_of-returns-then-known-len-clause-fault : goal.row_of-returns-then-known-len-clause-fault
row_of-returns-then-known-len-clause-fault t c = λ memory.
    object_unknown c.args.tree.now c.in-Struct.fields c.in-Struct.field-1 c.args.json.now c.in-Object.members c.in_ok-rows-in-Object.known c.len.result
    c.in-Struct.is c.in-Object.is c.requires c.len.ensures.ordered c.in_ok-rows-in-Object.ensures.known c.len.ensures.len c.if-known-len.true

pub row_of-returns-in_err-rows-in-Object-clause-fault : goal.row_of-returns-in_err-rows-in-Object-clause-fault
row_of-returns-in_err-rows-in-Object-clause-fault t c =
    let p = err_from_is_err_and c.from_residual-in_err-rows-in-Object.result c.from_residual-in_err-rows-in-Object.ensures.1 in
    rw (p.1, p.2) (λ memory. object_fault (FaultAt c.in_err-rows-in-Object.field-0.0) c.args.tree.now c.in-Struct.fields c.in-Struct.field-1 (json_view c.args.json.now) c.in-Struct.is (c.in_err-rows-in-Object.ensures.fault memory))

pub pairs_from-returns-in_err-pair_from-clause-fault : goal.pairs_from-returns-in_err-pair_from-clause-fault
pairs_from-returns-in_err-pair_from-clause-fault t c =
    let p = err_from_is_err_and c.from_residual-in_err-pair_from.result c.from_residual-in_err-pair_from.ensures.1 in
    rw (p.1, p.2, ← c.deref-item-items.ensures.value) (λ memory. (c.loop-item.item-index, json_view c.item-item.result, element_at c.deref-item-items.result.now c.loop-item.item-index c.item-item.result c.loop-item-test.true c.item-item.is, c.in_err-pair_from.ensures.fault memory))

pub pairs_from-loop-item-preserved : goal.pairs_from-loop-item-preserved
pairs_from-loop-item-preserved t c =
    let pushed : map paired c.push.new.self.items ≡ map paired c.loop-item.pairs.items ++ paired c.in_ok-pair_from.field-0 ∷ [] = ap (map paired) c.in_ok-push.ensures.items ∙ map-append paired c.loop-item.pairs.items (c.in_ok-pair_from.field-0 ∷ []) in
    rw (pushed, add-one) (pairs_more (JsonSpells (shape c.args.key.now)) (JsonSpells (shape c.args.value.now)) c.deref-item-items.result.now c.loop-item.item-index c.item-item.result (map paired c.loop-item.pairs.items) c.in_ok-pair_from.field-0 c.loop-item-test.true c.item-item.is c.in_ok-pair_from.ensures.found c.loop-item.invariant)

pub pairs_from-returns-clause-found : goal.pairs_from-returns-clause-found
pairs_from-returns-clause-found t c =
    subst (λ js. PairsSpell (JsonSpells (shape c.args.key.now)) (JsonSpells (shape c.args.value.now)) (items_view js) (pairs_of (map paired c.loop-item.pairs.items))) c.deref-item-items.ensures.value
    (pairs_all (JsonSpells (shape c.args.key.now)) (JsonSpells (shape c.args.value.now)) c.deref-item-items.result.now c.loop-item.item-index (map paired c.loop-item.pairs.items) (omega (arith, c.loop-item-test.false)) c.loop-item.invariant)

pub row_of-returns-in_err-pairs_from-in-Array-json-clause-fault : goal.row_of-returns-in_err-pairs_from-in-Array-json-clause-fault
row_of-returns-in_err-pairs_from-in-Array-json-clause-fault t c =
    let p = err_from_is_err_and c.from_residual-in_err-pairs_from-in-Array-json.result c.from_residual-in_err-pairs_from-in-Array-json.ensures.1 in
    let e = c.in_err-pairs_from-in-Array-json.field-0.0 in
    let js = array (items_view c.in-Array-json.items.items) in
    rw (p.1, p.2) (λ memory. map_fault e c.args.tree.now c.in-Map.key c.in-Map.value c.in-Map.field-2 c.args.json.now c.in-Array-json.items c.in-Map.is c.in-Array-json.is
    (subst (λ x. InElement (PairFault e (shape c.in-Map.key.value) (shape x)) js) c.deref-in-Array-json-2.ensures
    (subst (λ x. InElement (PairFault e (shape x) (shape c.deref-in-Array-json-2.result.now)) js) c.deref-in-Array-json.ensures (c.in_err-pairs_from-in-Array-json.ensures.fault memory))))

pub row_of-returns-in_ok-pairs_from-in-Array-json-clause-found : goal.row_of-returns-in_ok-pairs_from-in-Array-json-clause-found
row_of-returns-in_ok-pairs_from-in-Array-json-clause-found t c =
    let js = items_view c.in-Array-json.items.items in
    let ps = pairs_of (map paired c.in_ok-pairs_from-in-Array-json.field-0.items) in
    pairs_spell c.args.tree.now c.in-Map.key c.in-Map.value c.in-Map.field-2 c.args.json.now c.in-Array-json.items c.in_ok-pairs_from-in-Array-json.field-0 c.in-Map.is c.in-Array-json.is
    (subst (λ x. PairsSpell (JsonSpells (shape c.in-Map.key.value)) (JsonSpells (shape x)) js ps) c.deref-in-Array-json-2.ensures
    (subst (λ x. PairsSpell (JsonSpells (shape x)) (JsonSpells (shape c.deref-in-Array-json-2.result.now)) js ps) c.deref-in-Array-json.ensures c.in_ok-pairs_from-in-Array-json.ensures.found))
