use Rattle.std.proofs.Common.{rules, List, ℕ, ◌≡◌, [], ◌∷◌, ◌++◌, map, ap, ◌∙◌, arith, string_bytes}
use Rattle.std.proofs.lemmas.Result.{err_from_is_err_and}
use Rattle.std.proofs.lemmas.List.{map-append}
use Rattle.orc_values.specs.Views.{name_and_type, shape, fields}
use Rattle.orc_values.proofs.Views.{name_and_type-is, shape-List, shape-Map, shape-Struct}
use Rattle.orc_trees.specs.SchemaText.{comma, colon, name_text}
use Rattle.orc_trees.proofs.NameFronts.{string_name}
use Rattle.orc_trees.proofs.TextFronts.{map_front, key_fault, value_fault, array_front, struct_front, no_front, array_fault, sign_fault, no_sign, struct_fault, name_fault, type_fault, reached_none, reached_more, none_yet, field_fault}
use Rattle.orc_trees.proofs.schema_text.+front.Goals as goal

pub tree_from-returns-in_err-fields-clause-fault : goal.tree_from-returns-in_err-fields-clause-fault
tree_from-returns-in_err-fields-clause-fault t c =
    let p = err_from_is_err_and c.from_residual-in_err-fields.result c.from_residual-in_err-fields.ensures.1 in
    rw (p.1, p.2) (struct_fault c.args.text.now c.in-Some-text_behind-2.inner.now c.args.levels c.in_err-fields.field-0.0 (omega arith) c.in-Some-text_behind-2.ensures c.in_err-fields.ensures.fault)

pub tree_from-returns-in-Some-text_behind-2-clause-found : goal.tree_from-returns-in-Some-text_behind-2-clause-found
tree_from-returns-in-Some-text_behind-2-clause-found t c =
    rw (shape-Struct c.in_ok-fields.fields c.new-in-Some-text_behind-2.result, c.new-in-Some-text_behind-2.ensures.items)
    (struct_front c.args.text.now c.in-Some-text_behind-2.inner.now c.args.levels (fields c.in_ok-fields.fields.items) c.in_ok-fields.rest.now (omega arith) c.in-Some-text_behind-2.ensures c.in_ok-fields.ensures.found)

pub tree_from-returns-in_default-kind_from-clause-fault : goal.tree_from-returns-in_default-kind_from-clause-fault
tree_from-returns-in_default-kind_from-clause-fault t c =
    (omega arith, no_front c.args.text.now (c.in_default.ensures) (c.in_default-text_behind.ensures) (c.in_default-text_behind-2.ensures) (c.in_default-kind_from.ensures.none))

pub field_from-returns-in_err-name-clause-fault : goal.field_from-returns-in_err-name-clause-fault
field_from-returns-in_err-name-clause-fault t c =
    let p = err_from_is_err_and c.from_residual.result c.from_residual.ensures.1 in
    rw (p.1, p.2) (name_fault c.args.text.now c.in-Some.named.now c.args.first c.args.levels c.in_err-name.field-0.0 c.in-Some.ensures c.in_err-name.ensures.fault)

pub field_from-returns-in_err-tree-clause-fault : goal.field_from-returns-in_err-tree-clause-fault
field_from-returns-in_err-tree-clause-fault t c =
    let p = err_from_is_err_and c.from_residual-in_err-tree.result c.from_residual-in_err-tree.ensures.1 in
    rw (p.1, p.2) (type_fault c.args.text.now c.in-Some.named.now c.in_ok-name.inner.now c.args.first c.args.levels (string_bytes c.in_ok-name.name) c.in_err-tree.field-0.0 c.in-Some.ensures c.in_ok-name.ensures.found (string_name c.in_ok-name.name) c.in_err-tree.ensures.fault)

pub fields_from-loop-rest-init : goal.fields_from-loop-rest-init
fields_from-loop-rest-init t c = (search rules, rw c.new-fields.ensures.items (reached_none c.args.text.now c.args.levels))

pub fields_from-returns-in_err-field-clause-fault : goal.fields_from-returns-in_err-field-clause-fault
fields_from-returns-in_err-field-clause-fault t c =
    let p = err_from_is_err_and c.from_residual.result c.from_residual.ensures.1 in
    rw (p.1, p.2) (field_fault c.args.text.now c.args.levels (map name_and_type c.loop-rest.fields.items) c.loop-rest.left.now c.is_empty.result c.in_err-field.field-0.0 (c.is_empty.ensures ∙ none_yet c.loop-rest.fields.items _ (c.loop-rest.fields.ok.0)) (c.in_default.ensures) c.loop-rest.invariant.1 c.in_err-field.ensures.fault)

pub fields_from-loop-rest-preserved : goal.fields_from-loop-rest-preserved
fields_from-loop-rest-preserved t c =
    let one = c.in_ok-field.field in
    let pushed : map name_and_type c.push.new.self.items ≡ map name_and_type c.loop-rest.fields.items ++ (string_bytes one.name, shape one.tree) ∷ [] =
    ap (map name_and_type) c.in_ok-push.ensures.items ∙ map-append name_and_type c.loop-rest.fields.items (one ∷ []) ∙ ap (λ g. map name_and_type c.loop-rest.fields.items ++ g ∷ []) (name_and_type-is one) in
    (search rules, rw pushed (reached_more c.args.text.now c.args.levels (map name_and_type c.loop-rest.fields.items) c.loop-rest.left.now c.is_empty.result (string_bytes one.name) (shape one.tree) c.in_ok-field.rest.now (c.is_empty.ensures ∙ none_yet c.loop-rest.fields.items _ (c.loop-rest.fields.ok.0)) c.in_ok-field.ensures.found c.loop-rest.invariant.1))

pub tree_from-returns-in_err-element-clause-fault : goal.tree_from-returns-in_err-element-clause-fault
tree_from-returns-in_err-element-clause-fault t c =
    let p = err_from_is_err_and c.from_residual.result c.from_residual.ensures.1 in
    rw (p.1, p.2) (array_fault c.args.text.now c.in-Some.inner.now c.args.levels c.in_err-element.field-0.0 (omega arith) c.in-Some.ensures c.in_err-element.ensures.fault)

pub tree_from-returns-in-Some-clause-found : goal.tree_from-returns-in-Some-clause-found
tree_from-returns-in-Some-clause-found t c =
    rw (shape-List c.in_ok-element.element c.new.result, c.new.ensures.items)
    (array_front c.args.text.now c.in-Some.inner.now c.args.levels (shape c.in_ok-element.element.value) c.in_ok-element.rest.now (omega arith) c.in-Some.ensures c.in_ok-element.ensures.found)

pub tree_from-returns-in_err-key-clause-fault : goal.tree_from-returns-in_err-key-clause-fault
tree_from-returns-in_err-key-clause-fault t c =
    let p = err_from_is_err_and c.from_residual-in_err-key.result c.from_residual-in_err-key.ensures.1 in
    rw (p.1, p.2) (key_fault c.args.text.now c.in-Some-text_behind.inner.now c.args.levels c.in_err-key.field-0.0 (omega arith) c.in-Some-text_behind.ensures c.in_err-key.ensures.fault)

pub tree_from-returns-in_err-value-clause-fault : goal.tree_from-returns-in_err-value-clause-fault
tree_from-returns-in_err-value-clause-fault t c =
    let p = err_from_is_err_and c.from_residual-in_err-value.result c.from_residual-in_err-value.ensures.1 in
    rw (p.1, p.2) (value_fault c.args.text.now c.in-Some-text_behind.inner.now c.in_ok-key.second.now c.args.levels (shape c.in_ok-key.key.value) c.in_err-value.field-0.0 (omega arith)
    c.in-Some-text_behind.ensures c.in_ok-key.ensures.found c.in_err-value.ensures.fault)

pub tree_from-returns-in-Some-text_behind-clause-found : goal.tree_from-returns-in-Some-text_behind-clause-found
tree_from-returns-in-Some-text_behind-clause-found t c =
    rw (shape-Map c.in_ok-key.key c.in_ok-value.value c.new-in-Some-text_behind.result, c.new-in-Some-text_behind.ensures.items)
    (map_front c.args.text.now c.in-Some-text_behind.inner.now c.args.levels (shape c.in_ok-key.key.value) c.in_ok-key.second.now (shape c.in_ok-value.value.value) c.in_ok-value.rest.now (omega arith)
    c.in-Some-text_behind.ensures c.in_ok-key.ensures.found c.in_ok-value.ensures.found)

pub tree_before-returns-in_err-tree-clause-fault : goal.tree_before-returns-in_err-tree-clause-fault
tree_before-returns-in_err-tree-clause-fault t c =
    let p = err_from_is_err_and c.from_residual.result c.from_residual.ensures.1 in
    rw (p.1, p.2) (sign_fault c.args.text.now c.args.sign.now c.args.levels c.in_err-tree.field-0.0 c.in_err-tree.ensures.fault)

pub tree_before-returns-in-None-clause-fault : goal.tree_before-returns-in-None-clause-fault
tree_before-returns-in-None-clause-fault t c =
    no_sign c.args.text.now c.args.sign.now c.args.levels (shape c.in_ok-tree.tree) c.in_ok-tree.left.now c.in_ok-tree.ensures.found c.in-None.ensures

pub field_from-returns-clause-found : goal.field_from-returns-clause-found
field_from-returns-clause-found t c = record {
  named = string_name c.in_ok-name.name;
  plain = c.in_ok-tree.ensures.found.plain;
  depth = c.in_ok-tree.ensures.found.depth;
  spelled = c.in-Some.ensures ∙ ap (λ (r : List ℕ). comma c.args.first ++ r) (c.in_ok-name.ensures.found ∙ ap (λ (r : List ℕ). name_text (string_bytes c.in_ok-name.name) ++ (colon ++ r)) c.in_ok-tree.ensures.found.spelled);
}
