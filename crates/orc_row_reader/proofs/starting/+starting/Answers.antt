use Rattle.std.proofs.Common.{rules, ◌≡◌, ◌+◌, arith, length, take, drop, ◌-◌, string_bytes, false, inl, inr, sym, ap, ◌∙◌, subst}
use Rattle.std.proofs.lemmas.Result.{err_from_is_err_and}
use Rattle.orc_values.specs.Views.{shape}
use Rattle.orc_values.specs.Shapes.{width}
use Rattle.orc_values.specs.Views.{fields as fields_view}
use Rattle.orc_values.proofs.Views.{shape-List, shape-Map, shape-Struct}
use Rattle.orc_column_reader.specs.Stripe.{columns_of}
use Rattle.orc_column_reader.specs.Faults.{FaultWithin}
use Rattle.orc_column_reader.specs.Starting.{OwnStart, HasNoDictionary, IsOf}
use Rattle.orc_column_reader.proofs.Handed.{if_err, on_ok}
use Rattle.orc_row_reader.proofs.Arms.{first_field}
use Rattle.orc_row_reader.proofs.Started.{no_own, pushed, counted_behind, put_list, put_map, put_struct, put_more, no_element, no_key, no_value, no_struct, no_others}
use Rattle.orc_row_reader.proofs.FaultLemmas.{down_list, down_key, down_value, down_struct}
use Rattle.orc_row_reader.proofs.starting.+starting.Goals as goal

pub put_tree-returns-in-List-clause-found : goal.put_tree-returns-in-List-clause-found
put_tree-returns-in-List-clause-found t c =
    on_ok c.put_tree.result c.put_tree.ensures.found (λ given.
    let n : c.len.result ≡ length c.args.readers.now.items = search rules in
    let h = subst (λ k. OwnStart (shape c.args.tree.now) (columns_of c.args.footer.now c.args.located.now.bytes.now k) c.in_ok-own.own) n c.in_ok-own.ensures.found in
    let i : IsOf (shape c.args.tree.now) (columns_of c.args.footer.now c.args.located.now.bytes.now) (length c.args.readers.now.items) c.in_ok-own.own = (h, c.in_ok-own.ensures.column ∙ n) in
    let f = given in
    put_list c.args.footer.now c.args.located.now.bytes.now (shape c.args.tree.now) (shape c.in-List.element.value) c.in-List.field-1.items c.args.readers.now.items c.push.new.self.items c.put_tree.new.readers.items c.in_ok-own.own
    (ap shape c.in-List.is ∙ shape-List c.in-List.element c.in-List.field-1) c.in_ok-push.ensures.items h i (rw c.deref.ensures at f))

pub put_tree-returns-in-List-clause-none : goal.put_tree-returns-in-List-clause-none
put_tree-returns-in-List-clause-none t c =
    if_err c.put_tree.result c.put_tree.ensures.none (λ cause given memory cells.
    let f = given memory in
    no_element c.args.footer.now c.args.located.now.bytes.now (shape c.args.tree.now) (shape c.in-List.element.value) c.in-List.field-1.items c.args.readers.now.items c.push.new.self.items c.in_ok-own.own cells
    (ap shape c.in-List.is ∙ shape-List c.in-List.element c.in-List.field-1) c.in_ok-push.ensures.items (rw c.deref.ensures at f))

pub put_tree-returns-in-Struct-clause-found : goal.put_tree-returns-in-Struct-clause-found
put_tree-returns-in-Struct-clause-found t c =
    on_ok c.put_fields.result c.put_fields.ensures.found (λ given.
    let n : c.len.result ≡ length c.args.readers.now.items = search rules in
    let h = subst (λ k. OwnStart (shape c.args.tree.now) (columns_of c.args.footer.now c.args.located.now.bytes.now k) c.in_ok-own.own) n c.in_ok-own.ensures.found in
    let i : IsOf (shape c.args.tree.now) (columns_of c.args.footer.now c.args.located.now.bytes.now) (length c.args.readers.now.items) c.in_ok-own.own = (h, c.in_ok-own.ensures.column ∙ n) in
    let f = given in
    put_struct c.args.footer.now c.args.located.now.bytes.now (shape c.args.tree.now) (fields_view c.in-Struct.fields.items) c.in-Struct.field-1.items c.args.readers.now.items c.push.new.self.items c.put_fields.new.readers.items c.in_ok-own.own
    (ap shape c.in-Struct.is ∙ shape-Struct c.in-Struct.fields c.in-Struct.field-1) c.in_ok-push.ensures.items h i (rw c.deref-in-Struct.ensures.value at f))

pub put_tree-returns-in-Struct-clause-none : goal.put_tree-returns-in-Struct-clause-none
put_tree-returns-in-Struct-clause-none t c =
    if_err c.put_fields.result c.put_fields.ensures.none (λ cause given memory cells.
    let f = given memory in
    no_struct c.args.footer.now c.args.located.now.bytes.now (shape c.args.tree.now) (fields_view c.in-Struct.fields.items) c.in-Struct.field-1.items c.args.readers.now.items c.push.new.self.items c.in_ok-own.own cells
    (ap shape c.in-Struct.is ∙ shape-Struct c.in-Struct.fields c.in-Struct.field-1) c.in_ok-push.ensures.items (rw c.deref-in-Struct.ensures.value at f))

pub put_fields-returns-in_ok-put_tree-in-len1-up-clause-found : goal.put_fields-returns-in_ok-put_tree-in-len1-up-clause-found
put_fields-returns-in_ok-put_tree-in-len1-up-clause-found t c =
    on_ok c.put_fields.result c.put_fields.ensures.found (λ given.
    put_more c.args.footer.now c.args.located.now.bytes.now (fields_view c.args.fields.now) (string_bytes c.first-item.result.name) (shape c.first-item.result.tree) (fields_view (take (length c.args.fields.now - 1) (drop 1 c.args.fields.now))) c.args.readers.now.items c.put_tree.new.readers.items c.put_fields.new.readers.items
    (first_field c.args.fields.now c.first-item.result c.in-len1-up.len_at_least c.first-item.is) c.in_ok-put_tree-in-len1-up.ensures.found given)

pub put_fields-returns-in_ok-put_tree-in-len1-up-clause-none : goal.put_fields-returns-in_ok-put_tree-in-len1-up-clause-none
put_fields-returns-in_ok-put_tree-in-len1-up-clause-none t c =
    if_err c.put_fields.result c.put_fields.ensures.none (λ cause given memory structs.
    no_others c.args.footer.now c.args.located.now.bytes.now (fields_view c.args.fields.now) (string_bytes c.first-item.result.name) (shape c.first-item.result.tree) (fields_view (take (length c.args.fields.now - 1) (drop 1 c.args.fields.now))) c.args.readers.now.items c.put_tree.new.readers.items structs
    (first_field c.args.fields.now c.first-item.result c.in-len1-up.len_at_least c.first-item.is) c.in_ok-put_tree-in-len1-up.ensures.found (given memory))

pub put_tree-returns-in-List-clause-fault : goal.put_tree-returns-in-List-clause-fault
put_tree-returns-in-List-clause-fault t c =
    if_err c.put_tree.result c.put_tree.ensures.fault (λ cause given memory n.
    let f = given memory in
    down_list (shape c.args.tree.now) (shape c.in-List.element.value) c.in-List.field-1.items (columns_of c.args.footer.now c.args.located.now.bytes.now) (length c.args.readers.now.items) (length c.push.new.self.items) n cause
    (ap shape c.in-List.is ∙ shape-List c.in-List.element c.in-List.field-1) (pushed c.args.readers.now.items c.in_ok-own.own c.push.new.self.items c.in_ok-push.ensures.items) (rw c.deref.ensures at f))

pub put_tree-returns-in_err-own-clause-none : goal.put_tree-returns-in_err-own-clause-none
put_tree-returns-in_err-own-clause-none t c =
    let p = err_from_is_err_and c.from_residual.result c.from_residual.ensures.1 in
    rw (p.1, p.2) (λ memory cells.
    let n : c.len.result ≡ length c.args.readers.now.items = search rules in
    let none = subst (λ k. HasNoDictionary (shape c.args.tree.now) (columns_of c.args.footer.now c.args.located.now.bytes.now k)) n (c.in_err-own.ensures.none memory) in
    no_own c.args.footer.now c.args.located.now.bytes.now (length c.args.readers.now.items) (shape c.args.tree.now) cells none)

pub put_tree-returns-in-Struct-clause-fault : goal.put_tree-returns-in-Struct-clause-fault
put_tree-returns-in-Struct-clause-fault t c =
    if_err c.put_fields.result c.put_fields.ensures.fault (λ cause given memory n.
    let f = given memory in
    down_struct (shape c.args.tree.now) (fields_view c.in-Struct.fields.items) c.in-Struct.field-1.items (columns_of c.args.footer.now c.args.located.now.bytes.now) (length c.args.readers.now.items) (length c.push.new.self.items) n cause
    (ap shape c.in-Struct.is ∙ shape-Struct c.in-Struct.fields c.in-Struct.field-1) (pushed c.args.readers.now.items c.in_ok-own.own c.push.new.self.items c.in_ok-push.ensures.items) (rw c.deref-in-Struct.ensures.value at f))

pub put_tree-returns-in_ok-put_tree-in-Map-clause-found : goal.put_tree-returns-in_ok-put_tree-in-Map-clause-found
put_tree-returns-in_ok-put_tree-in-Map-clause-found t c =
    on_ok c.put_tree-in-Map-2.result c.put_tree-in-Map-2.ensures.found (λ given.
    let n : c.len.result ≡ length c.args.readers.now.items = search rules in
    let h = subst (λ k. OwnStart (shape c.args.tree.now) (columns_of c.args.footer.now c.args.located.now.bytes.now k) c.in_ok-own.own) n c.in_ok-own.ensures.found in
    let i : IsOf (shape c.args.tree.now) (columns_of c.args.footer.now c.args.located.now.bytes.now) (length c.args.readers.now.items) c.in_ok-own.own = (h, c.in_ok-own.ensures.column ∙ n) in
    let f = c.in_ok-put_tree-in-Map.ensures.found in
    let g = given in
    put_map c.args.footer.now c.args.located.now.bytes.now (shape c.args.tree.now) (shape c.in-Map.key.value) (shape c.in-Map.value.value) c.in-Map.field-2.items c.args.readers.now.items c.push.new.self.items c.put_tree-in-Map.new.readers.items c.put_tree-in-Map-2.new.readers.items c.in_ok-own.own
    (ap shape c.in-Map.is ∙ shape-Map c.in-Map.key c.in-Map.value c.in-Map.field-2) c.in_ok-push.ensures.items h i (rw c.deref-in-Map.ensures at f) (rw c.deref-in-Map-2.ensures at g))

pub put_tree-returns-in_err-put_tree-in-Map-clause-none : goal.put_tree-returns-in_err-put_tree-in-Map-clause-none
put_tree-returns-in_err-put_tree-in-Map-clause-none t c =
    let p = err_from_is_err_and c.from_residual-in_err-put_tree-in-Map.result c.from_residual-in_err-put_tree-in-Map.ensures.1 in
    rw (p.1, p.2) (λ memory cells.
    let f = c.in_err-put_tree-in-Map.ensures.none memory in
    no_key c.args.footer.now c.args.located.now.bytes.now (shape c.args.tree.now) (shape c.in-Map.key.value) (shape c.in-Map.value.value) c.in-Map.field-2.items c.args.readers.now.items c.push.new.self.items c.in_ok-own.own cells
    (ap shape c.in-Map.is ∙ shape-Map c.in-Map.key c.in-Map.value c.in-Map.field-2) c.in_ok-push.ensures.items (rw c.deref-in-Map.ensures at f))

pub put_tree-returns-in_ok-put_tree-in-Map-clause-none : goal.put_tree-returns-in_ok-put_tree-in-Map-clause-none
put_tree-returns-in_ok-put_tree-in-Map-clause-none t c =
    if_err c.put_tree-in-Map-2.result c.put_tree-in-Map-2.ensures.none (λ cause given memory cells.
    let f = c.in_ok-put_tree-in-Map.ensures.found in
    let g = given memory in
    no_value c.args.footer.now c.args.located.now.bytes.now (shape c.args.tree.now) (shape c.in-Map.key.value) (shape c.in-Map.value.value) c.in-Map.field-2.items c.args.readers.now.items c.push.new.self.items c.put_tree-in-Map.new.readers.items c.in_ok-own.own cells
    (ap shape c.in-Map.is ∙ shape-Map c.in-Map.key c.in-Map.value c.in-Map.field-2) c.in_ok-push.ensures.items (rw c.deref-in-Map.ensures at f) (rw c.deref-in-Map-2.ensures at g))

pub put_tree-returns-in_err-put_tree-in-Map-clause-fault : goal.put_tree-returns-in_err-put_tree-in-Map-clause-fault
put_tree-returns-in_err-put_tree-in-Map-clause-fault t c =
    let p = err_from_is_err_and c.from_residual-in_err-put_tree-in-Map.result c.from_residual-in_err-put_tree-in-Map.ensures.1 in
    rw (p.1, p.2) (λ memory n.
    let f = c.in_err-put_tree-in-Map.ensures.fault memory in
    down_key (shape c.args.tree.now) (shape c.in-Map.key.value) (shape c.in-Map.value.value) c.in-Map.field-2.items (columns_of c.args.footer.now c.args.located.now.bytes.now) (length c.args.readers.now.items) (length c.push.new.self.items) n c.in_err-put_tree-in-Map.field-0.0
    (ap shape c.in-Map.is ∙ shape-Map c.in-Map.key c.in-Map.value c.in-Map.field-2) (pushed c.args.readers.now.items c.in_ok-own.own c.push.new.self.items c.in_ok-push.ensures.items) (rw c.deref-in-Map.ensures at f))

pub put_tree-returns-in_ok-put_tree-in-Map-clause-fault : goal.put_tree-returns-in_ok-put_tree-in-Map-clause-fault
put_tree-returns-in_ok-put_tree-in-Map-clause-fault t c =
    if_err c.put_tree-in-Map-2.result c.put_tree-in-Map-2.ensures.fault (λ cause given memory n.
    let f = c.in_ok-put_tree-in-Map.ensures.found in
    let g = given memory in
    let one = pushed c.args.readers.now.items c.in_ok-own.own c.push.new.self.items c.in_ok-push.ensures.items in
    let keys = counted_behind c.args.footer.now c.args.located.now.bytes.now (shape c.in-Map.key.value) c.push.new.self.items c.put_tree-in-Map.new.readers.items (rw c.deref-in-Map.ensures at f) in
    let all : length c.put_tree-in-Map.new.readers.items ≡ length c.args.readers.now.items + 1 + width (shape c.in-Map.key.value) = omega (arith, one, keys) in
    down_value (shape c.args.tree.now) (shape c.in-Map.key.value) (shape c.in-Map.value.value) c.in-Map.field-2.items (columns_of c.args.footer.now c.args.located.now.bytes.now) (length c.args.readers.now.items) (length c.put_tree-in-Map.new.readers.items) n cause
    (ap shape c.in-Map.is ∙ shape-Map c.in-Map.key c.in-Map.value c.in-Map.field-2) all (rw c.deref-in-Map-2.ensures at g))

pub put_fields-returns-in_err-put_tree-in-len1-up-clause-fault : goal.put_fields-returns-in_err-put_tree-in-len1-up-clause-fault
put_fields-returns-in_err-put_tree-in-len1-up-clause-fault t c =
    let p = err_from_is_err_and c.from_residual.result c.from_residual.ensures.1 in
    let columns = columns_of c.args.footer.now c.args.located.now.bytes.now in
    let others = fields_view (take (length c.args.fields.now - 1) (drop 1 c.args.fields.now)) in
    let e = first_field c.args.fields.now c.first-item.result c.in-len1-up.len_at_least c.first-item.is in
    rw (p.1, p.2) (λ memory n. subst (λ fs. FaultWithin fs columns (length c.args.readers.now.items) false n c.in_err-put_tree-in-len1-up.field-0.0) (sym e) (inl (c.in_err-put_tree-in-len1-up.ensures.fault memory n)))

pub put_fields-returns-in_ok-put_tree-in-len1-up-clause-fault : goal.put_fields-returns-in_ok-put_tree-in-len1-up-clause-fault
put_fields-returns-in_ok-put_tree-in-len1-up-clause-fault t c =
    let columns = columns_of c.args.footer.now c.args.located.now.bytes.now in
    let others = fields_view (take (length c.args.fields.now - 1) (drop 1 c.args.fields.now)) in
    let e = first_field c.args.fields.now c.first-item.result c.in-len1-up.len_at_least c.first-item.is in
    let behind = counted_behind c.args.footer.now c.args.located.now.bytes.now (shape c.first-item.result.tree) c.args.readers.now.items c.put_tree.new.readers.items c.in_ok-put_tree-in-len1-up.ensures.found in
    if_err c.put_fields.result c.put_fields.ensures.fault (λ cause met memory n.
    subst (λ fs. FaultWithin fs columns (length c.args.readers.now.items) false n cause) (sym e) (inr (subst (λ k. FaultWithin others columns k false n cause) behind (met memory n))))
