use Rattle.std.proofs.Common.{true, inl, [], length, take, drop, ◌-◌, sym, ap, ◌∙◌, subst, arith, string_bytes}
use Rattle.std.proofs.lemmas.Result.{err_from_is_err_and}
use Rattle.orc_values.specs.Views.{shape}
use Rattle.orc_values.specs.Views.{fields as fields_view}
use Rattle.orc_values.proofs.Views.{shape-Scalar, shape-List, shape-Map, shape-Struct}
use Rattle.orc_column_reader.specs.Columns.{ScalarLeft}
use Rattle.orc_column_reader.specs.Numbers.{NumbersLeft}
use Rattle.orc_column_reader.proofs.Handed.{if_err, on_ok, on_err}
use Rattle.orc_row_reader.proofs.Arms.{first_field}
use Rattle.orc_values.proofs.Widths.{some_width}
use Rattle.orc_row_reader.proofs.Ends.{scalar_ended, list_ended, list_numbers, list_cells, map_ended, map_numbers, map_pairs, struct_ended, struct_fields, fields_ended, fields_first, fields_others, rest_of}
use Rattle.orc_column_reader.specs.RunsMet.{NumbersMeet, MarksMeet}
use Rattle.orc_column_reader.specs.ReaderFaults.{PresentMeets, ListsMeet}
use Rattle.orc_row_reader.proofs.FaultLemmas.{cell_mark, cell_over, own_struct_meets, lists_own, lists_size, lists_below, maps_own, maps_size, maps_below, fields_first_fault, fields_others_fault}
use Rattle.orc_column_reader.proofs.NeedLemmas.{always_end}
use Rattle.orc_row_reader.proofs.ending.+ending.Goals as goal

pub values_end-returns-then-not-numbers_end-clause-more : goal.values_end-returns-then-not-numbers_end-clause-more
values_end-returns-then-not-numbers_end-clause-more t c =
    λ h.
    let e = c.numbers_end.ensures in
    let f = rw c.if-not-numbers_end.true at e in
    f (subst (λ r. NumbersLeft r.source.numbers []) (sym c.index-readers-0.is) (list_numbers (shape c.args.tree.now) (shape c.in-List.element.value) c.in-List.field-1.items c.args.readers.now c.index-readers-0.result (ap shape c.in-List.is ∙ shape-List c.in-List.element c.in-List.field-1) h))

pub values_end-returns-else-not-numbers_end-clause-all : goal.values_end-returns-else-not-numbers_end-clause-all
values_end-returns-else-not-numbers_end-clause-all t c =
    on_ok c.cells_end.result c.cells_end.ensures.all (λ given.
    let w = some_width (shape c.args.tree.now) in
    let e = c.numbers_end.ensures in
    let f = rw c.if-not-numbers_end.false at e in
    let g = given in
    list_ended (shape c.args.tree.now) (shape c.in-List.element.value) c.in-List.field-1.items c.args.readers.now c.index-readers-0.result (ap shape c.in-List.is ∙ shape-List c.in-List.element c.in-List.field-1) (omega (arith, c.requires, w)) (subst (λ r. NumbersLeft r.source.numbers []) c.index-readers-0.is f) (rw c.deref.ensures at g))

pub values_end-returns-else-not-numbers_end-clause-more : goal.values_end-returns-else-not-numbers_end-clause-more
values_end-returns-else-not-numbers_end-clause-more t c =
    on_err c.cells_end.result c.cells_end.ensures.more (λ given h.
    let g = given in
    let k = rw c.deref.ensures at g in
    k (list_cells (shape c.args.tree.now) (shape c.in-List.element.value) c.in-List.field-1.items c.args.readers.now (ap shape c.in-List.is ∙ shape-List c.in-List.element c.in-List.field-1) h))

pub values_end-returns-in-Struct-clause-all : goal.values_end-returns-in-Struct-clause-all
values_end-returns-in-Struct-clause-all t c =
    on_ok c.fields_end.result c.fields_end.ensures.all (λ given.
    let w = some_width (shape c.args.tree.now) in
    let g = given in
    struct_ended (shape c.args.tree.now) (fields_view c.in-Struct.fields.items) c.in-Struct.field-1.items c.args.readers.now (ap shape c.in-Struct.is ∙ shape-Struct c.in-Struct.fields c.in-Struct.field-1) (omega (arith, c.requires, w)) (rw c.deref-in-Struct.ensures.value at g))

pub values_end-returns-in-Struct-clause-more : goal.values_end-returns-in-Struct-clause-more
values_end-returns-in-Struct-clause-more t c =
    on_err c.fields_end.result c.fields_end.ensures.more (λ given h.
    let g = given in
    let k = rw c.deref-in-Struct.ensures.value at g in
    k (struct_fields (shape c.args.tree.now) (fields_view c.in-Struct.fields.items) c.in-Struct.field-1.items c.args.readers.now (ap shape c.in-Struct.is ∙ shape-Struct c.in-Struct.fields c.in-Struct.field-1) h))

pub fields_end-returns-in_ok-cells_end-in-len1-up-clause-all : goal.fields_end-returns-in_ok-cells_end-in-len1-up-clause-all
fields_end-returns-in_ok-cells_end-in-len1-up-clause-all t c =
    on_ok c.fields_end.result c.fields_end.ensures.all (λ given.
    fields_ended (fields_view c.args.fields.now) (string_bytes c.first-item.result.name) (shape c.first-item.result.tree) (fields_view (take (length c.args.fields.now - 1) (drop 1 c.args.fields.now))) c.args.readers.now _ _ (first_field c.args.fields.now c.first-item.result c.in-len1-up.len_at_least c.first-item.is) (ap (λ k. take k c.args.readers.now) c.width_of-own.ensures) (rest_of c.width_of-own.result c.args.readers.now ∙ ap (λ k. drop k c.args.readers.now) c.width_of-own.ensures) c.in_ok-cells_end-in-len1-up.ensures.all given)

pub fields_end-returns-in_ok-cells_end-in-len1-up-clause-more : goal.fields_end-returns-in_ok-cells_end-in-len1-up-clause-more
fields_end-returns-in_ok-cells_end-in-len1-up-clause-more t c =
    on_err c.fields_end.result c.fields_end.ensures.more (λ given h.
    given (fields_others (fields_view c.args.fields.now) (string_bytes c.first-item.result.name) (shape c.first-item.result.tree) (fields_view (take (length c.args.fields.now - 1) (drop 1 c.args.fields.now))) c.args.readers.now _ (first_field c.args.fields.now c.first-item.result c.in-len1-up.len_at_least c.first-item.is) (rest_of c.width_of-own.result c.args.readers.now ∙ ap (λ k. drop k c.args.readers.now) c.width_of-own.ensures) h))

pub fields_end-returns-in_err-cells_end-in-len1-up-clause-more : goal.fields_end-returns-in_err-cells_end-in-len1-up-clause-more
fields_end-returns-in_err-cells_end-in-len1-up-clause-more t c =
    let p = err_from_is_err_and c.from_residual.result c.from_residual.ensures.1 in
    rw p.1 (λ h.
    c.in_err-cells_end-in-len1-up.ensures.more (fields_first (fields_view c.args.fields.now) (string_bytes c.first-item.result.name) (shape c.first-item.result.tree) (fields_view (take (length c.args.fields.now - 1) (drop 1 c.args.fields.now))) c.args.readers.now _ (first_field c.args.fields.now c.first-item.result c.in-len1-up.len_at_least c.first-item.is) (ap (λ k. take k c.args.readers.now) c.width_of-own.ensures) h))

pub cells_end-returns-then-not-marks_end-clause-fault : goal.cells_end-returns-then-not-marks_end-clause-fault
cells_end-returns-then-not-marks_end-clause-fault t c =
    let w = some_width (shape c.args.tree.now) in
    cell_mark (shape c.args.tree.now) c.args.readers.now c.index-readers-0.result true 0 c.run_fault.result (omega (arith, c.requires, w))
    (subst (λ r. PresentMeets r true 0 c.run_fault.result) c.index-readers-0.is
    (c.marks_left.result, c.run_fault.ensures.same c.marks_left.ensures.no_memory, c.marks_left.ensures.no_memory, always_end (MarksMeet c.index-readers-0.result.present) c.marks_left.result c.marks_left.ensures.met))

pub cells_end-returns-clause-fault : goal.cells_end-returns-clause-fault
cells_end-returns-clause-fault t c =
    if_err c.values_end.result c.values_end.ensures.fault (λ cause given.
    cell_over (shape c.args.tree.now) c.args.readers.now cause given)

pub values_end-returns-else-not-numbers_end-clause-fault : goal.values_end-returns-else-not-numbers_end-clause-fault
values_end-returns-else-not-numbers_end-clause-fault t c =
    if_err c.cells_end.result c.cells_end.ensures.fault (λ cause given.
    let w = some_width (shape c.args.tree.now) in
    let f = given in
    lists_own (shape c.args.tree.now) (shape c.in-List.element.value) c.in-List.field-1.items c.args.readers.now true 0 cause (ap shape c.in-List.is ∙ shape-List c.in-List.element c.in-List.field-1)
    (lists_below (shape c.in-List.element.value) c.args.readers.now cause (omega (arith, c.requires, w)) (rw c.deref.ensures at f)))

pub values_end-returns-in-Struct-clause-fault : goal.values_end-returns-in-Struct-clause-fault
values_end-returns-in-Struct-clause-fault t c =
    if_err c.fields_end.result c.fields_end.ensures.fault (λ cause given.
    let w = some_width (shape c.args.tree.now) in
    let f = given in
    own_struct_meets (shape c.args.tree.now) (fields_view c.in-Struct.fields.items) c.in-Struct.field-1.items c.args.readers.now true 0 cause
    (ap shape c.in-Struct.is ∙ shape-Struct c.in-Struct.fields c.in-Struct.field-1) (omega (arith, c.requires, w)) (rw c.deref-in-Struct.ensures.value at f))

pub fields_end-returns-in_err-cells_end-in-len1-up-clause-fault : goal.fields_end-returns-in_err-cells_end-in-len1-up-clause-fault
fields_end-returns-in_err-cells_end-in-len1-up-clause-fault t c =
    let p = err_from_is_err_and c.from_residual.result c.from_residual.ensures.1 in
    rw (p.1, p.2) (fields_first_fault (fields_view c.args.fields.now) (string_bytes c.first-item.result.name) (shape c.first-item.result.tree) (fields_view (take (length c.args.fields.now - 1) (drop 1 c.args.fields.now))) c.args.readers.now _ true 0 c.in_err-cells_end-in-len1-up.field-0.0
    (first_field c.args.fields.now c.first-item.result c.in-len1-up.len_at_least c.first-item.is) (ap (λ k. take k c.args.readers.now) c.width_of-own.ensures) c.in_err-cells_end-in-len1-up.ensures.fault)

pub fields_end-returns-in_ok-cells_end-in-len1-up-clause-fault : goal.fields_end-returns-in_ok-cells_end-in-len1-up-clause-fault
fields_end-returns-in_ok-cells_end-in-len1-up-clause-fault t c =
    if_err c.fields_end.result c.fields_end.ensures.fault (λ cause given.
    fields_others_fault (fields_view c.args.fields.now) (string_bytes c.first-item.result.name) (shape c.first-item.result.tree) (fields_view (take (length c.args.fields.now - 1) (drop 1 c.args.fields.now))) c.args.readers.now _ true 0 cause
    (first_field c.args.fields.now c.first-item.result c.in-len1-up.len_at_least c.first-item.is) (rest_of c.width_of-own.result c.args.readers.now ∙ ap (λ k. drop k c.args.readers.now) c.width_of-own.ensures) given)

pub values_end-returns-else-not-scalar_end-clause-all : goal.values_end-returns-else-not-scalar_end-clause-all
values_end-returns-else-not-scalar_end-clause-all t c =
    let w = some_width (shape c.args.tree.now) in
    scalar_ended (shape c.args.tree.now) c.in-Scalar.kind c.in-Scalar.field-1.items c.args.readers.now c.index-readers-0.result (ap shape c.in-Scalar.is ∙ shape-Scalar c.in-Scalar.kind c.in-Scalar.field-1) (omega (arith, c.requires, w))
    (subst (λ r. ScalarLeft c.in-Scalar.kind r.source []) c.index-readers-0.is c.if-not-scalar_end.ensures)

pub values_end-returns-then-not-numbers_end-clause-fault : goal.values_end-returns-then-not-numbers_end-clause-fault
values_end-returns-then-not-numbers_end-clause-fault t c =
    let w = some_width (shape c.args.tree.now) in
    lists_own (shape c.args.tree.now) (shape c.in-List.element.value) c.in-List.field-1.items c.args.readers.now true 0 c.run_fault.result (ap shape c.in-List.is ∙ shape-List c.in-List.element c.in-List.field-1)
    (lists_size (shape c.in-List.element.value) c.args.readers.now c.index-readers-0.result true 0 c.run_fault.result (omega (arith, c.requires, w))
    (subst (λ r. ListsMeet r.source true 0 c.run_fault.result) c.index-readers-0.is
    (inl (c.numbers_left.result, c.run_fault.ensures.same c.numbers_left.ensures.no_memory, c.numbers_left.ensures.no_memory, always_end (NumbersMeet c.index-readers-0.result.source.numbers) c.numbers_left.result c.numbers_left.ensures.met))))

-- ---- maps

pub values_end-returns-then-not-numbers_end-2-clause-more : goal.values_end-returns-then-not-numbers_end-2-clause-more
values_end-returns-then-not-numbers_end-2-clause-more t c =
    λ h.
    let e = c.numbers_end-in-Map.ensures in
    let f = rw c.if-not-numbers_end-2.true at e in
    f (subst (λ r. NumbersLeft r.source.numbers []) (sym c.index-readers-0.is) (map_numbers (shape c.args.tree.now) (shape c.in-Map.key.value) (shape c.in-Map.value.value) c.in-Map.field-2.items c.args.readers.now c.index-readers-0.result (ap shape c.in-Map.is ∙ shape-Map c.in-Map.key c.in-Map.value c.in-Map.field-2) h))

pub values_end-returns-then-not-numbers_end-2-clause-fault : goal.values_end-returns-then-not-numbers_end-2-clause-fault
values_end-returns-then-not-numbers_end-2-clause-fault t c =
    let w = some_width (shape c.args.tree.now) in
    let left = c.numbers_left-then-not-numbers_end-2.ensures in
    let fault = c.run_fault-then-not-numbers_end-2.result in
    maps_own (shape c.args.tree.now) (shape c.in-Map.key.value) (shape c.in-Map.value.value) c.in-Map.field-2.items c.args.readers.now true 0 fault (ap shape c.in-Map.is ∙ shape-Map c.in-Map.key c.in-Map.value c.in-Map.field-2)
    (maps_size (shape c.in-Map.key.value) (shape c.in-Map.value.value) c.args.readers.now c.index-readers-0.result true 0 fault (omega (arith, c.requires, w))
    (subst (λ r. ListsMeet r.source true 0 fault) c.index-readers-0.is
    (inl (c.numbers_left-then-not-numbers_end-2.result, c.run_fault-then-not-numbers_end-2.ensures.same left.no_memory, left.no_memory, always_end (NumbersMeet c.index-readers-0.result.source.numbers) c.numbers_left-then-not-numbers_end-2.result left.met))))

pub values_end-returns-else-not-numbers_end-2-clause-all : goal.values_end-returns-else-not-numbers_end-2-clause-all
values_end-returns-else-not-numbers_end-2-clause-all t c =
    on_ok c.pairs_end.result c.pairs_end.ensures.all (λ given.
    let w = some_width (shape c.args.tree.now) in
    let e = c.numbers_end-in-Map.ensures in
    let f = rw c.if-not-numbers_end-2.false at e in
    let g = given in
    map_ended (shape c.args.tree.now) (shape c.in-Map.key.value) (shape c.in-Map.value.value) c.in-Map.field-2.items c.args.readers.now c.index-readers-0.result (ap shape c.in-Map.is ∙ shape-Map c.in-Map.key c.in-Map.value c.in-Map.field-2) (omega (arith, c.requires, w))
    (subst (λ r. NumbersLeft r.source.numbers []) c.index-readers-0.is f) (rw (c.deref-in-Map.ensures, c.deref-in-Map-2.ensures) at g))

pub values_end-returns-else-not-numbers_end-2-clause-more : goal.values_end-returns-else-not-numbers_end-2-clause-more
values_end-returns-else-not-numbers_end-2-clause-more t c =
    on_err c.pairs_end.result c.pairs_end.ensures.more (λ given h.
    let g = given in
    let k = rw (c.deref-in-Map.ensures, c.deref-in-Map-2.ensures) at g in
    k (map_pairs (shape c.args.tree.now) (shape c.in-Map.key.value) (shape c.in-Map.value.value) c.in-Map.field-2.items c.args.readers.now (ap shape c.in-Map.is ∙ shape-Map c.in-Map.key c.in-Map.value c.in-Map.field-2) h))

pub values_end-returns-else-not-numbers_end-2-clause-fault : goal.values_end-returns-else-not-numbers_end-2-clause-fault
values_end-returns-else-not-numbers_end-2-clause-fault t c =
    if_err c.pairs_end.result c.pairs_end.ensures.fault (λ cause given.
    let w = some_width (shape c.args.tree.now) in
    let f = given in
    maps_own (shape c.args.tree.now) (shape c.in-Map.key.value) (shape c.in-Map.value.value) c.in-Map.field-2.items c.args.readers.now true 0 cause (ap shape c.in-Map.is ∙ shape-Map c.in-Map.key c.in-Map.value c.in-Map.field-2)
    (maps_below (shape c.in-Map.key.value) (shape c.in-Map.value.value) c.args.readers.now cause (omega (arith, c.requires, w)) (rw (c.deref-in-Map.ensures, c.deref-in-Map-2.ensures) at f)))
