use Rattle.std.proofs.Common.{rules, ◌≡◌, ℕ, suc, ◌+◌, false, inr, subst, [], ◌∷◌, map, length, take, drop, ◌-◌, ◌++◌, append-nil, string_bytes, get_or, sym, ap, ◌∙◌, arith}
use Rattle.std.specs.Prelude.{Option}
use Rattle.std.proofs.lemmas.Result.{err_from_is_err_and}
use Rattle.orc_values.specs.Cells.{struct, cells_of}
use Rattle.orc_values.specs.Shapes.{width}
use Rattle.orc_values.specs.declared.value.MapPair.{roll-MapPair, the_lemmas}
use Rattle.orc_values.specs.declared.value.Value.{Value}
use Rattle.orc_values.specs.Views.{view, views, paired, cell_of_value, shape}
use Rattle.orc_values.specs.Views.{fields as fields_view}
use Rattle.orc_values.proofs.Views.{shape-Scalar, shape-List, shape-Map, shape-Struct, view-List, view-Map, view-Struct, paired-is}
use Rattle.orc_column_reader.specs.Columns.{CellsLeft, PairsLeft}
use Rattle.orc_column_reader.proofs.Handed.{if_ok_both, if_err, on_ok}
use Rattle.orc_row_reader.proofs.Arms.{value_is, own_scalar, pair_lacks, fields_put, fields_behind, cell_value, cell_null, cell_lacks, own_list, own_list_lacks, own_map, own_map_lacks, own_struct, own_struct_lacks, list_taken, list_lacking, map_taken, map_lacking, cells_more, cells_counted, pairs_more, pairs_counted, pair_next, first_counted, no_fields, first_field, fields_none, fields_next, fields_lack_first, fields_lack_others, fields_counted, cells_joined}
use Rattle.orc_column_reader.proofs.Fronts.{cells_lacking}
use Rattle.orc_values.proofs.Widths.{some_width}
use Rattle.orc_column_reader.specs.ReaderFaults.{CellsMeet, PairsMeet}
use Rattle.orc_row_reader.proofs.FaultLemmas.{scalar_before, cell_before, null_before, cell_now, cell_mark, list_before, lists_own, own_lists, struct_before, own_struct_meets, fields_before, lists_size, lists_elements, map_before, maps_own, own_maps, maps_size, maps_pairs, pair_before, fields_first_fault, fields_others_fault}
use Rattle.orc_row_reader.proofs.reader.+reader.Goals as goal

pub next_cells-loop-taken-preserved : goal.next_cells-loop-taken-preserved
next_cells-loop-taken-preserved t c = (
  cells_more (CellsLeft (shape c.args.tree.now) c.args.readers.now) (CellsLeft (shape c.args.tree.now) c.loop-taken.readers) (CellsLeft (shape c.args.tree.now) c.next_cell.new.readers)
      c.loop-taken.rows.items c.push.new.self.items c.in_ok-row.row c.in_ok-push.ensures.items c.loop-taken.invariant.0 c.in_ok-row.ensures.found,
  cells_counted c.loop-taken.rows.items c.push.new.self.items c.in_ok-row.row c.loop-taken.taken c.in_ok-push.ensures.items c.loop-taken.invariant.1,
  search rules,
  λ all n f h.
      let e : c.loop-taken.taken + suc n ≡ c.loop-taken.taken + 1 + n = omega arith in
      subst (λ k. CellsMeet (shape c.args.tree.now) c.args.readers.now all k f) e (c.loop-taken.invariant.3 all (suc n) f (c.in_ok-row.ensures.before all n f h)),
)

pub next_cells-returns-in_err-row-clause-none : goal.next_cells-returns-in_err-row-clause-none
next_cells-returns-in_err-row-clause-none t c =
    let p = err_from_is_err_and c.from_residual.result c.from_residual.ensures.1 in
    rw (p.1, p.2) (λ memory. cells_lacking (CellsLeft (shape c.args.tree.now) c.args.readers.now) (CellsLeft (shape c.args.tree.now) c.loop-taken.readers) (views c.loop-taken.rows.items) c.loop-taken.taken c.args.count
    c.loop-taken.invariant.1 c.loop-taken-test.true c.loop-taken.invariant.0 (c.in_err-row.ensures.none memory))

pub next_cells-returns-clause-found : goal.next_cells-returns-clause-found
next_cells-returns-clause-found t c = c.loop-taken.invariant.0

pub next_cells-returns-clause-counted : goal.next_cells-returns-clause-counted
next_cells-returns-clause-counted t c =
    let i = c.loop-taken.invariant.1 in let e = c.loop-taken.auto.taken-end in omega (arith, i, e, c.loop-taken-test.false)

pub next_fields-returns-in-empty-clause-found : goal.next_fields-returns-in-empty-clause-found
next_fields-returns-in-empty-clause-found t c =
    ([], sym (append-nil (views c.args.cells.now.items)), fields_none (fields_view c.args.fields.now) c.args.readers.now (no_fields c.args.fields.now c.in-empty.len_below))

pub next_fields-returns-in_ok-push-in-len1-up-clause-found : goal.next_fields-returns-in_ok-push-in-len1-up-clause-found
next_fields-returns-in_ok-push-in-len1-up-clause-found t c =
    let e = first_field c.args.fields.now c.first-item.result c.in-len1-up.len_at_least c.first-item.is in
    let we = c.width_of-own.ensures in
    let l : length c.next_cell.new.readers ≡ c.width_of-own.result = fields_counted (fields_view c.args.fields.now) (string_bytes c.first-item.result.name) (shape c.first-item.result.tree) (fields_view (take (length c.args.fields.now - 1) (drop 1 c.args.fields.now))) c.args.readers.now c.next_cell.new.readers c.width_of-own.result e we c.requires c.next_cell.auto.readers in
    on_ok c.next_fields.result c.next_fields.ensures.found (λ f. (
      view c.in_ok-cell-in-len1-up.cell ∷ f.0,
      cells_joined c.args.cells.now.items c.push.new.self.items c.next_fields.new.cells.items c.in_ok-cell-in-len1-up.cell f.0 c.in_ok-push-in-len1-up.ensures.items f.1,
      fields_next (fields_view c.args.fields.now) (string_bytes c.first-item.result.name) (shape c.first-item.result.tree) (fields_view (take (length c.args.fields.now - 1) (drop 1 c.args.fields.now))) c.args.readers.now _ (take c.width_of-own.result c.args.readers.now) c.next_cell.new.readers _ c.next_fields.new.readers (view c.in_ok-cell-in-len1-up.cell) f.0
          e (ap (λ k. take k c.args.readers.now) we) (fields_behind c.width_of-own.result c.args.readers.now c.next_cell.new.readers l ∙ ap (λ k. drop k c.args.readers.now) we)
          (fields_put c.width_of-own.result c.args.readers.now c.next_cell.new.readers c.next_fields.new.readers l) (l ∙ we) c.in_ok-cell-in-len1-up.ensures.found f.2,
    ))

pub next_fields-returns-in_err-cell-in-len1-up-clause-none : goal.next_fields-returns-in_err-cell-in-len1-up-clause-none
next_fields-returns-in_err-cell-in-len1-up-clause-none t c =
    let p = err_from_is_err_and c.from_residual.result c.from_residual.ensures.1 in
    rw (p.1, p.2) (λ memory.
    fields_lack_first (fields_view c.args.fields.now) (string_bytes c.first-item.result.name) (shape c.first-item.result.tree) (fields_view (take (length c.args.fields.now - 1) (drop 1 c.args.fields.now))) c.args.readers.now (take c.width_of-own.result c.args.readers.now)
    (first_field c.args.fields.now c.first-item.result c.in-len1-up.len_at_least c.first-item.is) (ap (λ k. take k c.args.readers.now) c.width_of-own.ensures) (c.in_err-cell-in-len1-up.ensures.none memory))

pub next_fields-returns-in_ok-push-in-len1-up-clause-none : goal.next_fields-returns-in_ok-push-in-len1-up-clause-none
next_fields-returns-in_ok-push-in-len1-up-clause-none t c =
    let e = first_field c.args.fields.now c.first-item.result c.in-len1-up.len_at_least c.first-item.is in
    let we = c.width_of-own.ensures in
    let l : length c.next_cell.new.readers ≡ c.width_of-own.result = fields_counted (fields_view c.args.fields.now) (string_bytes c.first-item.result.name) (shape c.first-item.result.tree) (fields_view (take (length c.args.fields.now - 1) (drop 1 c.args.fields.now))) c.args.readers.now c.next_cell.new.readers c.width_of-own.result e we c.requires c.next_cell.auto.readers in
    if_err c.next_fields.result c.next_fields.ensures.none (λ cause none memory.
    fields_lack_others (fields_view c.args.fields.now) (string_bytes c.first-item.result.name) (shape c.first-item.result.tree) (fields_view (take (length c.args.fields.now - 1) (drop 1 c.args.fields.now))) c.args.readers.now _ e (fields_behind c.width_of-own.result c.args.readers.now c.next_cell.new.readers l ∙ ap (λ k. drop k c.args.readers.now) we) (none memory))

pub next_cell-returns-clause-found : goal.next_cell-returns-clause-found
next_cell-returns-clause-found t c =
    let w = some_width (shape c.args.tree.now) in
    let f = c.in_ok-next_present.ensures.found in
    cell_value (shape c.args.tree.now) c.args.readers.now c.next_value.new.readers c.next_present.new.reader c.index-readers-0.result (cell_of_value c.in_ok-value.value) (value_is c.in_ok-value.value) (omega (arith, c.requires, w)) c.next_value.auto.readers
    c.in_ok-next_present.ensures.source (rw c.if-not-branch.false at f) c.in_ok-value.ensures.found c.in_ok-value.ensures.marks

pub next_cell-returns-in_err-value-clause-none : goal.next_cell-returns-in_err-value-clause-none
next_cell-returns-in_err-value-clause-none t c =
    let p = err_from_is_err_and c.from_residual-in_err-value.result c.from_residual-in_err-value.ensures.1 in
    rw (p.1, p.2) (λ memory.
    let w = some_width (shape c.args.tree.now) in
    let f = c.in_ok-next_present.ensures.found in
    cell_lacks (shape c.args.tree.now) c.args.readers.now c.next_present.new.reader c.index-readers-0.result (omega (arith, c.requires, w))
    c.in_ok-next_present.ensures.source (rw c.if-not-branch.false at f) (c.in_err-value.ensures.none memory))

pub next_cell-returns-then-not-branch-clause-found : goal.next_cell-returns-then-not-branch-clause-found
next_cell-returns-then-not-branch-clause-found t c =
    let w = some_width (shape c.args.tree.now) in
    let f = c.in_ok-next_present.ensures.found in
    cell_null (shape c.args.tree.now) c.args.readers.now c.next_present.new.reader c.index-readers-0.result (omega (arith, c.requires, w))
    c.in_ok-next_present.ensures.source (rw c.if-not-branch.true at f)

pub next_list-returns-clause-found : goal.next_list-returns-clause-found
next_list-returns-clause-found t c =
    if_ok_both c.next_cells.result c.next_cells.ensures.counted c.next_cells.ensures.found
    (λ answer counted found. list_taken (shape c.args.element.now) c.args.readers.now c.next_cells.new.readers (record { present = (get_or c.args.readers.now 0 c.index-readers-0.result).present; source = c.next_size.new.source }) c.index-readers-0.result c.in_ok-size.size (views answer.items) (omega (arith, c.requires))
    c.in_ok-size.ensures.found c.in_ok-size.ensures.room.0 c.in_ok-size.ensures.room.1 counted found)

pub next_list-returns-clause-none : goal.next_list-returns-clause-none
next_list-returns-clause-none t c =
    if_err c.next_cells.result c.next_cells.ensures.none
    (λ cause none memory. list_lacking (shape c.args.element.now) c.args.readers.now (record { present = (get_or c.args.readers.now 0 c.index-readers-0.result).present; source = c.next_size.new.source }) c.index-readers-0.result c.in_ok-size.size c.in_ok-size.ensures.found (none memory))

pub next_value-returns-in_ok-next_scalar-in-Scalar-clause-found : goal.next_value-returns-in_ok-next_scalar-in-Scalar-clause-found
next_value-returns-in_ok-next_scalar-in-Scalar-clause-found t c =
    let w = some_width (shape c.args.tree.now) in
    own_scalar (shape c.args.tree.now) c.in-Scalar.kind c.in-Scalar.field-1.items c.args.readers.now (record { present = (get_or c.args.readers.now 0 c.index-readers-0.result).present; source = c.next_scalar.new.self }) c.index-readers-0.result _ _
    (ap shape c.in-Scalar.is ∙ shape-Scalar c.in-Scalar.kind c.in-Scalar.field-1) c.value_of.ensures (omega (arith, c.requires, w)) c.in_ok-next_scalar-in-Scalar.ensures.found

pub next_value-returns-in_ok-next_scalar-in-Scalar-clause-before : goal.next_value-returns-in_ok-next_scalar-in-Scalar-clause-before
next_value-returns-in_ok-next_scalar-in-Scalar-clause-before t c = λ all n f h.
    let w = some_width (shape c.args.tree.now) in
    scalar_before (shape c.args.tree.now) c.in-Scalar.kind c.in-Scalar.field-1.items c.args.readers.now c.index-readers-0.result c.next_scalar.new.self all n f
    (ap shape c.in-Scalar.is ∙ shape-Scalar c.in-Scalar.kind c.in-Scalar.field-1) (omega (arith, c.requires, w)) (c.in_ok-next_scalar-in-Scalar.ensures.before all n f) h

pub next_value-returns-in_ok-next_list-in-List-clause-found : goal.next_value-returns-in_ok-next_list-in-List-clause-found
next_value-returns-in_ok-next_list-in-List-clause-found t c =
    let w = some_width (shape c.args.tree.now) in
    let f = c.in_ok-next_list-in-List.ensures.found in
    own_list (shape c.args.tree.now) (shape c.in-List.element.value) c.in-List.field-1.items c.args.readers.now c.next_list.new.readers (views c.in_ok-next_list-in-List.field-0.items) _
    (ap shape c.in-List.is ∙ shape-List c.in-List.element c.in-List.field-1) (view-List c.in_ok-next_list-in-List.field-0) (omega (arith, c.requires, w)) c.next_list.auto.readers (rw c.deref.ensures at f)

pub next_value-returns-in_err-next_list-in-List-clause-none : goal.next_value-returns-in_err-next_list-in-List-clause-none
next_value-returns-in_err-next_list-in-List-clause-none t c =
    let p = err_from_is_err_and c.from_residual-in_err-next_list-in-List.result c.from_residual-in_err-next_list-in-List.ensures.1 in
    rw (p.1, p.2) (λ memory.
    let f = c.in_err-next_list-in-List.ensures.none memory in
    own_list_lacks (shape c.args.tree.now) (shape c.in-List.element.value) c.in-List.field-1.items c.args.readers.now
    (ap shape c.in-List.is ∙ shape-List c.in-List.element c.in-List.field-1) (rw c.deref.ensures at f))

pub next_value-returns-in_ok-next_fields-in-Struct-clause-found : goal.next_value-returns-in_ok-next_fields-in-Struct-clause-found
next_value-returns-in_ok-next_fields-in-Struct-clause-found t c =
    let w = some_width (shape c.args.tree.now) in
    let f = c.in_ok-next_fields-in-Struct.ensures.found in
    let all : views c.next_fields.new.cells.items ≡ f.0 = f.1 ∙ ap (λ rs. views rs ++ f.0) c.in_ok-cells-in-Struct.ensures.items in
    let g = f.2 in
    own_struct (shape c.args.tree.now) (fields_view c.in-Struct.fields.items) c.in-Struct.field-1.items c.args.readers.now c.next_fields.new.readers f.0 _
    (ap shape c.in-Struct.is ∙ shape-Struct c.in-Struct.fields c.in-Struct.field-1) (view-Struct c.next_fields.new.cells ∙ ap (λ cs. struct (cells_of cs)) all) (omega (arith, c.requires, w)) (rw c.deref-in-Struct.ensures.value at g)

pub next_value-returns-in_err-next_fields-in-Struct-clause-none : goal.next_value-returns-in_err-next_fields-in-Struct-clause-none
next_value-returns-in_err-next_fields-in-Struct-clause-none t c =
    let p = err_from_is_err_and c.from_residual-in_err-next_fields-in-Struct.result c.from_residual-in_err-next_fields-in-Struct.ensures.1 in
    rw (p.1, p.2) (λ memory.
    let f = c.in_err-next_fields-in-Struct.ensures.none memory in
    own_struct_lacks (shape c.args.tree.now) (fields_view c.in-Struct.fields.items) c.in-Struct.field-1.items c.args.readers.now
    (ap shape c.in-Struct.is ∙ shape-Struct c.in-Struct.fields c.in-Struct.field-1) (rw c.deref-in-Struct.ensures.value at f))

pub next_cells-returns-in_err-row-clause-fault : goal.next_cells-returns-in_err-row-clause-fault
next_cells-returns-in_err-row-clause-fault t c =
    let p = err_from_is_err_and c.from_residual.result c.from_residual.ensures.1 in
    rw (p.1, p.2) (λ memory n.
    let more : ℕ = c.args.count + n - c.loop-taken.taken - 1 in
    let e : c.loop-taken.taken + suc more ≡ c.args.count + n = omega (arith, c.loop-taken-test.true) in
    subst (λ k. CellsMeet (shape c.args.tree.now) c.args.readers.now false k c.in_err-row.field-0.0) e (c.loop-taken.invariant.3 false (suc more) c.in_err-row.field-0.0 (c.in_err-row.ensures.fault memory more)))

pub next_cells-returns-clause-before : goal.next_cells-returns-clause-before
next_cells-returns-clause-before t c =
    λ all n f h.
    let e : c.loop-taken.taken + n ≡ c.args.count + n = omega (arith, c.loop-taken.auto.taken-end, c.loop-taken-test.false) in
    subst (λ k. CellsMeet (shape c.args.tree.now) c.args.readers.now all k f) e (c.loop-taken.invariant.3 all n f h)

pub next_cell-returns-in_err-value-clause-fault : goal.next_cell-returns-in_err-value-clause-fault
next_cell-returns-in_err-value-clause-fault t c =
    let p = err_from_is_err_and c.from_residual-in_err-value.result c.from_residual-in_err-value.ensures.1 in
    rw (p.1, p.2) (λ memory n.
    let w = some_width (shape c.args.tree.now) in
    let f = c.in_ok-next_present.ensures.first in
    cell_now (shape c.args.tree.now) c.args.readers.now c.next_present.new.reader c.index-readers-0.result n c.in_err-value.field-0.0 (omega (arith, c.requires, w)) c.in_ok-next_present.ensures.source (rw c.if-not-branch.false at f) (c.in_err-value.ensures.fault memory 0))

pub next_cell-returns-in_err-next_present-clause-fault : goal.next_cell-returns-in_err-next_present-clause-fault
next_cell-returns-in_err-next_present-clause-fault t c =
    let p = err_from_is_err_and c.from_residual.result c.from_residual.ensures.1 in
    rw (p.1, p.2) (λ memory n.
    let w = some_width (shape c.args.tree.now) in
    cell_mark (shape c.args.tree.now) c.args.readers.now c.index-readers-0.result false (suc n) c.in_err-next_present.field-0.0 (omega (arith, c.requires, w)) (c.in_err-next_present.ensures.fault memory n))

pub next_cell-returns-clause-before : goal.next_cell-returns-clause-before
next_cell-returns-clause-before t c =
    λ all n f h.
    let w = some_width (shape c.args.tree.now) in
    let first = c.in_ok-next_present.ensures.first in
    cell_before (shape c.args.tree.now) c.args.readers.now c.next_value.new.readers c.next_present.new.reader c.index-readers-0.result all n f (omega (arith, c.requires, w)) c.next_value.auto.readers
    c.in_ok-next_present.ensures.source (rw c.if-not-branch.false at first) c.in_ok-next_present.ensures.before c.in_ok-value.ensures.column c.in_ok-value.ensures.marks (λ v. c.in_ok-value.ensures.before all v f) h

pub next_cell-returns-then-not-branch-clause-before : goal.next_cell-returns-then-not-branch-clause-before
next_cell-returns-then-not-branch-clause-before t c =
    λ all n f h.
    let w = some_width (shape c.args.tree.now) in
    let first = c.in_ok-next_present.ensures.first in
    null_before (shape c.args.tree.now) c.args.readers.now c.next_present.new.reader c.index-readers-0.result all n f (omega (arith, c.requires, w)) c.in_ok-next_present.ensures.source (rw c.if-not-branch.true at first) c.in_ok-next_present.ensures.before h

pub next_list-returns-clause-fault : goal.next_list-returns-clause-fault
next_list-returns-clause-fault t c =
    if_err c.next_cells.result c.next_cells.ensures.fault
    (λ cause met memory n. lists_elements (shape c.args.element.now) c.args.readers.now c.index-readers-0.result (record { present = (get_or c.args.readers.now 0 c.index-readers-0.result).present; source = c.next_size.new.source }) n c.in_ok-size.size cause (omega (arith, c.requires)) c.in_ok-size.ensures.first (met memory 0))

pub next_list-returns-in_err-size-clause-fault : goal.next_list-returns-in_err-size-clause-fault
next_list-returns-in_err-size-clause-fault t c =
    let p = err_from_is_err_and c.from_residual.result c.from_residual.ensures.1 in
    rw (p.1, p.2) (λ memory n.
    lists_size (shape c.args.element.now) c.args.readers.now c.index-readers-0.result false (suc n) c.in_err-size.field-0.0 (omega (arith, c.requires)) (c.in_err-size.ensures.fault memory n))

pub next_list-returns-clause-before : goal.next_list-returns-clause-before
next_list-returns-clause-before t c =
    on_ok c.next_cells.result c.next_cells.ensures.before
    (λ met all n f h. list_before (shape c.args.element.now) c.args.readers.now c.next_cells.new.readers c.index-readers-0.result (record { present = (get_or c.args.readers.now 0 c.index-readers-0.result).present; source = c.next_size.new.source }) all n c.in_ok-size.size f (omega (arith, c.requires)) c.in_ok-size.ensures.first (c.in_ok-size.ensures.before all n f)
    (λ m. met all m f) h)

pub next_value-returns-in_err-next_list-in-List-clause-fault : goal.next_value-returns-in_err-next_list-in-List-clause-fault
next_value-returns-in_err-next_list-in-List-clause-fault t c =
    let p = err_from_is_err_and c.from_residual-in_err-next_list-in-List.result c.from_residual-in_err-next_list-in-List.ensures.1 in
    rw (p.1, p.2) (λ memory n.
    let f = c.in_err-next_list-in-List.ensures.fault memory n in
    lists_own (shape c.args.tree.now) (shape c.in-List.element.value) c.in-List.field-1.items c.args.readers.now false (suc n) c.in_err-next_list-in-List.field-0.0 (ap shape c.in-List.is ∙ shape-List c.in-List.element c.in-List.field-1) (rw c.deref.ensures at f))

pub next_value-returns-in_err-next_fields-in-Struct-clause-fault : goal.next_value-returns-in_err-next_fields-in-Struct-clause-fault
next_value-returns-in_err-next_fields-in-Struct-clause-fault t c =
    let p = err_from_is_err_and c.from_residual-in_err-next_fields-in-Struct.result c.from_residual-in_err-next_fields-in-Struct.ensures.1 in
    rw (p.1, p.2) (λ memory n.
    let w = some_width (shape c.args.tree.now) in
    let f = c.in_err-next_fields-in-Struct.ensures.fault memory n in
    own_struct_meets (shape c.args.tree.now) (fields_view c.in-Struct.fields.items) c.in-Struct.field-1.items c.args.readers.now false (suc n) c.in_err-next_fields-in-Struct.field-0.0 (ap shape c.in-Struct.is ∙ shape-Struct c.in-Struct.fields c.in-Struct.field-1) (omega (arith, c.requires, w)) (rw c.deref-in-Struct.ensures.value at f))

pub next_value-returns-in_ok-next_list-in-List-clause-before : goal.next_value-returns-in_ok-next_list-in-List-clause-before
next_value-returns-in_ok-next_list-in-List-clause-before t c =
    λ all n f h.
    let b = c.in_ok-next_list-in-List.ensures.before all n f in
    let k = rw c.deref.ensures at b in
    lists_own (shape c.args.tree.now) (shape c.in-List.element.value) c.in-List.field-1.items c.args.readers.now all (suc n) f (ap shape c.in-List.is ∙ shape-List c.in-List.element c.in-List.field-1)
    (k (own_lists (shape c.args.tree.now) (shape c.in-List.element.value) c.in-List.field-1.items c.next_list.new.readers all n f (ap shape c.in-List.is ∙ shape-List c.in-List.element c.in-List.field-1) h))

pub next_value-returns-in_ok-next_fields-in-Struct-clause-before : goal.next_value-returns-in_ok-next_fields-in-Struct-clause-before
next_value-returns-in_ok-next_fields-in-Struct-clause-before t c =
    λ all n f h.
    let w = some_width (shape c.args.tree.now) in
    let b = c.in_ok-next_fields-in-Struct.ensures.before all n f in
    struct_before (shape c.args.tree.now) (fields_view c.in-Struct.fields.items) c.in-Struct.field-1.items c.args.readers.now c.next_fields.new.readers all n f (ap shape c.in-Struct.is ∙ shape-Struct c.in-Struct.fields c.in-Struct.field-1) (omega (arith, c.requires, w)) (rw c.deref-in-Struct.ensures.value at b) h

pub next_fields-returns-in_err-cell-in-len1-up-clause-fault : goal.next_fields-returns-in_err-cell-in-len1-up-clause-fault
next_fields-returns-in_err-cell-in-len1-up-clause-fault t c =
    let p = err_from_is_err_and c.from_residual.result c.from_residual.ensures.1 in
    rw (p.1, p.2) (λ memory n.
    fields_first_fault (fields_view c.args.fields.now) (string_bytes c.first-item.result.name) (shape c.first-item.result.tree) (fields_view (take (length c.args.fields.now - 1) (drop 1 c.args.fields.now))) c.args.readers.now (take c.width_of-own.result c.args.readers.now) false (suc n) c.in_err-cell-in-len1-up.field-0.0
    (first_field c.args.fields.now c.first-item.result c.in-len1-up.len_at_least c.first-item.is) (ap (λ k. take k c.args.readers.now) c.width_of-own.ensures) (c.in_err-cell-in-len1-up.ensures.fault memory n))

pub next_fields-returns-in_ok-push-in-len1-up-clause-fault : goal.next_fields-returns-in_ok-push-in-len1-up-clause-fault
next_fields-returns-in_ok-push-in-len1-up-clause-fault t c =
    let e = first_field c.args.fields.now c.first-item.result c.in-len1-up.len_at_least c.first-item.is in
    let we = c.width_of-own.ensures in
    let l : length c.next_cell.new.readers ≡ c.width_of-own.result = fields_counted (fields_view c.args.fields.now) (string_bytes c.first-item.result.name) (shape c.first-item.result.tree) (fields_view (take (length c.args.fields.now - 1) (drop 1 c.args.fields.now))) c.args.readers.now c.next_cell.new.readers c.width_of-own.result e we c.requires c.next_cell.auto.readers in
    if_err c.next_fields.result c.next_fields.ensures.fault (λ cause met memory n.
    fields_others_fault (fields_view c.args.fields.now) (string_bytes c.first-item.result.name) (shape c.first-item.result.tree) (fields_view (take (length c.args.fields.now - 1) (drop 1 c.args.fields.now))) c.args.readers.now _ false (suc n) cause e (fields_behind c.width_of-own.result c.args.readers.now c.next_cell.new.readers l ∙ ap (λ k. drop k c.args.readers.now) we) (met memory n))

pub next_fields-returns-in_ok-push-in-len1-up-clause-before : goal.next_fields-returns-in_ok-push-in-len1-up-clause-before
next_fields-returns-in_ok-push-in-len1-up-clause-before t c =
    let e = first_field c.args.fields.now c.first-item.result c.in-len1-up.len_at_least c.first-item.is in
    let we = c.width_of-own.ensures in
    let l : length c.next_cell.new.readers ≡ c.width_of-own.result = fields_counted (fields_view c.args.fields.now) (string_bytes c.first-item.result.name) (shape c.first-item.result.tree) (fields_view (take (length c.args.fields.now - 1) (drop 1 c.args.fields.now))) c.args.readers.now c.next_cell.new.readers c.width_of-own.result e we c.requires c.next_cell.auto.readers in
    on_ok c.next_fields.result c.next_fields.ensures.before (λ met all n f h.
    fields_before (fields_view c.args.fields.now) (string_bytes c.first-item.result.name) (shape c.first-item.result.tree) (fields_view (take (length c.args.fields.now - 1) (drop 1 c.args.fields.now))) c.args.readers.now _ (take c.width_of-own.result c.args.readers.now) c.next_cell.new.readers _ c.next_fields.new.readers all n f
    e (ap (λ k. take k c.args.readers.now) we) (fields_behind c.width_of-own.result c.args.readers.now c.next_cell.new.readers l ∙ ap (λ k. drop k c.args.readers.now) we)
    (fields_put c.width_of-own.result c.args.readers.now c.next_cell.new.readers c.next_fields.new.readers l) (l ∙ we) (c.in_ok-cell-in-len1-up.ensures.before all n f) (met all n f) h)

-- ---- maps

pub next_pairs-loop-taken-preserved : goal.next_pairs-loop-taken-preserved
next_pairs-loop-taken-preserved t c =
    let k = shape c.args.key.now in
    let v = shape c.args.value.now in (
      pairs_more (PairsLeft k v c.args.readers.now) (PairsLeft k v c.loop-taken.readers) (PairsLeft k v c.next_pair.new.readers)
          c.loop-taken.pairs.items c.push.new.self.items c.in_ok-pair.pair c.in_ok-push.ensures.items c.loop-taken.invariant.0 c.in_ok-pair.ensures.found,
      pairs_counted c.loop-taken.pairs.items c.push.new.self.items c.in_ok-pair.pair c.loop-taken.taken c.in_ok-push.ensures.items c.loop-taken.invariant.1,
      search rules,
      λ all n f h.
          let e : c.loop-taken.taken + suc n ≡ c.loop-taken.taken + 1 + n = omega arith in
          subst (λ m. PairsMeet k v c.args.readers.now all m f) e (c.loop-taken.invariant.3 all (suc n) f (c.in_ok-pair.ensures.before all n f h)),
    )

pub next_pairs-returns-in_err-pair-clause-fault : goal.next_pairs-returns-in_err-pair-clause-fault
next_pairs-returns-in_err-pair-clause-fault t c =
    let p = err_from_is_err_and c.from_residual.result c.from_residual.ensures.1 in
    rw (p.1, p.2) (λ memory n.
    let more : ℕ = c.args.count + n - c.loop-taken.taken - 1 in
    let e : c.loop-taken.taken + suc more ≡ c.args.count + n = omega (arith, c.loop-taken-test.true) in
    subst (λ m. PairsMeet (shape c.args.key.now) (shape c.args.value.now) c.args.readers.now false m c.in_err-pair.field-0.0) e (c.loop-taken.invariant.3 false (suc more) c.in_err-pair.field-0.0 (c.in_err-pair.ensures.fault memory more)))

pub next_pairs-returns-in_err-pair-clause-none : goal.next_pairs-returns-in_err-pair-clause-none
next_pairs-returns-in_err-pair-clause-none t c =
    let p = err_from_is_err_and c.from_residual.result c.from_residual.ensures.1 in
    let k = shape c.args.key.now in
    let v = shape c.args.value.now in
    rw (p.1, p.2) (λ memory. cells_lacking (PairsLeft k v c.args.readers.now) (PairsLeft k v c.loop-taken.readers) (map paired c.loop-taken.pairs.items) c.loop-taken.taken c.args.count
    c.loop-taken.invariant.1 c.loop-taken-test.true c.loop-taken.invariant.0 (c.in_err-pair.ensures.none memory))

pub next_map-returns-clause-found : goal.next_map-returns-clause-found
next_map-returns-clause-found t c =
    if_ok_both c.next_pairs.result c.next_pairs.ensures.counted c.next_pairs.ensures.found
    (λ answer counted found. map_taken (shape c.args.key.now) (shape c.args.value.now) c.args.readers.now c.next_pairs.new.readers (record { present = (get_or c.args.readers.now 0 c.index-readers-0.result).present; source = c.next_size.new.source }) c.index-readers-0.result c.in_ok-size.size (map paired answer.items) (omega (arith, c.requires))
    c.in_ok-size.ensures.found c.in_ok-size.ensures.room.0 c.in_ok-size.ensures.room.1 counted found)

pub next_map-returns-clause-none : goal.next_map-returns-clause-none
next_map-returns-clause-none t c =
    if_err c.next_pairs.result c.next_pairs.ensures.none
    (λ cause none memory. map_lacking (shape c.args.key.now) (shape c.args.value.now) c.args.readers.now (record { present = (get_or c.args.readers.now 0 c.index-readers-0.result).present; source = c.next_size.new.source }) c.index-readers-0.result c.in_ok-size.size c.in_ok-size.ensures.found (none memory))

pub next_map-returns-clause-fault : goal.next_map-returns-clause-fault
next_map-returns-clause-fault t c =
    if_err c.next_pairs.result c.next_pairs.ensures.fault
    (λ cause met memory n. maps_pairs (shape c.args.key.now) (shape c.args.value.now) c.args.readers.now c.index-readers-0.result (record { present = (get_or c.args.readers.now 0 c.index-readers-0.result).present; source = c.next_size.new.source }) n c.in_ok-size.size cause (omega (arith, c.requires)) c.in_ok-size.ensures.first (met memory 0))

pub next_map-returns-in_err-size-clause-fault : goal.next_map-returns-in_err-size-clause-fault
next_map-returns-in_err-size-clause-fault t c =
    let p = err_from_is_err_and c.from_residual.result c.from_residual.ensures.1 in
    rw (p.1, p.2) (λ memory n.
    maps_size (shape c.args.key.now) (shape c.args.value.now) c.args.readers.now c.index-readers-0.result false (suc n) c.in_err-size.field-0.0 (omega (arith, c.requires)) (c.in_err-size.ensures.fault memory n))

pub next_map-returns-clause-before : goal.next_map-returns-clause-before
next_map-returns-clause-before t c =
    on_ok c.next_pairs.result c.next_pairs.ensures.before
    (λ met all n f h. map_before (shape c.args.key.now) (shape c.args.value.now) c.args.readers.now c.next_pairs.new.readers c.index-readers-0.result (record { present = (get_or c.args.readers.now 0 c.index-readers-0.result).present; source = c.next_size.new.source }) all n c.in_ok-size.size f (omega (arith, c.requires)) c.in_ok-size.ensures.first (c.in_ok-size.ensures.before all n f)
    (λ m. met all m f) h)

pub next_value-returns-in_ok-next_map-in-Map-clause-found : goal.next_value-returns-in_ok-next_map-in-Map-clause-found
next_value-returns-in_ok-next_map-in-Map-clause-found t c =
    let w = some_width (shape c.args.tree.now) in
    let f = c.in_ok-next_map-in-Map.ensures.found in
    own_map (shape c.args.tree.now) (shape c.in-Map.key.value) (shape c.in-Map.value.value) c.in-Map.field-2.items c.args.readers.now c.next_map.new.readers (map paired c.in_ok-next_map-in-Map.field-0.items) _
    (ap shape c.in-Map.is ∙ shape-Map c.in-Map.key c.in-Map.value c.in-Map.field-2) (view-Map c.in_ok-next_map-in-Map.field-0) (omega (arith, c.requires, w)) c.next_map.auto.readers (rw (c.deref-in-Map.ensures, c.deref-in-Map-2.ensures) at f)

pub next_value-returns-in_err-next_map-in-Map-clause-none : goal.next_value-returns-in_err-next_map-in-Map-clause-none
next_value-returns-in_err-next_map-in-Map-clause-none t c =
    let p = err_from_is_err_and c.from_residual-in_err-next_map-in-Map.result c.from_residual-in_err-next_map-in-Map.ensures.1 in
    rw (p.1, p.2) (λ memory.
    let f = c.in_err-next_map-in-Map.ensures.none memory in
    own_map_lacks (shape c.args.tree.now) (shape c.in-Map.key.value) (shape c.in-Map.value.value) c.in-Map.field-2.items c.args.readers.now
    (ap shape c.in-Map.is ∙ shape-Map c.in-Map.key c.in-Map.value c.in-Map.field-2) (rw (c.deref-in-Map.ensures, c.deref-in-Map-2.ensures) at f))

pub next_value-returns-in_err-next_map-in-Map-clause-fault : goal.next_value-returns-in_err-next_map-in-Map-clause-fault
next_value-returns-in_err-next_map-in-Map-clause-fault t c =
    let p = err_from_is_err_and c.from_residual-in_err-next_map-in-Map.result c.from_residual-in_err-next_map-in-Map.ensures.1 in
    rw (p.1, p.2) (λ memory n.
    let f = c.in_err-next_map-in-Map.ensures.fault memory n in
    maps_own (shape c.args.tree.now) (shape c.in-Map.key.value) (shape c.in-Map.value.value) c.in-Map.field-2.items c.args.readers.now false (suc n) c.in_err-next_map-in-Map.field-0.0 (ap shape c.in-Map.is ∙ shape-Map c.in-Map.key c.in-Map.value c.in-Map.field-2) (rw (c.deref-in-Map.ensures, c.deref-in-Map-2.ensures) at f))

pub next_value-returns-in_ok-next_map-in-Map-clause-before : goal.next_value-returns-in_ok-next_map-in-Map-clause-before
next_value-returns-in_ok-next_map-in-Map-clause-before t c =
    λ all n f h.
    let is = ap shape c.in-Map.is ∙ shape-Map c.in-Map.key c.in-Map.value c.in-Map.field-2 in
    let b = c.in_ok-next_map-in-Map.ensures.before all n f in
    let r = rw (c.deref-in-Map.ensures, c.deref-in-Map-2.ensures) at b in
    maps_own (shape c.args.tree.now) (shape c.in-Map.key.value) (shape c.in-Map.value.value) c.in-Map.field-2.items c.args.readers.now all (suc n) f is
    (r (own_maps (shape c.args.tree.now) (shape c.in-Map.key.value) (shape c.in-Map.value.value) c.in-Map.field-2.items c.next_map.new.readers all n f is h))

made : (a b : Option Value) → paired (roll-MapPair (record { key = a; value = b })) ≡ (view a, view b)
made a b = search (rules, the_lemmas, paired-is)

pub next_pair-returns-clause-found : goal.next_pair-returns-clause-found
next_pair-returns-clause-found t c =
    let k = shape c.args.key.now in
    let v = shape c.args.value.now in
    let w = c.width_of-own.ensures in
    let n : length c.next_cell.new.readers ≡ c.width_of-own.result = first_counted c.width_of-own.result (width v) c.args.readers.now c.next_cell.new.readers (omega (arith, c.requires, w)) c.next_cell.auto.readers in
    rw (made c.in_ok-first.first c.in_ok-second.second)
    (pair_next k v c.args.readers.now _ (take c.width_of-own.result c.args.readers.now) c.next_cell.new.readers _ c.next_cell-2.new.readers (view c.in_ok-first.first, view c.in_ok-second.second)
    (ap (λ m. take m c.args.readers.now) w) (fields_behind c.width_of-own.result c.args.readers.now c.next_cell.new.readers n ∙ ap (λ m. drop m c.args.readers.now) w)
    (fields_put c.width_of-own.result c.args.readers.now c.next_cell.new.readers c.next_cell-2.new.readers n) (n ∙ w) c.in_ok-first.ensures.found c.in_ok-second.ensures.found)

pub next_pair-returns-clause-before : goal.next_pair-returns-clause-before
next_pair-returns-clause-before t c =
    λ all n f h.
    let w = c.width_of-own.ensures in
    let l : length c.next_cell.new.readers ≡ c.width_of-own.result = first_counted c.width_of-own.result (width (shape c.args.value.now)) c.args.readers.now c.next_cell.new.readers (omega (arith, c.requires, w)) c.next_cell.auto.readers in
    pair_before (shape c.args.key.now) (shape c.args.value.now) c.args.readers.now _ (take c.width_of-own.result c.args.readers.now) c.next_cell.new.readers _ c.next_cell-2.new.readers all n f
    (ap (λ m. take m c.args.readers.now) w) (fields_behind c.width_of-own.result c.args.readers.now c.next_cell.new.readers l ∙ ap (λ m. drop m c.args.readers.now) w)
    (fields_put c.width_of-own.result c.args.readers.now c.next_cell.new.readers c.next_cell-2.new.readers l) (l ∙ w) (c.in_ok-first.ensures.before all n f) (c.in_ok-second.ensures.before all n f) h

pub next_pair-returns-in_err-second-clause-none : goal.next_pair-returns-in_err-second-clause-none
next_pair-returns-in_err-second-clause-none t c =
    let k = shape c.args.key.now in
    let v = shape c.args.value.now in
    let w = c.width_of-own.ensures in
    let l : length c.next_cell.new.readers ≡ c.width_of-own.result = first_counted c.width_of-own.result (width v) c.args.readers.now c.next_cell.new.readers (omega (arith, c.requires, w)) c.next_cell.auto.readers in
    let p = err_from_is_err_and c.from_residual-in_err-second.result c.from_residual-in_err-second.ensures.1 in
    rw (p.1, p.2) (λ memory. pair_lacks k v c.args.readers.now _ (fields_behind c.width_of-own.result c.args.readers.now c.next_cell.new.readers l ∙ ap (λ m. drop m c.args.readers.now) w) (c.in_err-second.ensures.none memory))

pub next_pair-returns-in_err-second-clause-fault : goal.next_pair-returns-in_err-second-clause-fault
next_pair-returns-in_err-second-clause-fault t c =
    let k = shape c.args.key.now in
    let v = shape c.args.value.now in
    let w = c.width_of-own.ensures in
    let l : length c.next_cell.new.readers ≡ c.width_of-own.result = first_counted c.width_of-own.result (width v) c.args.readers.now c.next_cell.new.readers (omega (arith, c.requires, w)) c.next_cell.auto.readers in
    let p = err_from_is_err_and c.from_residual-in_err-second.result c.from_residual-in_err-second.ensures.1 in
    rw (p.1, p.2) (λ memory n. inr (subst (λ xs. CellsMeet v xs false (suc n) c.in_err-second.field-0.0) (fields_behind c.width_of-own.result c.args.readers.now c.next_cell.new.readers l ∙ ap (λ m. drop m c.args.readers.now) w) (c.in_err-second.ensures.fault memory n)))
