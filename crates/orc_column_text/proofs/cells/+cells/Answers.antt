use Rattle.std.proofs.Common.{rules, ◌≡◌, ℕ, suc, ◌+◌, ◌<◌, List, false, inr, subst, length, take, drop, ◌-◌, get_or, sym, ap, ◌∙◌, arith}
use Rattle.orc_values.specs.Cells.{null}
use Rattle.orc_values.specs.Shapes.{width, widths}
use Rattle.orc_values.specs.Views.{shape}
use Rattle.orc_values.specs.Views.{fields as fields_view}
use Rattle.orc_values.proofs.Views.{shape-Scalar, shape-List, shape-Map, shape-Struct}
use Rattle.orc_column_reader.specs.Columns.{CellsLeft, PairsLeft}
use Rattle.orc_column_reader.proofs.Handed.{if_err, on_ok}
use Rattle.orc_column_text.proofs.Handed.{on_ok_both, on_ok_three}
use Rattle.orc_row_reader.proofs.Arms.{pair_lacks, fields_put, fields_behind, cell_null, cell_lacks, own_list_lacks, own_map_lacks, own_struct_lacks, list_taken, list_lacking, map_taken, map_lacking, first_counted}
use Rattle.orc_column_reader.proofs.Fronts.{cells_lacking}
use Rattle.orc_values.proofs.Widths.{some_width}
use Rattle.orc_column_reader.specs.declared.column.ColumnReader.{ColumnReader}
use Rattle.orc_column_reader.specs.ReaderFaults.{CellsMeet, PairsMeet}
use Rattle.orc_row_reader.proofs.FaultLemmas.{scalar_before, cell_before, null_before, cell_now, cell_mark, list_before, lists_own, own_lists, struct_before, own_struct_meets, lists_size, lists_elements, map_before, maps_own, own_maps, maps_size, maps_pairs, pair_before, own_scalar}
use Rattle.orc_json_printer.specs.Layouts.{text_by, null_text, part, member_parts, pair_text, pair_texts}
use Rattle.orc_column_text.proofs.AnyOrder.{columns_told, reading_first, reading_last, reading_last_meet}
use Rattle.orc_column_text.proofs.Members.{many-fields, field_at-is, first_behind, own_within, own_less, region_length, place_told, others_told, members_next, members_lack, members_meet, member_printed, member_lacks, member_meets}
use Rattle.std.proofs.lemmas.List.{length-map, drop_all}
use Rattle.std.proofs.lemmas.Result.{err_from_is_err_and}
use borrow.Rule.Slice.PartMut.{put_mid}
use Rattle.orc_json_printer.specs.declared.layout.FieldColumns.{FieldColumns}
use Rattle.orc_column_text.specs.Regions.{field_at, columns_before}
use Rattle.orc_column_text.specs.Texts.{comma_texts}
use Rattle.orc_column_text.proofs.Texts.{null_text_by}
use Rattle.orc_json_printer.proofs.Outputs.{puts_is}
use Rattle.orc_json_printer.specs.LaidOut.{IsLaidOut, AreFieldsLaidOut, AreMembersOf}
use Rattle.orc_json_printer.specs.declared.layout.Member.{Member}
use Rattle.orc_column_text.proofs.Laying.{leaf_layout, struct_layout, member_laid_out}
use Rattle.orc_column_text.proofs.Taken.{scalar_taken, scalar_lacking, bracketed, passed_next, passed_all, value_taken, list_taken_text, map_taken_text, pair_taken, struct_taken_text}
use Rattle.orc_column_text.proofs.cells.+cells.Goals as goal

-- ---- so many cells

pub push_cells-loop-taken-preserved : goal.push_cells-loop-taken-preserved
push_cells-loop-taken-preserved g t c =
    record {
      passed = passed_next g.T.TextOutput.holds (CellsLeft (shape c.args.tree.now) c.args.readers.now) (CellsLeft (shape c.args.tree.now) c.loop-taken.readers) (CellsLeft (shape c.args.tree.now) c.push_cell.new.readers) (text_by c.args.layout.now)
          c.loop-taken.later c.loop-taken.taken c.args.out.now c.loop-taken.out c.push_comma_if.new.out c.push_cell.new.out c.in_ok-push_comma_if.ensures.found c.in_ok-push_cell.ensures.found c.loop-taken.invariant.passed;
      counted = search rules;
      before = λ all n f h.
          let e : c.loop-taken.taken + suc n ≡ c.loop-taken.taken + 1 + n = omega arith in
          subst (λ k. CellsMeet (shape c.args.tree.now) c.args.readers.now all k f) e (c.loop-taken.invariant.before all (suc n) f (c.in_ok-push_cell.ensures.before all n f h));
    }

pub push_cells-returns-in_err-push_cell-clause-none : goal.push_cells-returns-in_err-push_cell-clause-none
push_cells-returns-in_err-push_cell-clause-none g t c =
    let p = err_from_is_err_and c.from_residual-in_err-push_cell.result c.from_residual-in_err-push_cell.ensures.1 in
    rw (p.1, p.2) (λ memory. cells_lacking (CellsLeft (shape c.args.tree.now) c.args.readers.now) (CellsLeft (shape c.args.tree.now) c.loop-taken.readers) c.loop-taken.invariant.passed.all c.loop-taken.taken c.args.count
    c.loop-taken.invariant.passed.counted c.loop-taken-test.true c.loop-taken.invariant.passed.taken (c.in_err-push_cell.ensures.none memory))

pub push_cells-returns-clause-found : goal.push_cells-returns-clause-found
push_cells-returns-clause-found g t c =
    let e : c.loop-taken.taken ≡ c.args.count = let e = c.loop-taken.auto.taken-end in omega (arith, e, c.loop-taken-test.false) in
    passed_all g.T.TextOutput.holds (CellsLeft (shape c.args.tree.now) c.args.readers.now) (CellsLeft (shape c.args.tree.now) c.loop-taken.readers) (text_by c.args.layout.now) c.loop-taken.later c.loop-taken.taken c.args.count
    c.args.out.now c.loop-taken.out e c.loop-taken.invariant.passed

pub push_cells-returns-in_err-push_cell-clause-fault : goal.push_cells-returns-in_err-push_cell-clause-fault
push_cells-returns-in_err-push_cell-clause-fault g t c =
    let p = err_from_is_err_and c.from_residual-in_err-push_cell.result c.from_residual-in_err-push_cell.ensures.1 in
    rw (p.1, p.2) (λ memory n.
    let more : ℕ = c.args.count + n - c.loop-taken.taken - 1 in
    let e : c.loop-taken.taken + suc more ≡ c.args.count + n = omega (arith, c.loop-taken-test.true) in
    subst (λ k. CellsMeet (shape c.args.tree.now) c.args.readers.now false k c.in_err-push_cell.field-0.0) e (c.loop-taken.invariant.before false (suc more) c.in_err-push_cell.field-0.0 (c.in_err-push_cell.ensures.fault memory more)))

pub push_cells-returns-clause-before : goal.push_cells-returns-clause-before
push_cells-returns-clause-before g t c =
    λ all n f h.
    let e : c.loop-taken.taken + n ≡ c.args.count + n = omega (arith, c.loop-taken.auto.taken-end, c.loop-taken-test.false) in
    subst (λ k. CellsMeet (shape c.args.tree.now) c.args.readers.now all k f) e (c.loop-taken.invariant.before all n f h)

-- ---- a cell

pub push_cell-returns-clause-found : goal.push_cell-returns-clause-found
push_cell-returns-clause-found g t c =
    let w = some_width (shape c.args.tree.now) in
    let f = c.in_ok-next_present.ensures.found in
    on_ok_both c.push_value.result c.push_value.ensures.found c.push_value.ensures.marks (λ found marks.
    value_taken g.T.TextOutput.holds (shape c.args.tree.now) (text_by c.args.layout.now) c.args.readers.now c.push_value.new.readers c.next_present.new.reader c.index-readers-0.result c.args.out.now c.push_value.new.out
    (omega (arith, c.requires.counted, w)) c.push_value.auto.readers c.in_ok-next_present.ensures.source (rw c.if-not-branch.false at f) found marks)

pub push_cell-returns-clause-none : goal.push_cell-returns-clause-none
push_cell-returns-clause-none g t c =
    if_err c.push_value.result c.push_value.ensures.none (λ cause given memory.
    let w = some_width (shape c.args.tree.now) in
    let f = c.in_ok-next_present.ensures.found in
    cell_lacks (shape c.args.tree.now) c.args.readers.now c.next_present.new.reader c.index-readers-0.result (omega (arith, c.requires.counted, w))
    c.in_ok-next_present.ensures.source (rw c.if-not-branch.false at f) (given memory))

pub push_cell-returns-then-not-branch-clause-found : goal.push_cell-returns-then-not-branch-clause-found
push_cell-returns-then-not-branch-clause-found g t c =
    let w = some_width (shape c.args.tree.now) in
    let f = c.in_ok-next_present.ensures.found in
    record {
      one = null;
      taken = cell_null (shape c.args.tree.now) c.args.readers.now c.next_present.new.reader c.index-readers-0.result (omega (arith, c.requires.counted, w))
          c.in_ok-next_present.ensures.source (rw c.if-not-branch.true at f);
      put = puts_is g.T.TextOutput.holds c.args.out.now c.put.new.self null_text (text_by c.args.layout.now null) (sym (null_text_by c.args.layout.now)) c.in_ok-put.ensures.found;
    }

pub push_cell-returns-clause-fault : goal.push_cell-returns-clause-fault
push_cell-returns-clause-fault g t c =
    if_err c.push_value.result c.push_value.ensures.fault (λ cause given memory n.
    let w = some_width (shape c.args.tree.now) in
    let f = c.in_ok-next_present.ensures.first in
    cell_now (shape c.args.tree.now) c.args.readers.now c.next_present.new.reader c.index-readers-0.result n cause (omega (arith, c.requires.counted, w)) c.in_ok-next_present.ensures.source (rw c.if-not-branch.false at f) (given memory 0))

pub push_cell-returns-in_err-next_present-clause-fault : goal.push_cell-returns-in_err-next_present-clause-fault
push_cell-returns-in_err-next_present-clause-fault g t c =
    let p = err_from_is_err_and c.from_residual.result c.from_residual.ensures.1 in
    rw (p.1, p.2) (λ memory n.
    let w = some_width (shape c.args.tree.now) in
    cell_mark (shape c.args.tree.now) c.args.readers.now c.index-readers-0.result false (suc n) c.in_err-next_present.field-0.0 (omega (arith, c.requires.counted, w)) (c.in_err-next_present.ensures.fault memory n))

pub push_cell-returns-clause-before : goal.push_cell-returns-clause-before
push_cell-returns-clause-before g t c =
    let w = some_width (shape c.args.tree.now) in
    let first = c.in_ok-next_present.ensures.first in
    on_ok_three c.push_value.result c.push_value.ensures.column c.push_value.ensures.marks c.push_value.ensures.before (λ column marks before all n f h.
    cell_before (shape c.args.tree.now) c.args.readers.now c.push_value.new.readers c.next_present.new.reader c.index-readers-0.result all n f (omega (arith, c.requires.counted, w)) c.push_value.auto.readers
    c.in_ok-next_present.ensures.source (rw c.if-not-branch.false at first) c.in_ok-next_present.ensures.before column marks (λ v. before all v f) h)

pub push_cell-returns-then-not-branch-clause-before : goal.push_cell-returns-then-not-branch-clause-before
push_cell-returns-then-not-branch-clause-before g t c =
    λ all n f h.
    let w = some_width (shape c.args.tree.now) in
    let first = c.in_ok-next_present.ensures.first in
    null_before (shape c.args.tree.now) c.args.readers.now c.next_present.new.reader c.index-readers-0.result all n f (omega (arith, c.requires.counted, w)) c.in_ok-next_present.ensures.source (rw c.if-not-branch.true at first) c.in_ok-next_present.ensures.before h

-- ---- a list

pub push_list-returns-clause-found : goal.push_list-returns-clause-found
push_list-returns-clause-found g t c =
    let f = c.in_ok-push_cells.ensures.found in
    record {
      one = f.all;
      taken = list_taken (shape c.args.element.now) c.args.readers.now c.push_cells.new.readers (record { present = (get_or c.args.readers.now 0 c.index-readers-0.result).present; source = c.next_size.new.source }) c.index-readers-0.result c.in_ok-size.size f.all (omega (arith, c.requires.counted))
          c.in_ok-size.ensures.found c.in_ok-size.ensures.room.0 c.in_ok-size.ensures.room.1 f.counted f.taken;
      put = bracketed g.T.TextOutput.holds c.args.out.now c.put_byte.new.self c.push_cells.new.out c.put_byte-2.new.self (comma_texts (text_by c.args.layout.now) false f.all) c.in_ok-put_byte.ensures.found f.put c.in_ok-put_byte-2.ensures.found;
    }

pub push_list-returns-in_err-push_cells-clause-none : goal.push_list-returns-in_err-push_cells-clause-none
push_list-returns-in_err-push_cells-clause-none g t c =
    let p = err_from_is_err_and c.from_residual-in_err-push_cells.result c.from_residual-in_err-push_cells.ensures.1 in
    rw (p.1, p.2) (λ memory.
    list_lacking (shape c.args.element.now) c.args.readers.now (record { present = (get_or c.args.readers.now 0 c.index-readers-0.result).present; source = c.next_size.new.source }) c.index-readers-0.result c.in_ok-size.size
    c.in_ok-size.ensures.found (c.in_err-push_cells.ensures.none memory))

pub push_list-returns-in_err-push_cells-clause-fault : goal.push_list-returns-in_err-push_cells-clause-fault
push_list-returns-in_err-push_cells-clause-fault g t c =
    let p = err_from_is_err_and c.from_residual-in_err-push_cells.result c.from_residual-in_err-push_cells.ensures.1 in
    rw (p.1, p.2) (λ memory n.
    let own : ColumnReader = record { present = (get_or c.args.readers.now 0 c.index-readers-0.result).present; source = c.next_size.new.source } in
    lists_elements (shape c.args.element.now) c.args.readers.now c.index-readers-0.result own n c.in_ok-size.size c.in_err-push_cells.field-0.0 (omega (arith, c.requires.counted)) c.in_ok-size.ensures.first (c.in_err-push_cells.ensures.fault memory 0))

pub push_list-returns-in_err-size-clause-fault : goal.push_list-returns-in_err-size-clause-fault
push_list-returns-in_err-size-clause-fault g t c =
    let p = err_from_is_err_and c.from_residual.result c.from_residual.ensures.1 in
    rw (p.1, p.2) (λ memory n.
    lists_size (shape c.args.element.now) c.args.readers.now c.index-readers-0.result false (suc n) c.in_err-size.field-0.0 (omega (arith, c.requires.counted)) (c.in_err-size.ensures.fault memory n))

pub push_list-returns-clause-before : goal.push_list-returns-clause-before
push_list-returns-clause-before g t c =
    λ all n f h.
    let own : ColumnReader = record { present = (get_or c.args.readers.now 0 c.index-readers-0.result).present; source = c.next_size.new.source } in
    list_before (shape c.args.element.now) c.args.readers.now c.push_cells.new.readers c.index-readers-0.result own all n c.in_ok-size.size f (omega (arith, c.requires.counted)) c.in_ok-size.ensures.first (c.in_ok-size.ensures.before all n f)
    (λ m. c.in_ok-push_cells.ensures.before all m f) h

-- ---- a value

pub push_value-returns-in-Scalar-clause-found : goal.push_value-returns-in-Scalar-clause-found
push_value-returns-in-Scalar-clause-found g t c =
    let w = some_width (shape c.args.tree.now) in
    on_ok c.push_scalar.result c.push_scalar.ensures.found (λ given.
    scalar_taken g.T.TextOutput.holds (shape c.args.tree.now) c.in-Scalar.kind c.in-Scalar.field-1.items c.args.layout.now c.args.readers.now c.index-readers-0.result c.push_scalar.new.source c.args.out.now c.push_scalar.new.out (ap shape c.in-Scalar.is ∙ shape-Scalar c.in-Scalar.kind c.in-Scalar.field-1) (leaf_layout (shape c.args.tree.now) c.in-Scalar.kind c.in-Scalar.field-1.items c.args.layout.now (ap shape c.in-Scalar.is ∙ shape-Scalar c.in-Scalar.kind c.in-Scalar.field-1) c.requires.laid_out) (omega (arith, c.requires.counted, w)) given)

pub push_value-returns-in-Scalar-clause-none : goal.push_value-returns-in-Scalar-clause-none
push_value-returns-in-Scalar-clause-none g t c =
    let w = some_width (shape c.args.tree.now) in
    if_err c.push_scalar.result c.push_scalar.ensures.none (λ cause given memory.
    scalar_lacking (shape c.args.tree.now) c.in-Scalar.kind c.in-Scalar.field-1.items c.args.readers.now c.index-readers-0.result (ap shape c.in-Scalar.is ∙ shape-Scalar c.in-Scalar.kind c.in-Scalar.field-1) (omega (arith, c.requires.counted, w)) (given memory))

pub push_value-returns-in-Scalar-clause-fault : goal.push_value-returns-in-Scalar-clause-fault
push_value-returns-in-Scalar-clause-fault g t c =
    let w = some_width (shape c.args.tree.now) in
    if_err c.push_scalar.result c.push_scalar.ensures.fault (λ cause given memory n.
    own_scalar (shape c.args.tree.now) c.in-Scalar.kind c.in-Scalar.field-1.items c.args.readers.now c.index-readers-0.result false (suc n) cause (ap shape c.in-Scalar.is ∙ shape-Scalar c.in-Scalar.kind c.in-Scalar.field-1) (omega (arith, c.requires.counted, w)) (given memory n))

pub push_value-returns-in-Scalar-clause-before : goal.push_value-returns-in-Scalar-clause-before
push_value-returns-in-Scalar-clause-before g t c =
    let w = some_width (shape c.args.tree.now) in
    on_ok c.push_scalar.result c.push_scalar.ensures.before (λ given all n f h.
    scalar_before (shape c.args.tree.now) c.in-Scalar.kind c.in-Scalar.field-1.items c.args.readers.now c.index-readers-0.result c.push_scalar.new.source all n f (ap shape c.in-Scalar.is ∙ shape-Scalar c.in-Scalar.kind c.in-Scalar.field-1) (omega (arith, c.requires.counted, w)) (given all n f) h)

pub push_value-returns-in-List-layout-clause-found : goal.push_value-returns-in-List-layout-clause-found
push_value-returns-in-List-layout-clause-found g t c =
    on_ok c.push_list.result c.push_list.ensures.found (λ given.
    let w = some_width (shape c.args.tree.now) in
    let f = given in
    list_taken_text g.T.TextOutput.holds (shape c.args.tree.now) (shape c.in-List.element.value) c.in-List.field-1.items c.args.layout.now c.in-List-layout.inner c.args.readers.now c.push_list.new.readers c.args.out.now c.push_list.new.out
    (ap shape c.in-List.is ∙ shape-List c.in-List.element c.in-List.field-1) c.in-List-layout.is (omega (arith, c.requires.counted, w)) c.push_list.auto.readers (rw (c.deref.ensures, c.deref-in-List-layout.ensures) at f))

pub push_value-returns-in-List-layout-clause-none : goal.push_value-returns-in-List-layout-clause-none
push_value-returns-in-List-layout-clause-none g t c =
    if_err c.push_list.result c.push_list.ensures.none (λ cause given memory.
    let f = given memory in
    own_list_lacks (shape c.args.tree.now) (shape c.in-List.element.value) c.in-List.field-1.items c.args.readers.now
    (ap shape c.in-List.is ∙ shape-List c.in-List.element c.in-List.field-1) (rw c.deref.ensures at f))

pub push_value-returns-in-List-layout-clause-fault : goal.push_value-returns-in-List-layout-clause-fault
push_value-returns-in-List-layout-clause-fault g t c =
    if_err c.push_list.result c.push_list.ensures.fault (λ cause given memory n.
    let f = given memory n in
    lists_own (shape c.args.tree.now) (shape c.in-List.element.value) c.in-List.field-1.items c.args.readers.now false (suc n) cause (ap shape c.in-List.is ∙ shape-List c.in-List.element c.in-List.field-1) (rw c.deref.ensures at f))

pub push_value-returns-in-List-layout-clause-before : goal.push_value-returns-in-List-layout-clause-before
push_value-returns-in-List-layout-clause-before g t c =
    on_ok c.push_list.result c.push_list.ensures.before (λ given all n f h.
    let b = given all n f in
    let k = rw c.deref.ensures at b in
    lists_own (shape c.args.tree.now) (shape c.in-List.element.value) c.in-List.field-1.items c.args.readers.now all (suc n) f (ap shape c.in-List.is ∙ shape-List c.in-List.element c.in-List.field-1)
    (k (own_lists (shape c.args.tree.now) (shape c.in-List.element.value) c.in-List.field-1.items c.push_list.new.readers all n f (ap shape c.in-List.is ∙ shape-List c.in-List.element c.in-List.field-1) h)))

-- ---- members

pub push_members-loop-member-init : goal.push_members-loop-member-init
push_members-loop-member-init g t c =
    let fs = c.args.fields.now.items in
    let ms = c.args.members.now in
    record {
      reading = reading_first g.T.TextOutput.holds (fields_view fs) c.args.readers.now (member_parts ms) c.args.out.now c.requires.counted (length-map ms part ∙ c.requires.as_many ∙ sym (many-fields fs));
      own = c.requires.members;
    }

pub push_members-index-own-requires : goal.push_members-index-own-requires
push_members-index-own-requires g t c =
    let there = place_told c.args.columns.now.items c.args.members.now c.loop-member.member-index c.member-item.result c.loop-member-test.true c.member-item.is c.loop-member.invariant.own in
    omega (arith, there, c.args.columns.now.ok.0)

pub push_members-push_member-requires : goal.push_members-push_member-requires
push_members-push_member-requires g t c =
    let fs = c.args.fields.now.items in
    let xs = c.args.columns.now.items in
    let own = c.index-own.result.now in
    let place = c.member-item.result.place in
    let listed = place_told xs c.args.members.now c.loop-member.member-index c.member-item.result c.loop-member-test.true c.member-item.is c.loop-member.invariant.own in
    let told = columns_told (fields_view fs) 0 xs place own c.requires.columns listed in
    let first : own.first ≡ columns_before (fields_view fs) place = omega (arith, ap (λ (x : FieldColumns). x.first) c.index-own.ensures, told.0) in
    let count : own.count ≡ width (field_at (fields_view fs) place) = ap (λ (x : FieldColumns). x.count) c.index-own.ensures ∙ told.1 in
    let there : place < length fs = omega (arith, told.2, many-fields fs) in
    let counted = c.loop-member.invariant.reading.counted in
    let within = own_within fs place own.first own.count (length c.loop-member.readers) there first count counted in
    let laid = member_laid_out (fields_view fs) xs c.args.members.now c.loop-member.member-index c.member-item.result c.loop-member-test.true c.member-item.is c.requires.columns c.loop-member.invariant.own c.requires.laid_out in
    λ κs lives. (omega arith, (lives, (counted, (there, (within, (first, (count, laid)))))))

pub push_members-loop-member-preserved : goal.push_members-loop-member-preserved
push_members-loop-member-preserved g t c =
    let fs = fields_view c.args.fields.now.items in
    let ms = c.args.members.now in
    let xs = c.args.columns.now.items in
    record {
      reading = members_next g.T.TextOutput.holds fs c.args.readers.now c.loop-member.readers c.push_member.new.readers ms c.loop-member.member-index c.member-item.result xs c.args.out.now c.loop-member.out c.push_member.new.out
          c.loop-member-test.true c.member-item.is c.requires.columns c.loop-member.invariant.own c.push_member.auto.readers c.in_ok-push_member.ensures.found c.loop-member.invariant.reading;
      own = others_told xs ms c.loop-member.member-index c.member-item.result c.loop-member-test.true c.member-item.is c.loop-member.invariant.own;
    }

pub push_members-returns-in_err-push_member-clause-none : goal.push_members-returns-in_err-push_member-clause-none
push_members-returns-in_err-push_member-clause-none g t c =
    let p = err_from_is_err_and c.from_residual.result c.from_residual.ensures.1 in
    rw (p.1, p.2) (λ memory.
    members_lack g.T.TextOutput.holds (fields_view c.args.fields.now.items) c.args.readers.now c.loop-member.readers c.args.members.now c.loop-member.member-index c.member-item.result c.args.columns.now.items c.args.out.now c.loop-member.out
    c.loop-member-test.true c.member-item.is c.requires.columns c.loop-member.invariant.own c.loop-member.invariant.reading (c.in_err-push_member.ensures.none memory))

pub push_members-returns-in_err-push_member-clause-fault : goal.push_members-returns-in_err-push_member-clause-fault
push_members-returns-in_err-push_member-clause-fault g t c =
    let p = err_from_is_err_and c.from_residual.result c.from_residual.ensures.1 in
    rw (p.1, p.2) (λ memory n.
    members_meet g.T.TextOutput.holds (fields_view c.args.fields.now.items) c.args.readers.now c.loop-member.readers c.args.members.now c.loop-member.member-index c.member-item.result c.args.columns.now.items c.args.out.now c.loop-member.out false (suc n) c.in_err-push_member.field-0.0
    c.loop-member-test.true c.member-item.is c.requires.columns c.loop-member.invariant.own c.loop-member.invariant.reading (c.in_err-push_member.ensures.fault memory n))

pub push_members-returns-clause-found : goal.push_members-returns-clause-found
push_members-returns-clause-found g t c =
    let ms = c.args.members.now in
    reading_last g.T.TextOutput.holds (fields_view c.args.fields.now.items) c.args.readers.now c.loop-member.readers (member_parts ms) (member_parts (drop c.loop-member.member-index ms)) c.args.out.now c.loop-member.out c.put_byte.new.self
    (ap member_parts (drop_all c.loop-member.member-index ms (omega (arith, c.loop-member-test.false)))) c.in_ok-put_byte.ensures.found c.loop-member.invariant.reading

pub push_members-returns-clause-before : goal.push_members-returns-clause-before
push_members-returns-clause-before g t c =
    λ all n f h.
    let ms = c.args.members.now in
    reading_last_meet g.T.TextOutput.holds (fields_view c.args.fields.now.items) c.args.readers.now c.loop-member.readers (member_parts ms) (member_parts (drop c.loop-member.member-index ms)) c.args.out.now c.loop-member.out all n f
    (ap member_parts (drop_all c.loop-member.member-index ms (omega (arith, c.loop-member-test.false)))) c.loop-member.invariant.reading h

-- ---- a member

pub push_member-returns-clause-found : goal.push_member-returns-clause-found
push_member-returns-clause-found g t c =
    let m = c.args.member.now in
    let rs = c.args.readers.now in
    let first = c.args.own.first in
    let count = c.args.own.count in
    let k : first + count - first ≡ count = omega arith in
    let region = take (first + count - first) (drop first rs) in
    let n : length c.push_cell.new.readers ≡ count = omega (arith, c.push_cell.auto.readers, region_length rs first count c.requires.within) in
    on_ok_both c.push_cell.result c.push_cell.ensures.found c.push_cell.ensures.before (λ found before.
    member_printed g.T.TextOutput.holds c.args.fields.now.items c.index.result.now m rs region c.push_cell.new.readers (put_mid first (first + count - first) rs c.push_cell.new.readers) first count c.args.out.now c.put.new.self c.push_cell.new.out
    c.requires.there c.index.ensures c.requires.first c.requires.count (ap (λ (i : ℕ). take i (drop first rs)) k) n (ap (λ (i : ℕ). put_mid first i rs c.push_cell.new.readers) k)
    (puts_is g.T.TextOutput.holds c.args.out.now c.put.new.self c.deref.result.now m.key.items c.deref.ensures.value c.in_ok-put.ensures.found) found before)

pub push_member-push_cell-requires : goal.push_member-push_cell-requires
push_member-push_cell-requires g t c =
    let fs = c.args.fields.now.items in
    let place = c.args.member.now.place in
    let less = own_less fs c.index.result.now place c.requires.there c.index.ensures in
    λ κs lives. (
      omega (arith, less),
      (
        lives,
        (
          region_length c.args.readers.now c.args.own.first c.args.own.count c.requires.within ∙ c.requires.count ∙ ap width (field_at-is fs place c.index.result.now c.requires.there c.index.ensures),
          subst (λ z. IsLaidOut z c.args.member.now.layout) (field_at-is fs place c.index.result.now c.requires.there c.index.ensures) c.requires.laid_out,
        ),
      ),
    )

pub push_member-returns-clause-none : goal.push_member-returns-clause-none
push_member-returns-clause-none g t c =
    if_err c.push_cell.result c.push_cell.ensures.none (λ cause given memory.
    let rs = c.args.readers.now in
    let first = c.args.own.first in
    let count = c.args.own.count in
    let k : first + count - first ≡ count = omega arith in
    member_lacks c.args.fields.now.items c.index.result.now c.args.member.now.place rs (take (first + count - first) (drop first rs)) first count c.requires.there c.index.ensures c.requires.first c.requires.count
    (ap (λ (i : ℕ). take i (drop first rs)) k) (given memory))

pub push_member-returns-clause-fault : goal.push_member-returns-clause-fault
push_member-returns-clause-fault g t c =
    if_err c.push_cell.result c.push_cell.ensures.fault (λ cause given memory n.
    let rs = c.args.readers.now in
    let first = c.args.own.first in
    let count = c.args.own.count in
    let k : first + count - first ≡ count = omega arith in
    member_meets c.args.fields.now.items c.index.result.now c.args.member.now.place rs (take (first + count - first) (drop first rs)) first count false (suc n) cause c.requires.there c.index.ensures c.requires.first c.requires.count
    (ap (λ (i : ℕ). take i (drop first rs)) k) (given memory n))

-- ---- a struct

pub push_value-push_members-requires : goal.push_value-push_members-requires
push_value-push_members-requires g t c =
    let w = some_width (shape c.args.tree.now) in
    let fs = c.in-Struct.fields.items in
    let xs = c.in-Struct-layout.columns.items in
    let is = ap shape c.in-Struct.is ∙ shape-Struct c.in-Struct.fields c.in-Struct.field-1 in
    let told = struct_layout (shape c.args.tree.now) (fields_view fs) c.in-Struct.field-1.items c.args.layout.now c.in-Struct-layout.members c.in-Struct-layout.columns is c.in-Struct-layout.is c.requires.laid_out in
    let same = c.deref-in-Struct-layout.ensures.value in
    let wide : width (shape c.args.tree.now) ≡ 1 + widths (fields_view fs) = ap width is in
    let rest : length (take (length c.args.readers.now - 1) (drop 1 c.args.readers.now)) ≡ length c.args.readers.now - 1 = first_behind c.args.readers.now in
    λ κs lives. (
      omega (arith, c.decreases, wide),
      (
        lives,
        (
          omega (arith, rest, c.requires.counted, wide),
          (
            ap length same ∙ told.0.as_many ∙ many-fields fs,
            (
              told.0.columns_are,
              (
                subst (λ (ms : List Member). AreMembersOf xs 0 (member_parts ms)) (sym same) told.0.members_are,
                subst (λ (ms : List Member). AreFieldsLaidOut (fields_view fs) xs ms) (sym same) told.1,
              ),
            ),
          ),
        ),
      ),
    )

pub push_value-returns-in_ok-put_byte-in-Struct-layout-clause-found : goal.push_value-returns-in_ok-put_byte-in-Struct-layout-clause-found
push_value-returns-in_ok-put_byte-in-Struct-layout-clause-found g t c =
    on_ok c.push_members.result c.push_members.ensures.found (λ given.
    let w = some_width (shape c.args.tree.now) in
    let f = given in
    struct_taken_text g.T.TextOutput.holds (shape c.args.tree.now) (fields_view c.in-Struct.fields.items) c.in-Struct.field-1.items c.args.layout.now c.in-Struct-layout.members c.in-Struct-layout.columns c.args.readers.now c.push_members.new.readers c.args.out.now c.put_byte.new.self c.push_members.new.out
    (ap shape c.in-Struct.is ∙ shape-Struct c.in-Struct.fields c.in-Struct.field-1) c.in-Struct-layout.is (omega (arith, c.requires.counted, w)) c.in_ok-put_byte-in-Struct-layout.ensures.found (rw c.deref-in-Struct-layout.ensures.value at f))

pub push_value-returns-in_ok-put_byte-in-Struct-layout-clause-none : goal.push_value-returns-in_ok-put_byte-in-Struct-layout-clause-none
push_value-returns-in_ok-put_byte-in-Struct-layout-clause-none g t c =
    if_err c.push_members.result c.push_members.ensures.none (λ cause given memory.
    let f = given memory in
    own_struct_lacks (shape c.args.tree.now) (fields_view c.in-Struct.fields.items) c.in-Struct.field-1.items c.args.readers.now
    (ap shape c.in-Struct.is ∙ shape-Struct c.in-Struct.fields c.in-Struct.field-1) f)

pub push_value-returns-in_ok-put_byte-in-Struct-layout-clause-fault : goal.push_value-returns-in_ok-put_byte-in-Struct-layout-clause-fault
push_value-returns-in_ok-put_byte-in-Struct-layout-clause-fault g t c =
    if_err c.push_members.result c.push_members.ensures.fault (λ cause given memory n.
    let w = some_width (shape c.args.tree.now) in
    let f = given memory n in
    own_struct_meets (shape c.args.tree.now) (fields_view c.in-Struct.fields.items) c.in-Struct.field-1.items c.args.readers.now false (suc n) cause (ap shape c.in-Struct.is ∙ shape-Struct c.in-Struct.fields c.in-Struct.field-1) (omega (arith, c.requires.counted, w)) f)

pub push_value-returns-in_ok-put_byte-in-Struct-layout-clause-before : goal.push_value-returns-in_ok-put_byte-in-Struct-layout-clause-before
push_value-returns-in_ok-put_byte-in-Struct-layout-clause-before g t c =
    on_ok c.push_members.result c.push_members.ensures.before (λ given all n f h.
    let w = some_width (shape c.args.tree.now) in
    let b = given all n f in
    struct_before (shape c.args.tree.now) (fields_view c.in-Struct.fields.items) c.in-Struct.field-1.items c.args.readers.now c.push_members.new.readers all n f (ap shape c.in-Struct.is ∙ shape-Struct c.in-Struct.fields c.in-Struct.field-1) (omega (arith, c.requires.counted, w)) b h)

-- ---- a map

pub push_pairs-loop-taken-preserved : goal.push_pairs-loop-taken-preserved
push_pairs-loop-taken-preserved g t c =
    let k = shape c.args.key.now in
    let v = shape c.args.value.now in
    record {
      passed = passed_next g.T.TextOutput.holds (PairsLeft k v c.args.readers.now) (PairsLeft k v c.loop-taken.readers) (PairsLeft k v c.push_pair.new.readers) (pair_text (pair_texts c.args.layouts.now))
          c.loop-taken.later c.loop-taken.taken c.args.out.now c.loop-taken.out c.push_comma_if.new.out c.push_pair.new.out c.in_ok-push_comma_if.ensures.found c.in_ok-push_pair.ensures.found c.loop-taken.invariant.passed;
      counted = search rules;
      before = λ all n f h.
          let e : c.loop-taken.taken + suc n ≡ c.loop-taken.taken + 1 + n = omega arith in
          subst (λ m. PairsMeet k v c.args.readers.now all m f) e (c.loop-taken.invariant.before all (suc n) f (c.in_ok-push_pair.ensures.before all n f h));
    }

pub push_pairs-returns-in_err-push_pair-clause-none : goal.push_pairs-returns-in_err-push_pair-clause-none
push_pairs-returns-in_err-push_pair-clause-none g t c =
    let p = err_from_is_err_and c.from_residual-in_err-push_pair.result c.from_residual-in_err-push_pair.ensures.1 in
    rw (p.1, p.2) (λ memory. cells_lacking (PairsLeft (shape c.args.key.now) (shape c.args.value.now) c.args.readers.now) (PairsLeft (shape c.args.key.now) (shape c.args.value.now) c.loop-taken.readers) c.loop-taken.invariant.passed.all c.loop-taken.taken c.args.count
    c.loop-taken.invariant.passed.counted c.loop-taken-test.true c.loop-taken.invariant.passed.taken (c.in_err-push_pair.ensures.none memory))

pub push_pairs-returns-clause-found : goal.push_pairs-returns-clause-found
push_pairs-returns-clause-found g t c =
    let e : c.loop-taken.taken ≡ c.args.count = let e = c.loop-taken.auto.taken-end in omega (arith, e, c.loop-taken-test.false) in
    passed_all g.T.TextOutput.holds (PairsLeft (shape c.args.key.now) (shape c.args.value.now) c.args.readers.now) (PairsLeft (shape c.args.key.now) (shape c.args.value.now) c.loop-taken.readers) (pair_text (pair_texts c.args.layouts.now)) c.loop-taken.later c.loop-taken.taken c.args.count
    c.args.out.now c.loop-taken.out e c.loop-taken.invariant.passed

pub push_pairs-returns-in_err-push_pair-clause-fault : goal.push_pairs-returns-in_err-push_pair-clause-fault
push_pairs-returns-in_err-push_pair-clause-fault g t c =
    let p = err_from_is_err_and c.from_residual-in_err-push_pair.result c.from_residual-in_err-push_pair.ensures.1 in
    rw (p.1, p.2) (λ memory n.
    let more : ℕ = c.args.count + n - c.loop-taken.taken - 1 in
    let e : c.loop-taken.taken + suc more ≡ c.args.count + n = omega (arith, c.loop-taken-test.true) in
    subst (λ m. PairsMeet (shape c.args.key.now) (shape c.args.value.now) c.args.readers.now false m c.in_err-push_pair.field-0.0) e (c.loop-taken.invariant.before false (suc more) c.in_err-push_pair.field-0.0 (c.in_err-push_pair.ensures.fault memory more)))

pub push_pairs-returns-clause-before : goal.push_pairs-returns-clause-before
push_pairs-returns-clause-before g t c =
    λ all n f h.
    let e : c.loop-taken.taken + n ≡ c.args.count + n = omega (arith, c.loop-taken.auto.taken-end, c.loop-taken-test.false) in
    subst (λ m. PairsMeet (shape c.args.key.now) (shape c.args.value.now) c.args.readers.now all m f) e (c.loop-taken.invariant.before all n f h)

pub push_map-returns-clause-found : goal.push_map-returns-clause-found
push_map-returns-clause-found g t c =
    let f = c.in_ok-push_pairs.ensures.found in
    record {
      one = f.all;
      taken = map_taken (shape c.args.key.now) (shape c.args.value.now) c.args.readers.now c.push_pairs.new.readers (record { present = (get_or c.args.readers.now 0 c.index-readers-0.result).present; source = c.next_size.new.source }) c.index-readers-0.result c.in_ok-size.size f.all (omega (arith, c.requires.counted))
          c.in_ok-size.ensures.found c.in_ok-size.ensures.room.0 c.in_ok-size.ensures.room.1 f.counted f.taken;
      put = bracketed g.T.TextOutput.holds c.args.out.now c.put_byte.new.self c.push_pairs.new.out c.put_byte-2.new.self (comma_texts (pair_text (pair_texts c.args.layouts.now)) false f.all) c.in_ok-put_byte.ensures.found f.put c.in_ok-put_byte-2.ensures.found;
    }

pub push_map-returns-in_err-push_pairs-clause-none : goal.push_map-returns-in_err-push_pairs-clause-none
push_map-returns-in_err-push_pairs-clause-none g t c =
    let p = err_from_is_err_and c.from_residual-in_err-push_pairs.result c.from_residual-in_err-push_pairs.ensures.1 in
    rw (p.1, p.2) (λ memory.
    map_lacking (shape c.args.key.now) (shape c.args.value.now) c.args.readers.now (record { present = (get_or c.args.readers.now 0 c.index-readers-0.result).present; source = c.next_size.new.source }) c.index-readers-0.result c.in_ok-size.size
    c.in_ok-size.ensures.found (c.in_err-push_pairs.ensures.none memory))

pub push_map-returns-in_err-push_pairs-clause-fault : goal.push_map-returns-in_err-push_pairs-clause-fault
push_map-returns-in_err-push_pairs-clause-fault g t c =
    let p = err_from_is_err_and c.from_residual-in_err-push_pairs.result c.from_residual-in_err-push_pairs.ensures.1 in
    rw (p.1, p.2) (λ memory n.
    let own : ColumnReader = record { present = (get_or c.args.readers.now 0 c.index-readers-0.result).present; source = c.next_size.new.source } in
    maps_pairs (shape c.args.key.now) (shape c.args.value.now) c.args.readers.now c.index-readers-0.result own n c.in_ok-size.size c.in_err-push_pairs.field-0.0 (omega (arith, c.requires.counted)) c.in_ok-size.ensures.first (c.in_err-push_pairs.ensures.fault memory 0))

pub push_map-returns-in_err-size-clause-fault : goal.push_map-returns-in_err-size-clause-fault
push_map-returns-in_err-size-clause-fault g t c =
    let p = err_from_is_err_and c.from_residual.result c.from_residual.ensures.1 in
    rw (p.1, p.2) (λ memory n.
    maps_size (shape c.args.key.now) (shape c.args.value.now) c.args.readers.now c.index-readers-0.result false (suc n) c.in_err-size.field-0.0 (omega (arith, c.requires.counted)) (c.in_err-size.ensures.fault memory n))

pub push_map-returns-clause-before : goal.push_map-returns-clause-before
push_map-returns-clause-before g t c =
    λ all n f h.
    let own : ColumnReader = record { present = (get_or c.args.readers.now 0 c.index-readers-0.result).present; source = c.next_size.new.source } in
    map_before (shape c.args.key.now) (shape c.args.value.now) c.args.readers.now c.push_pairs.new.readers c.index-readers-0.result own all n c.in_ok-size.size f (omega (arith, c.requires.counted)) c.in_ok-size.ensures.first (c.in_ok-size.ensures.before all n f)
    (λ m. c.in_ok-push_pairs.ensures.before all m f) h

pub push_pair-returns-clause-found : goal.push_pair-returns-clause-found
push_pair-returns-clause-found g t c =
    let k = shape c.args.key.now in
    let v = shape c.args.value.now in
    let w = c.own_width-own.ensures in
    let n : length c.push_cell.new.readers ≡ c.own_width-own.result = first_counted c.own_width-own.result (width v) c.args.readers.now c.push_cell.new.readers (omega (arith, c.requires.counted, w)) c.push_cell.auto.readers in
    pair_taken g.T.TextOutput.holds k v c.args.layouts.now c.args.readers.now _ (take c.own_width-own.result c.args.readers.now) c.push_cell.new.readers _ c.push_cell-2.new.readers
    c.args.out.now c.put_byte.new.self c.push_cell.new.out c.put_byte-2.new.self c.push_cell-2.new.out c.put_byte-3.new.self
    (ap (λ m. take m c.args.readers.now) w) (fields_behind c.own_width-own.result c.args.readers.now c.push_cell.new.readers n ∙ ap (λ m. drop m c.args.readers.now) w)
    (fields_put c.own_width-own.result c.args.readers.now c.push_cell.new.readers c.push_cell-2.new.readers n) (n ∙ w)
    c.in_ok-put_byte.ensures.found c.in_ok-push_cell.ensures.found c.in_ok-put_byte-2.ensures.found c.in_ok-push_cell-2.ensures.found c.in_ok-put_byte-3.ensures.found

pub push_pair-returns-clause-before : goal.push_pair-returns-clause-before
push_pair-returns-clause-before g t c =
    λ all n f h.
    let w = c.own_width-own.ensures in
    let l : length c.push_cell.new.readers ≡ c.own_width-own.result = first_counted c.own_width-own.result (width (shape c.args.value.now)) c.args.readers.now c.push_cell.new.readers (omega (arith, c.requires.counted, w)) c.push_cell.auto.readers in
    pair_before (shape c.args.key.now) (shape c.args.value.now) c.args.readers.now _ (take c.own_width-own.result c.args.readers.now) c.push_cell.new.readers _ c.push_cell-2.new.readers all n f
    (ap (λ m. take m c.args.readers.now) w) (fields_behind c.own_width-own.result c.args.readers.now c.push_cell.new.readers l ∙ ap (λ m. drop m c.args.readers.now) w)
    (fields_put c.own_width-own.result c.args.readers.now c.push_cell.new.readers c.push_cell-2.new.readers l) (l ∙ w) (c.in_ok-push_cell.ensures.before all n f) (c.in_ok-push_cell-2.ensures.before all n f) h

pub push_value-returns-in-Map-layout-clause-found : goal.push_value-returns-in-Map-layout-clause-found
push_value-returns-in-Map-layout-clause-found g t c =
    on_ok c.push_map.result c.push_map.ensures.found (λ given.
    let w = some_width (shape c.args.tree.now) in
    let f = given in
    map_taken_text g.T.TextOutput.holds (shape c.args.tree.now) (shape c.in-Map.key.value) (shape c.in-Map.value.value) c.in-Map.field-2.items c.args.layout.now c.in-Map-layout.layouts c.args.readers.now c.push_map.new.readers c.args.out.now c.push_map.new.out
    (ap shape c.in-Map.is ∙ shape-Map c.in-Map.key c.in-Map.value c.in-Map.field-2) c.in-Map-layout.is (omega (arith, c.requires.counted, w)) c.push_map.auto.readers (rw (c.deref-in-Map-layout.ensures, c.deref-in-Map-layout-2.ensures, c.deref-in-Map-layout-3.ensures) at f))

pub push_value-returns-in-Map-layout-clause-none : goal.push_value-returns-in-Map-layout-clause-none
push_value-returns-in-Map-layout-clause-none g t c =
    if_err c.push_map.result c.push_map.ensures.none (λ cause given memory.
    let f = given memory in
    own_map_lacks (shape c.args.tree.now) (shape c.in-Map.key.value) (shape c.in-Map.value.value) c.in-Map.field-2.items c.args.readers.now
    (ap shape c.in-Map.is ∙ shape-Map c.in-Map.key c.in-Map.value c.in-Map.field-2) (rw (c.deref-in-Map-layout.ensures, c.deref-in-Map-layout-2.ensures) at f))

pub push_value-returns-in-Map-layout-clause-fault : goal.push_value-returns-in-Map-layout-clause-fault
push_value-returns-in-Map-layout-clause-fault g t c =
    if_err c.push_map.result c.push_map.ensures.fault (λ cause given memory n.
    let f = given memory n in
    maps_own (shape c.args.tree.now) (shape c.in-Map.key.value) (shape c.in-Map.value.value) c.in-Map.field-2.items c.args.readers.now false (suc n) cause (ap shape c.in-Map.is ∙ shape-Map c.in-Map.key c.in-Map.value c.in-Map.field-2) (rw (c.deref-in-Map-layout.ensures, c.deref-in-Map-layout-2.ensures) at f))

pub push_value-returns-in-Map-layout-clause-before : goal.push_value-returns-in-Map-layout-clause-before
push_value-returns-in-Map-layout-clause-before g t c =
    on_ok c.push_map.result c.push_map.ensures.before (λ given all n f h.
    let is = ap shape c.in-Map.is ∙ shape-Map c.in-Map.key c.in-Map.value c.in-Map.field-2 in
    let b = given all n f in
    let r = rw (c.deref-in-Map-layout.ensures, c.deref-in-Map-layout-2.ensures) at b in
    maps_own (shape c.args.tree.now) (shape c.in-Map.key.value) (shape c.in-Map.value.value) c.in-Map.field-2.items c.args.readers.now all (suc n) f is
    (r (own_maps (shape c.args.tree.now) (shape c.in-Map.key.value) (shape c.in-Map.value.value) c.in-Map.field-2.items c.push_map.new.readers all n f is h)))

pub push_pair-returns-in_err-push_cell-2-clause-none : goal.push_pair-returns-in_err-push_cell-2-clause-none
push_pair-returns-in_err-push_cell-2-clause-none g t c =
    let k = shape c.args.key.now in
    let v = shape c.args.value.now in
    let w = c.own_width-own.ensures in
    let l : length c.push_cell.new.readers ≡ c.own_width-own.result = first_counted c.own_width-own.result (width v) c.args.readers.now c.push_cell.new.readers (omega (arith, c.requires.counted, w)) c.push_cell.auto.readers in
    let p = err_from_is_err_and c.from_residual-in_err-push_cell-2.result c.from_residual-in_err-push_cell-2.ensures.1 in
    rw (p.1, p.2) (λ memory. pair_lacks k v c.args.readers.now _ (fields_behind c.own_width-own.result c.args.readers.now c.push_cell.new.readers l ∙ ap (λ m. drop m c.args.readers.now) w) (c.in_err-push_cell-2.ensures.none memory))

pub push_pair-returns-in_err-push_cell-2-clause-fault : goal.push_pair-returns-in_err-push_cell-2-clause-fault
push_pair-returns-in_err-push_cell-2-clause-fault g t c =
    let k = shape c.args.key.now in
    let v = shape c.args.value.now in
    let w = c.own_width-own.ensures in
    let l : length c.push_cell.new.readers ≡ c.own_width-own.result = first_counted c.own_width-own.result (width v) c.args.readers.now c.push_cell.new.readers (omega (arith, c.requires.counted, w)) c.push_cell.auto.readers in
    let p = err_from_is_err_and c.from_residual-in_err-push_cell-2.result c.from_residual-in_err-push_cell-2.ensures.1 in
    rw (p.1, p.2) (λ memory n. inr (subst (λ xs. CellsMeet v xs false (suc n) c.in_err-push_cell-2.field-0.0) (fields_behind c.own_width-own.result c.args.readers.now c.push_cell.new.readers l ∙ ap (λ m. drop m c.args.readers.now) w) (c.in_err-push_cell-2.ensures.fault memory n)))
