use Rattle.std.proofs.Common.{ℕ, ap, ◌∙◌}
use Rattle.std.specs.Option.{is_some}
use Rattle.std.proofs.lemmas.Result.{err_from_is_err_and}
use Rattle.orc_wire.specs.Spells.{number_in}
use Rattle.orc_wire.specs.FieldItem.{item_of}
use Rattle.orc_wire.proofs.ReadLemmas.{reads_badly, reads_refused, reads_incomplete, reads_all, bytes_are, tests_start, tests_next, tests_done, tests_found}
use Rattle.orc_wire.proofs.message.test_fields.Goals as goal

pub returns-in_err-field-clause-fault : goal.returns-in_err-field-clause-fault
returns-in_err-field-clause-fault g c =
    let m = g.M.Message in
    let t = c.loop-next.invariant in
    let gives = rw c.in_err-field.was at c.in-Some.ensures.steps in
    let bad = reads_badly m.members m.REQUIRED c.args.place c.args.bytes.now c.loop-next.next-iterator.rest.now c.loop-next.next-iterator.place t.content c.loop-next.complete c.in_err-field.field-0.0
    t.reads gives.0 gives.1 in
    let p = err_from_is_err_and c.from_residual.result c.from_residual.ensures.1 in
    rw (p.1, p.2) bad

pub returns-in_err-test-clause-fault : goal.returns-in_err-test-clause-fault
returns-in_err-test-clause-fault g c =
    let m = g.M.Message in
    let t = c.loop-next.invariant in
    let gives = rw c.in_ok-field.was at c.in-Some.ensures.steps in
    let p = err_from_is_err_and c.from_residual-in_err-test.result c.from_residual-in_err-test.ensures.1 in
    let fails = c.in_err-test.ensures.fault t.content t.kept in
    let bad = reads_refused m.members m.REQUIRED c.args.place c.args.bytes.now c.loop-next.next-iterator.rest.now c.next.new.self.rest.now c.loop-next.next-iterator.place t.content c.loop-next.complete (item_of c.in_ok-field.field) c.in_err-test.field-0.0
    t.reads gives.0 gives.1 fails in
    rw (p.1, p.2) bad

pub loop-next-preserved-then-complete : goal.loop-next-preserved-then-complete
loop-next-preserved-then-complete g c =
    let m = g.M.Message in
    let gives = rw c.in_ok-field.was at c.in-Some.ensures.steps in
    let are = bytes_are c.args.bytes.now (λ i. (c.type_inv.bytes i).fits) in
    let next = tests_next m.members m.REQUIRED m.sees c.args.place c.args.bytes.now c.loop-next.next-iterator.rest.now c.next.new.self.rest.now c.loop-next.next-iterator.place c.next.new.self.place c.loop-next.seen c.test.new.seen c.loop-next.complete (item_of c.in_ok-field.field)
    are c.loop-next.invariant gives.0 gives.1 gives.2 c.in_ok-test.ensures.ok c.in_ok-test.ensures.keeps in
    tests_done m.members m.REQUIRED m.sees c.args.place c.args.bytes.now c.next.new.self.rest.now c.next.new.self.place c.test.new.seen c.loop-next.complete (is_some (number_in m.REQUIRED (item_of c.in_ok-field.field))) next c.if-complete.true

pub loop-next-preserved : goal.loop-next-preserved
loop-next-preserved g c =
    let m = g.M.Message in
    let gives = rw c.in_ok-field.was at c.in-Some.ensures.steps in
    let are = bytes_are c.args.bytes.now (λ i. (c.type_inv.bytes i).fits) in
    let next = tests_next m.members m.REQUIRED m.sees c.args.place c.args.bytes.now c.loop-next.next-iterator.rest.now c.next.new.self.rest.now c.loop-next.next-iterator.place c.next.new.self.place c.loop-next.seen c.test.new.seen c.loop-next.complete (item_of c.in_ok-field.field)
    are c.loop-next.invariant gives.0 gives.1 gives.2 c.in_ok-test.ensures.ok c.in_ok-test.ensures.keeps in
    let found = c.is_some-found.ensures ∙ ap is_some (c.varint.ensures ∙ ap (λ (k : ℕ). number_in k (item_of c.in_ok-field.field)) c.REQUIRED.ensures) in
    tests_found m.members m.REQUIRED m.sees c.args.place c.args.bytes.now c.next.new.self.rest.now c.next.new.self.place c.test.new.seen c.loop-next.complete (is_some (number_in m.REQUIRED (item_of c.in_ok-field.field))) c.is_some-found.result next c.if-complete.false found

pub returns-else-complete-2-clause-fault : goal.returns-else-complete-2-clause-fault
returns-else-complete-2-clause-fault g c =
    let m = g.M.Message in
    let t = c.loop-next.invariant in
    let gives = c.in-None.ensures.steps in
    reads_incomplete m.members m.REQUIRED c.args.place c.args.bytes.now c.loop-next.next-iterator.rest.now c.loop-next.next-iterator.place t.content c.loop-next.complete t.reads gives.0 c.if-complete-2.false

pub returns-then-complete-2-clause-found : goal.returns-then-complete-2-clause-found
returns-then-complete-2-clause-found g c =
    let m = g.M.Message in
    let t = c.loop-next.invariant in
    let gives = c.in-None.ensures.steps in
    (t.content, reads_all m.members m.REQUIRED c.args.place c.args.bytes.now c.loop-next.next-iterator.rest.now c.loop-next.next-iterator.place t.content c.loop-next.complete t.reads gives.0 c.if-complete-2.true)
