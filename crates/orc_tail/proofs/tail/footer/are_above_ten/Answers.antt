use Rattle.orc_wire.specs.FieldItem.{item_of}
use Rattle.orc_tail.proofs.KeptLemmas.{scanned_next, low_field, bad_field}
use Rattle.orc_tail.proofs.tail.footer.are_above_ten.Goals as goal

pub loop-next-preserved : goal.loop-next-preserved
loop-next-preserved c =
    let gives = rw c.in-Ok.is at c.in-Some.ensures.steps in
    scanned_next c.args.kept.now c.loop-next.next-iterator.rest.now c.next.new.self.rest.now c.loop-next.next-iterator.place c.next.new.self.place (item_of c.in-Ok.field)
    c.loop-next.invariant gives.0 gives.1 gives.2 c.if-field-le10.false

pub returns-then-field-le10-clause-no : goal.returns-then-field-le10-clause-no
returns-then-field-le10-clause-no c = λ kept.
    let gives = rw c.in-Ok.is at c.in-Some.ensures.steps in
    low_field c.args.kept.now c.loop-next.next-iterator.rest.now c.next.new.self.rest.now c.loop-next.next-iterator.place (item_of c.in-Ok.field)
    c.loop-next.invariant gives.0 gives.1 c.if-field-le10.true kept

pub returns-in-Err-clause-no : goal.returns-in-Err-clause-no
returns-in-Err-clause-no c = λ kept.
    let gives = rw c.in-Err.is at c.in-Some.ensures.steps in
    bad_field c.args.kept.now c.loop-next.next-iterator.rest.now c.loop-next.next-iterator.place c.in-Err.field-0 c.loop-next.invariant gives.0 gives.1 kept
