use Rattle.std.proofs.Common.{ℕ, ap, ◌∙◌, inl, inr}
use Rattle.std.specs.Option.{is_some}
use Rattle.std.proofs.lemmas.Result.{err_from_is_err_and}
use Rattle.orc_wire.specs.Spells.{number_in}
use Rattle.orc_wire.specs.laws.SpellsLaws.{one_spelled, none_spelled, one_refusal}
use Rattle.orc_wire.specs.FieldItem.{item_of}
use Rattle.orc_wire.proofs.ReadLemmas.{reads_next, reads_badly, reads_refused, reads_incomplete, reads_all, reads_done, reads_found}
use Rattle.orc_wire.proofs.message.Message.read_fields.Goals as goal

pub returns-in_err-field-clause-only : goal.returns-in_err-field-clause-only
returns-in_err-field-clause-only g c = λ content is.
    let m = g.Self.Message in
    let gives = rw c.in_err-field.was at c.in-Some.ensures.steps in
    let bad = reads_badly m.members m.REQUIRED c.args.fields.place c.args.fields.rest.now c.loop-next.next-iterator.rest.now c.loop-next.next-iterator.place c.loop-next.message c.loop-next.complete c.in_err-field.field-0.0
    c.loop-next.invariant gives.0 gives.1 in
    absurd (none_spelled m.members m.REQUIRED c.args.fields.place c.args.fields.rest.now content c.in_err-field.field-0.0 bad is)

pub returns-in_err-field-clause-refused : goal.returns-in_err-field-clause-refused
returns-in_err-field-clause-refused g c = λ fault is.
    let m = g.Self.Message in
    let gives = rw c.in_err-field.was at c.in-Some.ensures.steps in
    let bad = reads_badly m.members m.REQUIRED c.args.fields.place c.args.fields.rest.now c.loop-next.next-iterator.rest.now c.loop-next.next-iterator.place c.loop-next.message c.loop-next.complete c.in_err-field.field-0.0
    c.loop-next.invariant gives.0 gives.1 in
    let p = err_from_is_err_and c.from_residual.result c.from_residual.ensures.1 in
    rw (p.1, p.2) (inr (one_refusal m.members m.REQUIRED c.args.fields.place m.canonical.single c.args.fields.rest.now c.in_err-field.field-0.0 fault bad is))

pub returns-in_err-take-clause-only : goal.returns-in_err-take-clause-only
returns-in_err-take-clause-only g c = λ content is.
    let m = g.Self.Message in
    let gives = rw c.in_ok-field.was at c.in-Some.ensures.steps in
    let p = err_from_is_err_and c.from_residual-in_err-take.result c.from_residual-in_err-take.ensures.1 in
    elim c.in_err-take.ensures.fault [
      | inl memory ↦ rw (p.1, p.2) memory
      | inr fails ↦
          let bad = reads_refused m.members m.REQUIRED c.args.fields.place c.args.fields.rest.now c.loop-next.next-iterator.rest.now c.next.new.self.rest.now c.loop-next.next-iterator.place c.loop-next.message c.loop-next.complete (item_of c.in_ok-field.field) c.in_err-take.field-0.0
          c.loop-next.invariant gives.0 gives.1 fails in
          absurd (none_spelled m.members m.REQUIRED c.args.fields.place c.args.fields.rest.now content c.in_err-take.field-0.0 bad is)
    ]

pub returns-in_err-take-clause-refused : goal.returns-in_err-take-clause-refused
returns-in_err-take-clause-refused g c = λ fault is.
    let m = g.Self.Message in
    let gives = rw c.in_ok-field.was at c.in-Some.ensures.steps in
    let p = err_from_is_err_and c.from_residual-in_err-take.result c.from_residual-in_err-take.ensures.1 in
    elim c.in_err-take.ensures.fault [
      | inl memory ↦ rw (p.1, p.2) (inl memory)
      | inr fails ↦
          let bad = reads_refused m.members m.REQUIRED c.args.fields.place c.args.fields.rest.now c.loop-next.next-iterator.rest.now c.next.new.self.rest.now c.loop-next.next-iterator.place c.loop-next.message c.loop-next.complete (item_of c.in_ok-field.field) c.in_err-take.field-0.0
          c.loop-next.invariant gives.0 gives.1 fails in
          rw (p.1, p.2) (inr (one_refusal m.members m.REQUIRED c.args.fields.place m.canonical.single c.args.fields.rest.now c.in_err-take.field-0.0 fault bad is))
    ]

pub loop-next-preserved-then-complete : goal.loop-next-preserved-then-complete
loop-next-preserved-then-complete g c =
    let m = g.Self.Message in
    let gives = rw c.in_ok-field.was at c.in-Some.ensures.steps in
    let next = reads_next m.members m.REQUIRED c.args.fields.place c.args.fields.rest.now c.loop-next.next-iterator.rest.now c.next.new.self.rest.now c.loop-next.next-iterator.place c.next.new.self.place c.loop-next.message c.take.new.self c.loop-next.complete (item_of c.in_ok-field.field)
    c.loop-next.invariant gives.0 gives.1 gives.2 c.in_ok-take.ensures.ok in
    reads_done m.members m.REQUIRED c.args.fields.place c.args.fields.rest.now c.next.new.self.rest.now c.next.new.self.place c.take.new.self c.loop-next.complete (is_some (number_in m.REQUIRED (item_of c.in_ok-field.field))) next c.if-complete.true

pub loop-next-preserved : goal.loop-next-preserved
loop-next-preserved g c =
    let m = g.Self.Message in
    let gives = rw c.in_ok-field.was at c.in-Some.ensures.steps in
    let next = reads_next m.members m.REQUIRED c.args.fields.place c.args.fields.rest.now c.loop-next.next-iterator.rest.now c.next.new.self.rest.now c.loop-next.next-iterator.place c.next.new.self.place c.loop-next.message c.take.new.self c.loop-next.complete (item_of c.in_ok-field.field)
    c.loop-next.invariant gives.0 gives.1 gives.2 c.in_ok-take.ensures.ok in
    let found = c.is_some-found.ensures ∙ ap is_some (c.varint.ensures ∙ ap (λ (k : ℕ). number_in k (item_of c.in_ok-field.field)) c.REQUIRED.ensures) in
    reads_found m.members m.REQUIRED c.args.fields.place c.args.fields.rest.now c.next.new.self.rest.now c.next.new.self.place c.take.new.self c.loop-next.complete (is_some (number_in m.REQUIRED (item_of c.in_ok-field.field))) c.is_some-found.result next c.if-complete.false found

pub returns-then-not-complete-clause-only : goal.returns-then-not-complete-clause-only
returns-then-not-complete-clause-only g c = λ content is.
    let m = g.Self.Message in
    let gives = c.in-None.ensures.steps in
    let bad = reads_incomplete m.members m.REQUIRED c.args.fields.place c.args.fields.rest.now c.loop-next.next-iterator.rest.now c.loop-next.next-iterator.place c.loop-next.message c.loop-next.complete c.loop-next.invariant gives.0 c.if-not-complete.true in
    absurd (none_spelled m.members m.REQUIRED c.args.fields.place c.args.fields.rest.now content _ bad is)

pub returns-then-not-complete-clause-refused : goal.returns-then-not-complete-clause-refused
returns-then-not-complete-clause-refused g c = λ fault is.
    let m = g.Self.Message in
    let gives = c.in-None.ensures.steps in
    let bad = reads_incomplete m.members m.REQUIRED c.args.fields.place c.args.fields.rest.now c.loop-next.next-iterator.rest.now c.loop-next.next-iterator.place c.loop-next.message c.loop-next.complete c.loop-next.invariant gives.0 c.if-not-complete.true in
    inr (one_refusal m.members m.REQUIRED c.args.fields.place m.canonical.single c.args.fields.rest.now _ fault bad is)

pub returns-clause-only : goal.returns-clause-only
returns-clause-only g c = λ content is.
    let m = g.Self.Message in
    let gives = c.in-None.ensures.steps in
    let found = reads_all m.members m.REQUIRED c.args.fields.place c.args.fields.rest.now c.loop-next.next-iterator.rest.now c.loop-next.next-iterator.place c.loop-next.message c.loop-next.complete c.loop-next.invariant gives.0 c.if-not-complete.false in
    one_spelled m.members m.REQUIRED c.args.fields.place c.args.fields.rest.now c.loop-next.message content found is

pub returns-clause-refused : goal.returns-clause-refused
returns-clause-refused g c = λ fault is.
    let m = g.Self.Message in
    let gives = c.in-None.ensures.steps in
    let found = reads_all m.members m.REQUIRED c.args.fields.place c.args.fields.rest.now c.loop-next.next-iterator.rest.now c.loop-next.next-iterator.place c.loop-next.message c.loop-next.complete c.loop-next.invariant gives.0 c.if-not-complete.false in
    none_spelled m.members m.REQUIRED c.args.fields.place c.args.fields.rest.now c.loop-next.message fault is found
