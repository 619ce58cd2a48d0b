use Rattle.std.proofs.Common.{◌∙◌}
use Rattle.std.proofs.lemmas.Result.{IfErr-weaker}
use Rattle.orc_wire.specs.FieldItem.{item_of}
use Rattle.orc_wire.proofs.PutLemmas.{on_ok_any, on_ok_then}
use Rattle.orc_wire.proofs.InnerLemmas.{first_passes, first_keeps, first_fails, repeated_fails}
use Rattle.orc_wire.proofs.inner.test_only.Goals as goal

pub returns-then-seen-clause-fault : goal.returns-then-seen-clause-fault
returns-then-seen-clause-fault g c = λ old is.
    let m = g.M.Message in
    repeated_fails m.members m.REQUIRED c.args.n (item_of c.args.field.now) c.in-Some.fields.rest.now c.in-Some.fields.place c.in-Some.ensures.bytes c.in-Some.ensures.place old (is ∙ c.if-seen.true)

pub returns-else-seen-clause-ok : goal.returns-else-seen-clause-ok
returns-else-seen-clause-ok g c = λ old is.
    let m = g.M.Message in
    on_ok_then c.test_fields.result c.test_fields.ensures.found (λ found. first_passes m.members m.REQUIRED c.args.n (item_of c.args.field.now) c.in-Some.fields.rest.now c.in-Some.fields.place c.in-Some.ensures.bytes c.in-Some.ensures.place old (is ∙ c.if-seen.false) found)

pub returns-else-seen-clause-keeps : goal.returns-else-seen-clause-keeps
returns-else-seen-clause-keeps g c = λ old new is step.
    let m = g.M.Message in
    on_ok_any c.test_fields.result _ (first_keeps m.members m.REQUIRED c.args.n (item_of c.args.field.now) c.in-Some.fields.rest.now c.in-Some.fields.place c.in-Some.ensures.bytes c.in-Some.ensures.place old new (is ∙ c.if-seen.false) step)

pub returns-else-seen-clause-fault : goal.returns-else-seen-clause-fault
returns-else-seen-clause-fault g c = λ old is.
    let m = g.M.Message in
    IfErr-weaker c.test_fields.result _ _ (λ fault bad. first_fails m.members m.REQUIRED c.args.n (item_of c.args.field.now) c.in-Some.fields.rest.now c.in-Some.fields.place c.in-Some.ensures.bytes c.in-Some.ensures.place old (is ∙ c.if-seen.false) fault bad) c.test_fields.ensures.fault
