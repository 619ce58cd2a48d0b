use Rattle.std.proofs.lemmas.Result.{IfErr-weaker}
use Rattle.orc_wire.specs.FieldItem.{item_of}
use Rattle.orc_wire.proofs.PutLemmas.{on_ok_then}
use Rattle.orc_wire.proofs.InnerLemmas.{present_allowed, present_fails}
use Rattle.orc_wire.proofs.inner.test_each.Goals as goal

pub returns-in-Some-clause-ok : goal.returns-in-Some-clause-ok
returns-in-Some-clause-ok g c =
    let m = g.M.Message in
    on_ok_then c.test_fields.result c.test_fields.ensures.found (λ is. present_allowed m.members m.REQUIRED c.args.n (item_of c.args.field.now) c.in-Some.fields.rest.now c.in-Some.fields.place c.in-Some.ensures.bytes c.in-Some.ensures.place is)

pub returns-in-Some-clause-fault : goal.returns-in-Some-clause-fault
returns-in-Some-clause-fault g c =
    let m = g.M.Message in
    IfErr-weaker c.test_fields.result _ _ (λ fault bad. present_fails m.members m.REQUIRED c.args.n (item_of c.args.field.now) c.in-Some.fields.rest.now c.in-Some.fields.place c.in-Some.ensures.bytes c.in-Some.ensures.place fault bad) c.test_fields.ensures.fault
